-- Document 02, W1: a drawing, the plan that its order makes of it, and that the two give the same. A drawing is a plan record whose operands may be
-- any of its wires.
use Rattle.std.specs.Prelude.{ℕ, suc, ◌+◌, ◌-◌, ◌<◌, ◌≤◌, ◌≡◌, cond, List, [], ◌∷◌, eqb, leb, length, get_or}
use Rattle.lists.specs.Lists.{list_of}
use Rattle.plan.specs.declared.record.Gate.{Gate}
use Rattle.plan.specs.declared.record.Plan.{Plan}
use Rattle.plan.specs.Record.{max_gates, wire, places, plan_of, gate_at, output_at, gate_wire}
use Rattle.plan.specs.Faults.{Accepted, CountsWithin, GateWithin, OutputWithin}
use Rattle.plan_evaluation_checks.specs.EvaluationChecks.{contact_fault}
use Rattle.plan_evaluation.specs.Evaluation.{plan_outputs, table_bit, gate_bit}
use Rattle.plan_order.specs.Order.{order, lowest_left}

-- where g stands in a list, counted from 0
unfoldable pub place_in : List ℕ → ℕ → ℕ
place_in [] g = 0
place_in (x ∷ xs) g = cond (eqb x g) 0 (suc (place_in xs g))

module _ (d : Plan) where
  -- the wires that drawn gate g draws from
  abbrev pub drawn_first : ℕ → ℕ
  drawn_first g = (gate_at d g).first.0

  abbrev pub drawn_second : ℕ → ℕ
  drawn_second g = (gate_at d g).second.0

  -- the drawn gates in the order in which they are taken
  abbrev pub drawn_order : List ℕ
  drawn_order = order d.inputs d.gate_count drawn_first drawn_second

  -- the lowest drawn gate that is left over
  abbrev pub drawn_left : ℕ
  drawn_left = lowest_left d.inputs d.gate_count drawn_first drawn_second

  -- the number of a drawn wire in the plan: an input's own, a gate's by its place in the order
  unfoldable pub renumbered : ℕ → ℕ
  renumbered w = cond (leb w d.inputs) w (gate_wire d.inputs (place_in drawn_order (w - suc d.inputs)))

  -- a drawn gate with its operands renumbered
  abbrev pub renumbered_gate : Gate → Gate
  renumbered_gate g = record { first = wire (renumbered g.first.0); second = wire (renumbered g.second.0); table = g.table }

  -- the plan: the drawn gates in their order, and the drawn outputs
  abbrev pub ordered_plan : Plan
  ordered_plan =
      plan_of d.inputs d.gate_count d.output_count
      (list_of d.gate_count (λ p. renumbered_gate (gate_at d (get_or drawn_order p 0))))
      (list_of d.output_count (λ j. wire (renumbered (output_at d j).0)))

  -- "a list of the drawn number at each place", counted from 1; 0 in unused places
  abbrev pub drawn_numbers : List ℕ
  drawn_numbers = places max_gates 0 (list_of d.gate_count (λ p. suc (get_or drawn_order p 0)))

  -- the bounds of a drawing: an operand is one of its wires
  pub record DrawingWithin : Type 0 where
    pub counts : CountsWithin d.inputs d.gate_count d.output_count
    pub gate : (g : ℕ) → g < d.gate_count → GateWithin (suc (d.inputs + d.gate_count)) (gate_at d g)
    pub output : (j : ℕ) → j < d.output_count → OutputWithin d.inputs d.gate_count (output_at d j).0

  -- all its gates are taken
  pub record Orderable : Type 0 where
    pub within : DrawingWithin
    pub all : length drawn_order ≡ d.gate_count

  -- the gates and outputs of the plan, which has no plan fault
  pub record OrderedRight : Type 0 where
    pub accepted : Accepted ordered_plan
    pub gate : (p : ℕ) → p < d.gate_count → gate_at ordered_plan p ≡ renumbered_gate (gate_at d (get_or drawn_order p 0))
    pub output : (j : ℕ) → j < d.output_count → output_at ordered_plan j ≡ wire (renumbered (output_at d j).0)

  -- a choice of wire bits that fits every drawn gate and the row
  pub record Fits (row : List ℕ) (bit : ℕ → ℕ) : Type 0 where
    pub inputs : (i : ℕ) → i < d.inputs → bit (suc i) ≡ get_or row i 0
    pub gates : (g : ℕ) → g < d.gate_count
        → bit (gate_wire d.inputs g) ≡ table_bit (gate_at d g).table (bit (drawn_first g)) (bit (drawn_second g))

  -- "The plan gives what the drawing gives, the one choice of wire bits that fits every drawn gate"
  pub record GivesTheSame (row : List ℕ) : Type 0 where
    pub bit : ℕ → ℕ
    pub is_bit : (w : ℕ) → bit w ≤ 1
    pub fits : Fits row bit
    pub only : (other : ℕ → ℕ) → Fits row other → (w : ℕ) → 1 ≤ w → w ≤ d.inputs + d.gate_count → other w ≡ bit w
    pub outputs : (j : ℕ) → j < d.output_count → get_or (plan_outputs 0 gate_bit ordered_plan row) j 0 ≡ bit (output_at d j).0

-- for every drawing all of whose gates are taken, and every row of input contacts
abbrev pub OrderedPlanTheorem : Type 0
OrderedPlanTheorem = (d : Plan) → Orderable d → OrderedRight d

abbrev pub DrawingTheorem : Type 0
DrawingTheorem = (d : Plan) (row : List ℕ) → Orderable d → contact_fault d.inputs row ≡ 0 → GivesTheSame d row
