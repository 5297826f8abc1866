-- Document 02, W1: what is proved of drawn reading, sentence by sentence.
use Rattle.std.specs.Prelude.{ℕ, suc, ◌<◌, ◌≤◌, ◌≡◌, ◌↔◌, List, [], length, get_or}
use Rattle.lists.specs.Lists.{list_of}
use Rattle.plan.specs.declared.record.Plan.{Plan}
use Rattle.plan.specs.Record.{max_gates, zero_plan, places, gate_at, gate_wire}
use Rattle.plan_evaluation_checks.specs.EvaluationChecks.{contact_fault}
use Rattle.plan_fields.specs.Parsing.{got}
use Rattle.plan_fields.specs.Fields.{gate_step_within}
use Rattle.plan_reading.specs.PlanFile.{plan_read, drawing_read}
use Rattle.plan_order.specs.Order.{HasCycle, LeastLeft, TakenInOrder}
use Rattle.plan_order.specs.Drawing.{drawn_first, drawn_second, drawn_order, ordered_plan, OrderedRight, GivesTheSame}
use Rattle.plan_drawn.specs.DrawnFile.{map_offset, drawn_read}

module _ (s : List ℕ) where
  -- the drawing that the file holds
  abbrev pub drawing : Plan
  drawing = (drawing_read s).plan

  -- the offset of 15 is that of the map byte of the least gate that is never taken: behind the gates before it, and what stands there is this gate.
  -- Record and list are all zero
  pub record CycleAt : Type 0 where
    pub gate : ℕ
    pub least : LeastLeft drawing.inputs drawing.gate_count (drawn_first drawing) (drawn_second drawing) gate
    pub answer : drawn_read s ≡ record {
      number = 15;
      at = map_offset drawing.inputs drawing.gate_count gate s;
      plan = zero_plan;
      drawn = places max_gates 0 [];
    }
    pub next : ℕ
    pub stands : gate_step_within (gate_wire drawing.inputs drawing.gate_count) (gate_wire drawing.inputs gate) s (drawn_read s).at
        ≡ got (gate_at drawing gate) next

  -- "Number 15 is given exactly if some gates each draw from a gate of the same set", after every check before it, and these are the drawing's own
  pub record CycleRefused : Type 0 where
    pub earlier : ((drawing_read s).number ≡ 0 → ⊥)
        → drawn_read s ≡ record { number = (drawing_read s).number; at = (drawing_read s).at; plan = zero_plan; drawn = places max_gates 0 [] }
    pub exactly : ((drawn_read s).number ≡ 15)
        ↔ (((drawing_read s).number ≡ 0) × HasCycle drawing.inputs drawing.gate_count (drawn_first drawing) (drawn_second drawing))
    pub at : (drawn_read s).number ≡ 15 → CycleAt
    pub otherwise : (drawing_read s).number ≡ 0 → ((drawn_read s).number ≡ 15 → ⊥) → (drawn_read s).number ≡ 0

  -- what a drawn plan is, where it is read: the list is the order of the drawn gates, each counted from 1; the plan is the drawing in this order, and
  -- gives what the drawing gives
  pub record DrawnRight : Type 0 where
    pub read : (drawing_read s).number ≡ 0
    pub at : (drawn_read s).at ≡ 0
    pub entries : length (drawn_read s).drawn ≡ max_gates
    pub list : (p : ℕ) → p < drawing.gate_count → get_or (drawn_read s).drawn p 0 ≡ suc (get_or (drawn_order drawing) p 0)
    pub unused : (p : ℕ) → drawing.gate_count ≤ p → get_or (drawn_read s).drawn p 0 ≡ 0
    pub order : TakenInOrder drawing.inputs drawing.gate_count (drawn_first drawing) (drawn_second drawing)
    pub plan : (drawn_read s).plan ≡ ordered_plan drawing
    pub right : OrderedRight drawing
    pub same : (row : List ℕ) → contact_fault drawing.inputs row ≡ 0 → GivesTheSame drawing row

-- the list of a drawing that stands in the order of its numbers: 1 to k
abbrev pub in_order_numbers : ℕ → List ℕ
in_order_numbers k = places max_gates 0 (list_of k suc)

-- a file that the plain reading reads gives the same plan here, with the list 1 to k; and what is read here with another list is refused 7 there
pub record PlainAndDrawn (s : List ℕ) : Type 0 where
  pub plain : (plan_read s).number ≡ 0
      → drawn_read s ≡ record { number = 0; at = 0; plan = (plan_read s).plan; drawn = in_order_numbers (plan_read s).plan.gate_count }
  pub other : (drawn_read s).number ≡ 0 → ((drawn_read s).drawn ≡ in_order_numbers (drawn_read s).plan.gate_count → ⊥) → (plan_read s).number ≡ 7

-- for every file
abbrev pub CycleRefusedTheorem : Type 0
CycleRefusedTheorem = (s : List ℕ) → CycleRefused s

abbrev pub DrawnRightTheorem : Type 0
DrawnRightTheorem = (s : List ℕ) → (drawn_read s).number ≡ 0 → DrawnRight s

abbrev pub PlainAndDrawnTheorem : Type 0
PlainAndDrawnTheorem = (s : List ℕ) → PlainAndDrawn s
