-- Document 02, W7: what is proved of the edits, sentence by sentence. A record in memory has every place of its arrays, `HasPlaces`.
use Rattle.std.specs.Prelude.{ℕ, suc, ◌-◌, ◌+◌, ◌*◌, ◌≤◌, ◌≡◌, length}
use Rattle.lists.specs.Counting.{sum_of}
use Rattle.plan.specs.declared.record.Gate.{Gate}
use Rattle.plan.specs.declared.record.Plan.{Plan}
use Rattle.plan.specs.declared.record.PlanWire.{PlanWire}
use Rattle.plan.specs.Record.{max_gates, max_outputs, max_plan_wires, gate_at, output_at, stored_uses, wire_count, Agree}
use Rattle.plan.specs.Faults.{Accepted, Tallied}
use Rattle.plan_edits.specs.Edits.{EditOutcome, gate_replaced, gate_appended, output_replaced}

-- the record's arrays have all their places
pub record HasPlaces (p : Plan) : Type 0 where
  pub gates : length p.gates ≡ max_gates
  pub outputs : length p.outputs ≡ max_outputs
  pub uses : length p.uses ≡ max_plan_wires

-- what an edit that was done made of p: "After each edit the stored figures are the counted ones, and the uses add up to 2k + v", the plan is accepted, and
-- the figures past its wires are as they were
pub record Settled (p q : Plan) : Type 0 where
  pub accepted : Accepted q
  pub tallied : Tallied q
  pub sum : sum_of (stored_uses q) (wire_count q) ≡ 2 * q.gate_count + q.output_count
  pub past : (i : ℕ) → wire_count q ≤ i → stored_uses q i ≡ stored_uses p i
  pub has-places : HasPlaces q

-- gate `number` is g, and nothing else but figures has changed
pub record GateReplacedRight (p : Plan) (number : ℕ) (g : Gate) (q : Plan) : Type 0 where
  pub inputs : q.inputs ≡ p.inputs
  pub gate-count : q.gate_count ≡ p.gate_count
  pub output-count : q.output_count ≡ p.output_count
  pub outputs : q.outputs ≡ p.outputs
  pub gate : gate_at q (number - 1) ≡ g
  pub others : (i : ℕ) → (i ≡ number - 1 → ⊥) → gate_at q i ≡ gate_at p i
  pub settled : Settled p q

-- a gate more, g, and nothing else but figures has changed; nothing names the new wire
pub record GateAppendedRight (p : Plan) (g : Gate) (q : Plan) : Type 0 where
  pub inputs : q.inputs ≡ p.inputs
  pub gate-count : q.gate_count ≡ suc p.gate_count
  pub output-count : q.output_count ≡ p.output_count
  pub outputs : q.outputs ≡ p.outputs
  pub gate : gate_at q p.gate_count ≡ g
  pub others : (i : ℕ) → (i ≡ p.gate_count → ⊥) → gate_at q i ≡ gate_at p i
  pub unnamed : stored_uses q (wire_count p) ≡ 0
  pub settled : Settled p q

-- output `number` is o, and nothing else but figures has changed
pub record OutputReplacedRight (p : Plan) (number : ℕ) (o : PlanWire) (q : Plan) : Type 0 where
  pub inputs : q.inputs ≡ p.inputs
  pub gate-count : q.gate_count ≡ p.gate_count
  pub output-count : q.output_count ≡ p.output_count
  pub gates : q.gates ≡ p.gates
  pub output : output_at q (number - 1) ≡ o
  pub others : (j : ℕ) → (j ≡ number - 1 → ⊥) → output_at q j ≡ output_at p j
  pub settled : Settled p q

-- a refused edit gives the record back as it went in; one that was done gives what `Right` says
pub record EditIs (p : Plan) (Right : Plan → Type 0) (o : EditOutcome) : Type 0 where
  pub refused : (o.number ≡ 0 → ⊥) → o.plan ≡ p
  pub done : o.number ≡ 0 → Right o.plan

-- for every record in memory and whatever the edit brings
pub record EditsRight (p : Plan) : Type 0 where
  pub replace_gate : (number : ℕ) (g : Gate) → EditIs p (GateReplacedRight p number g) (gate_replaced p number g)
  pub append-gate : (g : Gate) → EditIs p (GateAppendedRight p g) (gate_appended p g)
  pub replace_output : (number : ℕ) (o : PlanWire) → EditIs p (OutputReplacedRight p number o) (output_replaced p number o)

abbrev pub EditsRightTheorem : Type 0
EditsRightTheorem = (p : Plan) → HasPlaces p → EditsRight p

-- unused places never matter: of records that agree the edits give the same number, and records that agree
pub record SameEdit (a b : EditOutcome) : Type 0 where
  pub number : a.number ≡ b.number
  pub agree : Agree a.plan b.plan

pub record SameEdits (p q : Plan) : Type 0 where
  pub replace_gate : (number : ℕ) (g : Gate) → SameEdit (gate_replaced p number g) (gate_replaced q number g)
  pub append-gate : (g : Gate) → SameEdit (gate_appended p g) (gate_appended q g)
  pub replace_output : (number : ℕ) (o : PlanWire) → SameEdit (output_replaced p number o) (output_replaced q number o)

abbrev pub SameEditsTheorem : Type 0
SameEditsTheorem = (p q : Plan) → HasPlaces p → HasPlaces q → Agree p q → SameEdits p q
