-- Document 02, W7: what is proved of a plan's figures.
use Rattle.std.specs.Prelude.{◌≡◌, ℕ, ◌+◌, ◌*◌, ◌<◌, ◌↔◌, ◌≢◌}
use Rattle.lists.specs.Counting.{sum_of}
use Rattle.powers.specs.Powers.{ceil_power}
use Rattle.plan.specs.declared.record.Plan.{Plan}
use Rattle.plan.specs.Record.{counted_uses, stored_uses, wire_count}
use Rattle.plan.specs.Faults.{plan_fault, Accepted, PlanWithin, Tallied}

-- "the uses add up to 2k + v": those that an accepted plan holds for its wires
abbrev pub UsesAddUp : Type 0
UsesAddUp = (p : Plan) → Accepted p → sum_of (stored_uses p) (wire_count p) ≡ 2 * p.gate_count + p.output_count

-- some stored figure is not the counted one
pub data FigureDiffers (p : Plan) : Type 0 where
  places_differ : (p.gate_places ≢ ceil_power p.gate_count) → FigureDiffers p
  uses_differ : (i : ℕ) → i < wire_count p → (stored_uses p i ≢ counted_uses p i) → FigureDiffers p

-- 17 exactly: no earlier fault, and some figure differs; no fault exactly where all are the counted ones
pub record TallyExactly (p : Plan) : Type 0 where
  pub tally : (plan_fault p ≡ 17) ↔ (PlanWithin p × FigureDiffers p)
  pub accepted : Accepted p ↔ (PlanWithin p × Tallied p)

abbrev pub TallyTheorem : Type 0
TallyTheorem = (p : Plan) → TallyExactly p
