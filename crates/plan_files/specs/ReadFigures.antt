-- Document 02, W7: "Reading sets them". What is proved of the figures of a plan that either reading hands back.
use Rattle.std.specs.Prelude.{ℕ, ◌+◌, ◌*◌, ◌≤◌, ◌≡◌, List}
use Rattle.lists.specs.Counting.{sum_of}
use Rattle.plan.specs.declared.record.Plan.{Plan}
use Rattle.plan.specs.Record.{stored_uses, wire_count}
use Rattle.plan.specs.Faults.{Accepted, Tallied}
use Rattle.plan_reading.specs.PlanFile.{plan_read}
use Rattle.plan_drawn.specs.DrawnFile.{drawn_read}

-- the plan is accepted, its figures are the counted ones and add up, and those past its wires are zero
pub record FiguresRead (p : Plan) : Type 0 where
  pub accepted : Accepted p
  pub tallied : Tallied p
  pub sum : sum_of (stored_uses p) (wire_count p) ≡ 2 * p.gate_count + p.output_count
  pub unused : (i : ℕ) → wire_count p ≤ i → stored_uses p i ≡ 0

-- for every file that is read, plainly and as it was drawn
abbrev pub PlainFiguresTheorem : Type 0
PlainFiguresTheorem = (s : List ℕ) → (plan_read s).number ≡ 0 → FiguresRead (plan_read s).plan

abbrev pub DrawnFiguresTheorem : Type 0
DrawnFiguresTheorem = (s : List ℕ) → (drawn_read s).number ≡ 0 → FiguresRead (drawn_read s).plan
