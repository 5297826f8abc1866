-- What drawn reading says, by what the plain reading and the reading of a drawing said.
use mathlib.Core.Path.{◌≡◌, sym, ap, subst, ◌∙◌}
use mathlib.Core.Logic.{inl, inr}
use mathlib.Core.Bool.{false}
use mathlib.Core.List.{List, []}
use Prim.Native.Nat.{ℕ, ◌≤◌}
use native.Mathlib.Omega.{arith}
use lib.Dec.{eqb}
use lib.ListN.{length}
use Rattle.std.specs.Prelude.{Result, IsErrAnd}
use Rattle.std.proofs.lemmas.Result.{err_from_is_err_and}
use Rattle.lists.proofs.CountingLaws.{passed}
use Rattle.fault.specs.Number.{fault_number}
use Rattle.fault.specs.declared.Refusal.{Refusal}
use Rattle.fault.proofs.ChecksLaws.{number-positive}
use Rattle.plan.specs.declared.record.Plan.{Plan}
use Rattle.plan.specs.Record.{max_gates, zero_plan, places}
use Rattle.plan_fields.specs.Parsing.{got}
use Rattle.plan_fields.specs.Answers.{refusal}
use Rattle.plan_reading.specs.PlanFile.{ReadOutcome, plan_read, drawing_file, drawing_read}
use Rattle.plan_order.specs.Drawing.{drawn_order, DrawingWithin}
use Rattle.plan_drawn.specs.declared.reading.DrawnPlan.{DrawnPlan}
use Rattle.plan_drawn.specs.Answers.{drawn_read_outcome}
use Rattle.plan_drawn.specs.DrawnFile.{no_cycle, drawn_file, DrawnOutcome, drawn_outcome, drawn_read}
use Rattle.plan_drawn.specs.DrawnTheorems.{in_order_numbers}
use Rattle.plan_drawn.proofs.DrawingFileLaws.{file-held, plan-got, drawing-got, drawing-within}
use Rattle.plan_drawn.proofs.DrawnTheoremsLaws.{cycle_refused_theorem, plain_and_drawn_theorem}

-- a refusal is handed on
pub no-drawing : (r : Result DrawnPlan Refusal) (x : Refusal) {o : DrawnOutcome} → IsErrAnd r (λ y. y ≡ x) → drawn_outcome (refusal x) ≡ o
    → drawn_read_outcome r ≡ o
no-drawing r x answered e = let (y, is, same) = err_from_is_err_and r answered in rw (is, same) e

module _ (s : List ℕ) where
  -- a plan was read
  module _ {p : Plan} (read : ◌≡◌ {A = ReadOutcome} (record { number = 0; at = 0; plan = p }) (plan_read s)) where
    plain-number : (plan_read s).number ≡ 0
    plain-number = ap (λ r. r.number) (sym read)

    pub plain-gates : p.gate_count ≤ max_gates
    plain-gates =
        subst (λ (q : Plan). q.gate_count ≤ max_gates) (ap (λ r. r.plan) (sym read)) (file-held false s (plan-got s plain-number).1).counts.gates

    pub plain-outcome : ◌≡◌ {A = DrawnOutcome} (record { number = 0; at = 0; plan = p; drawn = in_order_numbers p.gate_count }) (drawn_read s)
    plain-outcome =
        ap (λ (r : ReadOutcome). record { number = 0; at = 0; plan = r.plan; drawn = in_order_numbers r.plan.gate_count }) read
        ∙ sym ((plain_and_drawn_theorem s).plain plain-number)

  -- a drawing was read
  module _ {d : Plan} (read : ◌≡◌ {A = ReadOutcome} (record { number = 0; at = 0; plan = d }) (drawing_read s)) where
    parsed : (next : ℕ) × (drawing_file s 0 ≡ got d next)
    parsed =
        let g = drawing-got s (ap (λ r. r.number) (sym read)) in
        (g.0, g.1 ∙ ap (λ (r : ReadOutcome). got r.plan g.0) (sym read))

    pub drawing_bounds : DrawingWithin d
    drawing_bounds = drawing-within s parsed.1

    -- the cursor behind it does not matter
    any_cursor : (a b : ℕ) → drawn_outcome (no_cycle d s a) ≡ drawn_outcome (no_cycle d s b)
    unfolding no_cycle
    any_cursor a b = elim (passed (eqb (length (drawn_order d)) d.gate_count)) [ inl t ↦ rw t | inr f ↦ rw f ]

    pub drawing-outcome : drawn_outcome (no_cycle d s 0) ≡ drawn_read s
    unfolding drawn_read drawn_file
    drawing-outcome = any_cursor 0 parsed.0 ∙ rw parsed.1

  -- the drawing was refused
  pub refused-drawing : (x : Refusal) {p : Plan} → ◌≡◌ {A = ReadOutcome} (record { number = fault_number x.fault; at = x.at; plan = p }) (drawing_read s)
      → drawn_outcome (refusal x) ≡ drawn_read s
  refused-drawing x read =
      ap (λ (r : ReadOutcome). record { number = r.number; at = r.at; plan = zero_plan; drawn = places max_gates 0 [] }) read
      ∙ sym ((cycle_refused_theorem s).earlier (λ e. omega (arith, number-positive x.fault, ap (λ r. r.number) read)))
