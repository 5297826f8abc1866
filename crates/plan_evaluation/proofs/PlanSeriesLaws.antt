-- The series of an accepted plan is one of contacts, and each of its rows can be evaluated.
use mathlib.Core.Path.{◌≡◌, subst}
use mathlib.Core.List.{List}
use Prim.Native.Nat.{ℕ, ◌+◌, ◌-◌, ◌≤◌, ◌<◌}
use native.Mathlib.Omega.{arith}
use native.Mathlib.Decide.{dec_lt}
use lib.ListN.{get_or, get_or-eq_default}
use Rattle.series.specs.Series.{interval_row}
use Rattle.series.proofs.SeriesLaws.{Contacts, ContactSeries, row-contacts}
use Rattle.plan.specs.declared.record.Plan.{Plan}
use Rattle.plan.specs.Faults.{Accepted}
use Rattle.plan_evaluation_checks.specs.EvaluationChecks.{Evaluable}
use Rattle.plan_series_checks.specs.SeriesChecks.{SeriesWithin}
use Rattle.plan_series_checks.proofs.SeriesChecksLaws.{contact-faultless}
use Rattle.plan_evaluation.specs.Evaluation.{plan_outputs, gate_bit}
use Rattle.plan_evaluation.proofs.EvaluationLaws.{length-plan_outputs, plan_outputs-bits}

-- evaluation gives v contacts for a row of u
outputs-contacts : (p : Plan) (row : List ℕ) → Contacts p.inputs row → Contacts p.output_count (plan_outputs 0 gate_bit p row)
outputs-contacts p row c = record { size = length-plan_outputs p row; bit = λ i. go i (dec_lt i p.output_count) }
  where
    go : (i : ℕ) → Dec (i < p.output_count) → get_or (plan_outputs 0 gate_bit p row) i 0 ≤ 1
    go i (yes l) = plan_outputs-bits p row ((contact-faultless p.inputs row).1 c) i l
    go i (no l) =
        let size = length-plan_outputs p row in
        rw (get_or-eq_default (plan_outputs 0 gate_bit p row) 0 {n = i} (omega arith)) (omega arith)

module _ (p : Plan) {h n : ℕ} {fresh start : List ℕ} {results end : ℕ}
    (within : SeriesWithin p.inputs p.output_count h n fresh start results end) where
  whole : p.inputs - h + h ≡ p.inputs
  whole = let l = within.hold.inputs in omega arith

  pub plan-contacts : ContactSeries (plan_outputs 0 gate_bit p) (p.inputs - h) h p.output_count n fresh start
  plan-contacts = record {
    gives = λ row c. outputs-contacts p row (subst (λ m. Contacts m row) whole c);
    held = within.hold.outputs;
    rows = (contact-faultless _ fresh).0 within.fresh_rows;
    state = (contact-faultless h start).0 within.start_state;
  }

  pub interval_evaluable : Accepted p → (t : ℕ) → t < n → Evaluable p (interval_row (plan_outputs 0 gate_bit p) (p.inputs - h) h fresh start t)
  interval_evaluable accepted t l =
      let row = interval_row (plan_outputs 0 gate_bit p) (p.inputs - h) h fresh start t in
      record { accepted = accepted; contacts = (contact-faultless p.inputs row).1 (subst (λ m. Contacts m row) whole (row-contacts plan-contacts t l)) }
