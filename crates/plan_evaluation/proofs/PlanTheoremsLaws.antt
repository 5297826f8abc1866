-- The theorems of a plan's series.
use mathlib.Core.Path.{◌≡◌, sym, ap, ◌∙◌}
use mathlib.Core.List.{List, [], ◌++◌}
use Prim.Native.Nat.{ℕ, ◌+◌, ◌-◌}
use native.Mathlib.Omega.{arith}
use lib.ListN.{length, take}
use lib.Seq.{take_at}
use Rattle.fault.specs.Buffers.{over, filled}
use Rattle.fault.specs.Checks.{and_then}
use Rattle.fault.proofs.BuffersLaws.{filled-done, filled-same, filled_none}
use Rattle.fault.proofs.ChecksLaws.{and_then-zero}
use Rattle.series.specs.Series.{state_after}
use Rattle.series.proofs.SeriesLaws.{ContactSeries, state-contacts, first_part_lem, next-part, composed, single-row, single-state}
use Rattle.plan.specs.declared.record.Plan.{Plan}
use Rattle.plan.specs.Faults.{plan_fault}
use Rattle.plan_evaluation_checks.specs.EvaluationChecks.{evaluate_fault}
use Rattle.plan_evaluation_checks.proofs.EvaluationChecksLaws.{row-length, evaluation_passes}
use Rattle.plan_series_checks.specs.SeriesChecks.{plan_series_fault, SeriesWithin}
use Rattle.plan_series_checks.proofs.SeriesChecksLaws.{hold-fewer, series-faultless, series-passes, single-fault}
use Rattle.plan_evaluation.specs.Evaluation.{plan_outputs, gate_bit, evaluate_result}
use Rattle.plan_evaluation.specs.PlanSeries.{plan_series_rows}
use Rattle.plan_evaluation.specs.PlanSeriesTheorems.{PlanSeriesComposes, PlanSeriesSplits, PlanSeriesSingle}
use Rattle.plan_evaluation.proofs.PlanSeriesLaws.{plan-contacts}

-- a series that is not refused is one of contacts
series_of : (p : Plan) (h n : ℕ) (fresh start : List ℕ) (results end : ℕ) → plan_series_fault p h n fresh start results end ≡ 0
    → ContactSeries (plan_outputs 0 gate_bit p) (p.inputs - h) h p.output_count n fresh start
series_of p h n fresh start results end e = plan-contacts p ((series-faultless _ _ _ _ _ _ _ _).0 ((and_then-zero (plan_fault p) _).0 e).1)

pub plan-series_composes : PlanSeriesComposes
plan-series_composes p h n m first next start r₁ e₁ r₂ e₂ r₃ e₃ left is z₁ z₂ z₃ =
    let one = series_of p h n first start (length r₁) (length e₁) z₁ in
    let two = series_of p h m next left (length r₂) (length e₂) z₂ in
    let state = state_after (plan_outputs 0 gate_bit p) (p.inputs - h) h first start n in
    let is-left = is ∙ ap (λ z. take h (filled z state e₁)) z₁ ∙ take_at state _ h (state-contacts one n (omega arith)).size in
    rw (z₁, z₂, z₃) (composed one two (series_of p h (n + m) (first ++ next) start (length r₃) (length e₃) z₃) is-left r₁ r₂ e₂ r₃ e₃)

pub plan-series_splits : PlanSeriesSplits
plan-series_splits p h n m first next start r₁ e₁ r₂ e₂ r₃ e₃ size room₁ place₁ room₂ place₂ z =
    let passes = (and_then-zero (plan_fault p) _).0 z in
    let hold = ((series-faultless _ _ _ _ _ _ _ _).0 passes.1).hold in
    let both = series_of p h (n + m) (first ++ next) start r₃ e₃ z in
    let one = first_part_lem n m first next start both size in
    let two = next-part n m first next start both size in
    let state = state_after (plan_outputs 0 gate_bit p) (p.inputs - h) h first start n in
    let z₁ : plan_series_fault p h n first start (length r₁) (length e₁) ≡ 0 =
    rw passes.0 (series-passes (length r₁) (length e₁) (hold-fewer n hold (omega arith)) one.rows one.state room₁ place₁) in
    let left = ap (λ k. take h (filled k state e₁)) z₁ ∙ take_at state _ h (state-contacts one n (omega arith)).size in
    let z₂ : plan_series_fault p h m next state r₂ e₂ ≡ 0 =
    rw passes.0 (series-passes r₂ e₂ (hold-fewer m hold (omega arith)) two.rows two.state room₂ place₂) in
    (z₁, ap (λ s. plan_series_fault p h m next s r₂ e₂) left ∙ z₂)

pub plan-series-single : (p : Plan) (row result end : List ℕ) → PlanSeriesSingle p row result end
plan-series-single p row result end =
    let same = ap (and_then (plan_fault p)) (single-fault p.inputs p.output_count row (length result) (length end)) in
    let size : evaluate_fault p row (length result) ≡ 0 → length row ≡ p.inputs =
    λ z. row-length p.inputs row (evaluation_passes p row (length result) z).evaluable.contacts in
    record {
      answered = same;
      written = rw same (filled-same (evaluate_fault p row (length result)) result (λ z. single-row (plan_outputs 0 gate_bit p) (p.inputs - 0) row (omega (arith, size z))));
      kept = rw same (filled-same (evaluate_fault p row (length result)) end (λ z. single-state (plan_outputs 0 gate_bit p) (p.inputs - 0) row (omega (arith, size z)))
          ∙ filled_none (evaluate_fault p row (length result)) end);
    }

-- where the checks of a series pass it is within its bounds
pub series_within : (p : Plan) (h n : ℕ) (fresh start : List ℕ) (results end : ℕ) → 0 ≡ plan_series_fault p h n fresh start results end
    → SeriesWithin p.inputs p.output_count h n fresh start results end
series_within p h n fresh start results end e = (series-faultless _ _ _ _ _ _ _ _).0 ((and_then-zero (plan_fault p) _).0 (sym e)).1

-- and where those of evaluation pass, so is one interval with nothing held, whose row is the result
pub evaluation_within : (p : Plan) (row result : List ℕ) → 0 ≡ evaluate_fault p row (length result)
    → SeriesWithin p.inputs p.output_count 0 1 row [] (length result) 0
evaluation_within p row result e = series_within p 0 1 row [] (length result) 0 (e ∙ sym (plan-series-single p row result []).answered)

pub evaluation_written : (p : Plan) (row result : List ℕ) → 0 ≡ evaluate_fault p row (length result)
    → over (plan_series_rows p 0 1 row []) result ≡ evaluate_result p row result
evaluation_written p row result e =
    let single = plan-series-single p row result [] in
    filled-done _ (plan_series_rows p 0 1 row []) result (e ∙ sym single.answered) ∙ single.written
