-- Document 02, W6: what holds of a plan's series, over the answer and the lent buffers that the call's contract equates.
use Rattle.std.specs.Prelude.{ℕ, ◌+◌, ◌-◌, ◌*◌, ◌≤◌, ◌≡◌, List, [], ◌++◌, length, take}
use Rattle.series.specs.Composition.{Composes}
use Rattle.plan.specs.declared.record.Plan.{Plan}
use Rattle.plan_evaluation_checks.specs.EvaluationChecks.{evaluate_fault}
use Rattle.plan_series_checks.specs.SeriesChecks.{plan_series_fault}
use Rattle.plan_evaluation.specs.Evaluation.{evaluate_result}
use Rattle.plan_evaluation.specs.PlanSeries.{plan_series_results, plan_series_end}

-- "Where none of the three calls refuses, intervals n, then m from the state left on the rows that follow, give the output rows and end state that n + m
-- give": the state left is what the first call leaves for the second
abbrev pub PlanSeriesComposes : Type 0
PlanSeriesComposes = (p : Plan) (h n m : ℕ) (first next start results₁ end₁ results₂ end₂ results₃ end₃ : List ℕ)
    → (left : List ℕ) → left ≡ take h (plan_series_end p h n first start results₁ end₁)
    → plan_series_fault p h n first start (length results₁) (length end₁) ≡ 0
    → plan_series_fault p h m next left (length results₂) (length end₂) ≡ 0
    → plan_series_fault p h (n + m) (first ++ next) start (length results₃) (length end₃) ≡ 0
    → Composes p.output_count h n m (plan_series_results p h n first start results₁ end₁)
    (plan_series_results p h m next left results₂ end₂) (plan_series_end p h m next left results₂ end₂)
    (plan_series_results p h (n + m) (first ++ next) start results₃ end₃) (plan_series_end p h (n + m) (first ++ next) start results₃ end₃)

-- where the whole is not refused and both parts have room, neither part is
abbrev pub PlanSeriesSplits : Type 0
PlanSeriesSplits = (p : Plan) (h n m : ℕ) (first next start results₁ end₁ : List ℕ) (results₂ end₂ results₃ end₃ : ℕ)
    → length first ≡ n * (p.inputs - h) → n * p.output_count ≤ length results₁ → h ≤ length end₁ → m * p.output_count ≤ results₂ → h ≤ end₂
    → plan_series_fault p h (n + m) (first ++ next) start results₃ end₃ ≡ 0
    → (plan_series_fault p h n first start (length results₁) (length end₁) ≡ 0)
    × (plan_series_fault p h m next (take h (plan_series_end p h n first start results₁ end₁)) results₂ end₂ ≡ 0)

-- one interval with nothing held is evaluation, refused or not, and leaves the end state's buffer as it was
pub record PlanSeriesSingle (p : Plan) (row result end : List ℕ) : Type 0 where
  pub answered : plan_series_fault p 0 1 row [] (length result) (length end) ≡ evaluate_fault p row (length result)
  pub written : plan_series_results p 0 1 row [] result end ≡ evaluate_result p row result
  pub kept : plan_series_end p 0 1 row [] result end ≡ end
