-- Document 02, W6: a plan's series takes plan evaluation as the step of an interval. What the call leaves in the lent buffers.
use Rattle.std.specs.Prelude.{ℕ, ◌-◌, List, length}
use Rattle.fault.specs.Buffers.{filled}
use Rattle.series.specs.Series.{state_after, series_rows}
use Rattle.plan.specs.declared.record.Plan.{Plan}
use Rattle.plan_series_checks.specs.SeriesChecks.{plan_series_fault}
use Rattle.plan_evaluation.specs.Evaluation.{plan_outputs, gate_bit}

module _ (p : Plan) (h n : ℕ) (fresh start : List ℕ) where
  -- the output rows of n intervals with hold count h, and the end state
  abbrev pub plan_series_rows : List ℕ
  plan_series_rows = series_rows (plan_outputs 0 gate_bit p) (p.inputs - h) h fresh start n

  abbrev pub plan_series_state : List ℕ
  plan_series_state = state_after (plan_outputs 0 gate_bit p) (p.inputs - h) h fresh start n

  -- the lent buffers after the call
  abbrev pub plan_series_results : List ℕ → List ℕ → List ℕ
  plan_series_results results end = filled (plan_series_fault p h n fresh start (length results) (length end)) plan_series_rows results

  abbrev pub plan_series_end : List ℕ → List ℕ → List ℕ
  plan_series_end results end = filled (plan_series_fault p h n fresh start (length results) (length end)) plan_series_state end
