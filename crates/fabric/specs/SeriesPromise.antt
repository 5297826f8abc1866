-- Document 02, W6: "The fabric's series equals the plan's". Of any table and program whose single run equals the plan.
use Rattle.std.specs.Prelude.{ℕ, ◌-◌, ◌*◌, ◌<◌, ◌≤◌, ◌≡◌, List, length, get_or}
use Rattle.plan.specs.declared.record.Plan.{Plan}
use Rattle.plan.specs.Faults.{Accepted}
use Rattle.plan_evaluation_checks.specs.EvaluationChecks.{contact_fault}
use Rattle.plan_series_checks.specs.SeriesChecks.{HoldWithin, plan_series_fault}
use Rattle.plan_evaluation.specs.Evaluation.{evaluate_result}
use Rattle.plan_evaluation.specs.PlanSeries.{plan_series_results, plan_series_end}
use Rattle.fabric_run_checks.specs.RunFault.{run_fault, run_series_fault}
use Rattle.fabric_run.specs.RunCalls.{run_result}
use Rattle.fabric_run.specs.RunSeries.{run_series_results, run_series_end}

-- a row of input contacts, a work buffer of at least w entries and results of at least v
pub record RowGiven (p : Plan) (w : ℕ) (row work ran evaluated : List ℕ) : Type 0 where
  pub contacts : contact_fault p.inputs row ≡ 0
  pub work_room : w ≤ length work
  pub ran_room : p.output_count ≤ length ran
  pub evaluated_room : p.output_count ≤ length evaluated

-- the single run of a table with a program equals the plan: on every such row it is not refused, and writes the outputs that plan evaluation writes, one
-- by one, whatever the buffers held
pub record RunsAsPlan (p : Plan) (table program : List ℕ) (w : ℕ) : Type 0 where
  pub runs : (row work ran evaluated : List ℕ) → RowGiven p w row work ran evaluated → run_fault table program row (length work) (length ran) ≡ 0
  pub same : (row work ran evaluated : List ℕ) → RowGiven p w row work ran evaluated
      → (j : ℕ) → j < p.output_count → get_or (run_result table program row work ran) j 0 ≡ get_or (evaluate_result p row evaluated) j 0

-- n intervals with hold count h that are within their bounds, fresh rows and a start state of contacts
pub record SeriesGiven (p : Plan) (h n : ℕ) (fresh start : List ℕ) : Type 0 where
  pub hold : HoldWithin p.inputs p.output_count h n
  pub fresh_rows : contact_fault (n * (p.inputs - h)) fresh ≡ 0
  pub start_state : contact_fault h start ≡ 0

-- buffers of at least the stated lengths: the run's work, results and end state, evaluation's results and end state
pub record SeriesRooms (p : Plan) (w h n work ran ranEnd evaluated evaluatedEnd : ℕ) : Type 0 where
  pub work_room : w ≤ work
  pub ran_room : n * p.output_count ≤ ran
  pub ran_end_room : h ≤ ranEnd
  pub evaluated_room : n * p.output_count ≤ evaluated
  pub evaluated_end_room : h ≤ evaluatedEnd

-- neither call refuses, and the output rows and the end states are equal, entry by entry
module _ (p : Plan) (table program : List ℕ) (h n : ℕ) (fresh start work ran ranEnd evaluated evaluatedEnd : List ℕ) where
  pub record SeriesSame : Type 0 where
    pub evaluates : plan_series_fault p h n fresh start (length evaluated) (length evaluatedEnd) ≡ 0
    pub runs : run_series_fault table program h n fresh start (length work) (length ran) (length ranEnd) ≡ 0
    pub rows : (j : ℕ) → j < n * p.output_count
        → get_or (run_series_results table program h n fresh start work ran ranEnd) j 0 ≡ get_or (plan_series_results p h n fresh start evaluated evaluatedEnd) j 0
    pub states : (j : ℕ) → j < h
        → get_or (run_series_end table program h n fresh start work ran ranEnd) j 0 ≡ get_or (plan_series_end p h n fresh start evaluated evaluatedEnd) j 0

-- the promise
abbrev pub SeriesPromise : Type 0
SeriesPromise = (p : Plan) (table program : List ℕ) (w h n : ℕ) (fresh start work ran ranEnd evaluated evaluatedEnd : List ℕ)
    → Accepted p → RunsAsPlan p table program w → SeriesGiven p h n fresh start
    → SeriesRooms p w h n (length work) (length ran) (length ranEnd) (length evaluated) (length evaluatedEnd)
    → SeriesSame p table program h n fresh start work ran ranEnd evaluated evaluatedEnd
