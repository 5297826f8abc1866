-- Document 02, W6: what holds of a fabric's series, for any table and program, over the answer and the lent buffers that the call's contract equates.
use Rattle.std.specs.Prelude.{ℕ, ◌+◌, ◌-◌, ◌*◌, ◌≤◌, ◌≡◌, List, [], ◌++◌, length, take}
use Rattle.series.specs.Composition.{Composes}
use Rattle.fabric_sizes.specs.Layout.{inputs_in, outputs_in, wires_in}
use Rattle.fabric_run_checks.specs.RunFault.{run_fault, run_series_fault}
use Rattle.fabric_run.specs.RunCalls.{run_work, run_result}
use Rattle.fabric_run.specs.RunSeries.{run_series_work, run_series_results, run_series_end}

-- "Where none of the three calls refuses, intervals n, then m from the state left on the rows that follow, give the output rows and end state that n + m
-- give": the state left is what the first call leaves for the second
abbrev pub RunSeriesComposes : Type 0
RunSeriesComposes = (table program : List ℕ) (h n m : ℕ)
    (first next start work₁ results₁ end₁ work₂ results₂ end₂ work₃ results₃ end₃ : List ℕ)
    → (left : List ℕ) → left ≡ take h (run_series_end table program h n first start work₁ results₁ end₁)
    → run_series_fault table program h n first start (length work₁) (length results₁) (length end₁) ≡ 0
    → run_series_fault table program h m next left (length work₂) (length results₂) (length end₂) ≡ 0
    → run_series_fault table program h (n + m) (first ++ next) start (length work₃) (length results₃) (length end₃) ≡ 0
    → Composes (outputs_in table) h n m (run_series_results table program h n first start work₁ results₁ end₁)
    (run_series_results table program h m next left work₂ results₂ end₂) (run_series_end table program h m next left work₂ results₂ end₂)
    (run_series_results table program h (n + m) (first ++ next) start work₃ results₃ end₃)
    (run_series_end table program h (n + m) (first ++ next) start work₃ results₃ end₃)

-- where the whole is not refused and both parts have room, neither part is
abbrev pub RunSeriesSplits : Type 0
RunSeriesSplits = (table program : List ℕ) (h n m : ℕ) (first next start work₁ results₁ end₁ : List ℕ) (work₂ results₂ end₂ work₃ results₃ end₃ : ℕ)
    → length first ≡ n * (inputs_in table - h) → wires_in table ≤ length work₁ → n * outputs_in table ≤ length results₁ → h ≤ length end₁
    → wires_in table ≤ work₂ → m * outputs_in table ≤ results₂ → h ≤ end₂
    → run_series_fault table program h (n + m) (first ++ next) start work₃ results₃ end₃ ≡ 0
    → (run_series_fault table program h n first start (length work₁) (length results₁) (length end₁) ≡ 0)
    × (run_series_fault table program h m next (take h (run_series_end table program h n first start work₁ results₁ end₁)) work₂ results₂ end₂ ≡ 0)

-- one interval with nothing held is the run, refused or not, and leaves the end state's buffer as it was
pub record RunSeriesSingle (table program row work result end : List ℕ) : Type 0 where
  pub answered : run_series_fault table program 0 1 row [] (length work) (length result) (length end) ≡ run_fault table program row (length work) (length result)
  pub worked : run_series_work table program 0 1 row [] work result end ≡ run_work table program row work result
  pub written : run_series_results table program 0 1 row [] work result end ≡ run_result table program row work result
  pub kept : run_series_end table program 0 1 row [] work result end ≡ end
