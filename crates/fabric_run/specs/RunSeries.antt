-- Document 02, W6: a fabric's series takes the run of a table with a program as the step of an interval. What the call leaves in the lent buffers.
use Rattle.std.specs.Prelude.{ℕ, ◌-◌, List, length}
use Rattle.fault.specs.Buffers.{filled}
use Rattle.series.specs.Series.{state_after, series_rows, of_last}
use Rattle.fabric_sizes.specs.Layout.{inputs_in}
use Rattle.fabric_run_checks.specs.RunFault.{run_series_fault}
use Rattle.fabric_run.specs.Running.{run_wires, run_outputs}

module _ (table program : List ℕ) (h n : ℕ) (fresh start : List ℕ) where
  -- the output rows of n intervals with hold count h, and the end state
  abbrev pub run_series_rows : List ℕ
  run_series_rows = series_rows (run_outputs table program) (inputs_in table - h) h fresh start n

  abbrev pub run_series_state : List ℕ
  run_series_state = state_after (run_outputs table program) (inputs_in table - h) h fresh start n

  -- "The work buffer holds the last interval's wires; 0 intervals leave it unchanged."
  abbrev pub run_series_wires : List ℕ
  run_series_wires = of_last (run_outputs table program) (inputs_in table - h) h fresh start (run_wires table program) n

  -- the lent buffers after the call
  module _ (work results end : List ℕ) where
    abbrev pub run_series_work : List ℕ
    run_series_work = filled (run_series_fault table program h n fresh start (length work) (length results) (length end)) run_series_wires work

    abbrev pub run_series_results : List ℕ
    run_series_results = filled (run_series_fault table program h n fresh start (length work) (length results) (length end)) run_series_rows results

    abbrev pub run_series_end : List ℕ
    run_series_end = filled (run_series_fault table program h n fresh start (length work) (length results) (length end)) run_series_state end
