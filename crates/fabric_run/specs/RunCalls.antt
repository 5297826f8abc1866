-- Document 01, the run of a table with a program on a row of input contacts: the lent buffers after the call.
use Rattle.std.specs.Prelude.{List, ℕ, length}
use Rattle.fault.specs.Buffers.{filled}
use Rattle.fabric_run_checks.specs.RunFault.{run_fault}
use Rattle.fabric_run.specs.Running.{run_wires, run_outputs}

-- every wire's bit
abbrev pub run_work : List ℕ → List ℕ → List ℕ → List ℕ → List ℕ → List ℕ
run_work table program row work result = filled (run_fault table program row (length work) (length result)) (run_wires table program row) work

-- the outputs' bits
abbrev pub run_result : List ℕ → List ℕ → List ℕ → List ℕ → List ℕ → List ℕ
run_result table program row work result = filled (run_fault table program row (length work) (length result)) (run_outputs table program row) result
