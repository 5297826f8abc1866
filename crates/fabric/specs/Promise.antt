-- What the fabric promises of an accepted plan and a row of its contacts: the run of the table for its counts with its program is not refused where
-- the lent buffers have room, and gives what the plan gives.
use Rattle.std.specs.Prelude.{ℕ, ◌≤◌, ◌≡◌, List}
use Rattle.plan.specs.declared.record.Plan.{Plan}
use Rattle.plan_evaluation.specs.Evaluation.{plan_outputs, gate_bit}
use Rattle.fabric_universal.specs.Fabric.{fabric_wires, plan_table, plan_program}
use Rattle.fabric_run_checks.specs.RunFault.{run_fault}
use Rattle.fabric_run.specs.Running.{run_outputs}

-- the promise for the plan p and the row
pub record FabricPromise (p : Plan) (row : List ℕ) : Type 0 where
  pub runs : (work result : ℕ) → fabric_wires p.inputs p.gate_count p.output_count ≤ work → p.output_count ≤ result
      → run_fault (plan_table p) (plan_program p) row work result ≡ 0
  pub gives : run_outputs (plan_table p) (plan_program p) row ≡ plan_outputs 0 gate_bit p row
