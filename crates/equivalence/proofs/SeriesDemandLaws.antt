-- The demand for series holds: the third demand says that single runs equal the plan, and so do series of them.
use mathlib.Core.List.{List}
use Prim.Native.Nat.{ℕ, ◌≤◌}
use lib.ListN.{length}
use Rattle.plan.specs.declared.record.Plan.{Plan}
use Rattle.plan.specs.Faults.{Accepted}
use Rattle.fabric.specs.Fabrics.{program_length}
use Rattle.fabric.specs.SeriesPromise.{RowGiven, RunsAsPlan}
use Rattle.fabric.proofs.FabricsLaws.{plan-program_succeeds}
use Rattle.fabric.proofs.SeriesPromiseLaws.{series_promise}
use Rattle.equivalence.specs.ThirdDemand.{plan_table_length, plan_fabric_wires, entries_written, bytes_written, ThirdDemand}
use Rattle.equivalence.specs.SeriesDemand.{SeriesDemandHolds}
use Rattle.equivalence.proofs.ThirdDemandLaws.{fabric_unrefused, third_demand}
use Rattle.equivalence.proofs.BothLaws.{contact-row}

module _ (p : Plan) (table program : List ℕ) (accepted : Accepted p) (table_room : plan_table_length p ≤ length table) (program_room : program_length p ≤ length program) where
  demand : (row work ran evaluated : List ℕ) → RowGiven p (plan_fabric_wires p) row work ran evaluated → ThirdDemand p row table program work evaluated ran
  demand row work ran evaluated g =
      third_demand p row table program work evaluated ran accepted (contact-row p.inputs row g.contacts)
      (record { table_room = table_room; program_room = program_room; work_room = g.work_room; evaluated_room = g.evaluated_room; ran_room = g.ran_room })

  runs_as_plan : RunsAsPlan p (entries_written p table) (bytes_written p program) (plan_fabric_wires p)
  runs_as_plan = record {
    runs = λ row work ran evaluated g. (demand row work ran evaluated g).runs;
    same = λ row work ran evaluated g. (demand row work ran evaluated g).same;
  }

pub series-demand : SeriesDemandHolds
series-demand p h n fresh start table program work ran ranEnd evaluated evaluatedEnd accepted given table_room program_room rooms = record {
  fabricates = fabric_unrefused p accepted table table_room;
  programs = plan-program_succeeds p (length program) accepted program_room;
  same = series_promise p (entries_written p table) (bytes_written p program) (plan_fabric_wires p) h n fresh start work ran ranEnd evaluated evaluatedEnd accepted
      (runs_as_plan p table program accepted table_room program_room) given rooms;
}
