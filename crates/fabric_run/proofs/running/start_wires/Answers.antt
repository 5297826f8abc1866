-- Wire 0, the row's entries, then the state's.
use Rattle.std.proofs.Common.{arith, rules}
use Rattle.fabric_run.proofs.WorkLaws.{start-stored}
use Rattle.fabric_run.proofs.running.start_wires.Goals as goal

pub returns : goal.returns
returns c =
    let a = c.args in
    start-stored a.row.now a.state.now a.work.now _ _ _ _ c.requires (c.copy_entries.ensures.whole (search rules)) (c.copy_entries-2.ensures.whole (search rules)) (omega arith) (omega arith)
