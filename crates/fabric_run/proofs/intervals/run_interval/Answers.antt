-- The row is run, and its outputs are read from the work buffer.
use Rattle.std.proofs.Common.{◌∙◌, ◌++◌}
use Rattle.fabric_run.proofs.RunCallsLaws.{outputs-read}
use Rattle.fabric_run.proofs.intervals.run_interval.Goals as goal

pub returns-clause-out_after : goal.returns-clause-out_after
returns-clause-out_after c =
    let a = c.args in
    let p = c.requires.runnable in
    c.write_result.ensures
    ∙ outputs-read a.fabric.table.now a.fabric.program.now (a.row.now ++ a.state.now) a.work.now p.well_formed p.contacts c.run_rows.ensures
