-- It is one interval with nothing held.
use Rattle.std.proofs.Common.{◌∙◌, []}
use Rattle.fabric_run.proofs.RunTheoremsLaws.{run-series-single}
use Rattle.fabric_run.proofs.calls.run.Goals as goal

pub returns : goal.returns
returns c =
    let a = c.args in
    let gave = c.run_series.ensures in
    let single = run-series-single a.table.now a.program.now a.row.now a.work.now a.res.now [] in
    record { answered = gave.answered ∙ single.answered; worked = gave.worked ∙ single.worked; written = gave.written ∙ single.written }
