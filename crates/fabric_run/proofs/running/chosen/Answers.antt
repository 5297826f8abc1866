-- The wires stand behind each other.
use Rattle.std.proofs.Common.{◌∙◌, ◌+◌, ap, get_or}
use Rattle.fabric_run.proofs.RowLaws.{choose-entry}
use Rattle.fabric_run.proofs.running.chosen.Goals as goal

pub returns : goal.returns
returns c =
    let row = c.args.row.now in
    c.from-2.ensures ∙ ap (λ b. get_or row (1 + b) 0) c.from.ensures ∙ choose-entry row c.args.b c.requires.1
