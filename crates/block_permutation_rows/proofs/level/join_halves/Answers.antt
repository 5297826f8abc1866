-- The rising rows, and the last behind them.
use Rattle.block_permutation_rows.proofs.SwitchesLaws.{join_stored}
use Rattle.block_permutation_rows.proofs.level.join_halves.Goals as goal

pub returns : goal.returns
returns c =
    join_stored c.args.half c.row_place-last.result c.args.above c.args.below c.args.rows.now
    c.put_rising.new.rows c.put_switch.new.rows c.row_place-last.ensures c.requires c.put_rising.ensures
    c.put_switch.ensures
