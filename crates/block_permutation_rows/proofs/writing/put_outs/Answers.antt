-- The rising wires, and behind them the last pair.
use Rattle.block_permutation_rows.proofs.HalvesLaws.{outs-put}
use Rattle.block_permutation_rows.proofs.writing.put_outs.Goals as goal

pub returns : goal.returns
returns c = outs-put c.args.rising c.args.outs c.args.outputs.now _ c.requires c.put_wires.ensures
