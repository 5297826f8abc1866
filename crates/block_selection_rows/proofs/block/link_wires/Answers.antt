-- The first of `to`, and behind it the wires that the rows make.
use Rattle.std.proofs.Common.{arith}
use lib.ListN.{length-set}
use Rattle.block_selection_rows.proofs.ChainLaws.{wires-linked}
use Rattle.block_selection_rows.proofs.block.link_wires.Goals as goal

pub returns : goal.returns
returns c =
    let a = c.args in
    wires-linked a.next.0 a.to.now a.from.now _ c.requires (simp length-set (omega (arith, c.requires.from_places))) c.put_wires.ensures
