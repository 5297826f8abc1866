-- Row i takes the chain's wire i and the wire behind it in `to`.
use Rattle.block_selection_rows.proofs.ChainLaws.{rows-linked}
use Rattle.block_selection_rows.proofs.block.write_chain.Goals as goal

pub returns-clause-rows_after : goal.returns-clause-rows_after
returns-clause-rows_after c =
    let a = c.args in
    rows-linked a.next.0 a.to.now _ a.rows.now _ c.requires.row_room c.link_wires.ensures c.put_pairs.ensures
