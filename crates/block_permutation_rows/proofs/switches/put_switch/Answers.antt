-- Three stores at the front.
use Rattle.block_elements.specs.Rows.{entries}
use Rattle.block_rows.proofs.RowsLaws.{row-stored}
use Rattle.block_permutation_rows.proofs.switches.put_switch.Goals as goal

pub returns : goal.returns
unfolding entries
returns c = rw c.from.ensures (row-stored c.args.rows.now _ _ _ c.requires)
