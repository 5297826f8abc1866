-- A turn more stores the next row.
use Rattle.std.proofs.Common.{refl, ap, arith}
use Rattle.lists.specs.Lists.{list_of}
use Rattle.block_elements.specs.Rows.{flat}
use Rattle.block_rows.proofs.RowsLaws.{row-more}
use Rattle.block_rows.proofs.rows.put_each.Goals as goal

pub loop-i-init : goal.loop-i-init
unfolding list_of flat
loop-i-init g c = λ f h. refl

pub loop-i-preserved : goal.loop-i-preserved
loop-i-preserved g c = λ f h.
    let i = c.loop-i.i in
    let pair = h.each i c.wires-left.result (omega arith) c.wires-left.ensures in
    row-more c.args.kind (λ j. (f j).0) (λ j. (f j).1) i c.args.rows.now c.loop-i.rows c.row_place.ensures (omega arith) (c.loop-i.invariant f h)
    (ap (λ p. p.0) pair) (ap (λ p. p.1) pair) c.store_row.ensures
