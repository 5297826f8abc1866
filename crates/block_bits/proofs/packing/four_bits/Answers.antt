-- No two bits of the product fall on one place.
use Rattle.block_bits.proofs.PackingLaws.{four-joined}
use Rattle.block_bits.proofs.packing.four_bits.Goals as goal

pub returns : goal.returns
returns c =
    let a = c.args in
    rw (c.from-5.ensures, c.from.ensures, c.from-2.ensures, c.from-3.ensures, c.from-4.ensures) (four-joined a.a a.b a.c a.d c.ranges.a.fits c.ranges.b.fits c.ranges.c.fits)
