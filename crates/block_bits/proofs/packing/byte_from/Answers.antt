-- Four bits, and four above them.
use Rattle.std.proofs.Common.{ap, add-zero, arith}
use Rattle.block_bits.specs.Stores.{low_bit, number_of}
use Rattle.block_bits.proofs.packing.byte_from.Goals as goal

pub returns : goal.returns
unfolding number_of
returns c =
    let first = ap (low_bit c.args.bits.now) (add-zero c.args.at) in
    omega (arith, first)
