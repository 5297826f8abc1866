-- A turn more stores the next byte.
use Rattle.std.proofs.Common.{rules, arith}
use Rattle.block_elements.proofs.BitsLaws.{AreBytes}
use Rattle.block_bits.specs.Stores.{low_bit}
use Rattle.block_bits.proofs.StoreLaws.{store_none}
use Rattle.block_bits.proofs.PackingLaws.{byte_step}
use Rattle.block_bits.proofs.packing.store_whole.Goals as goal

pub loop-i-init : goal.loop-i-init
loop-i-init c = let a = c.args in store_none a.program.now 0 (low_bit a.bits.now)

pub loop-i-preserved : goal.loop-i-preserved
loop-i-preserved c =
    let a = c.args in
    let bytes : AreBytes a.program.now = record { each = λ i. search rules } in
    byte_step a.program.now a.bits.now c.loop-i.i bytes (omega arith) c.loop-i.invariant c.byte_from.ensures
