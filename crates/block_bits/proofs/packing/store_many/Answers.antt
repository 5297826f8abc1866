-- Of the first eight bits those of the first byte, and the others in the bytes behind it.
use Rattle.std.proofs.Common.{◌-◌, ap, ◌∙◌, arith}
use Rattle.block_elements.specs.Bits.{store_bits, bits_held}
use Rattle.block_bits.proofs.PackingLaws.{first-bits, store_parts}
use Rattle.block_bits.proofs.packing.store_many.Goals as goal

pub returns : goal.returns
returns c =
    let a = c.args in
    let room = bits_held 1 - a.place in
    let e = first-bits a.bits.now room (omega arith) c.byte_from.ensures in
    let stored = c.store_field.ensures ∙ ap (store_bits a.program.now a.place) e in
    store_parts a.program.now a.bits.now a.place room (omega arith) 1 (omega arith) (omega arith) stored c.store_bytes.ensures
