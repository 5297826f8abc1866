-- Two bytes get the bits, of which the upper may lie past the end.
use Rattle.std.proofs.Common.{sym, arith, rules}
use Rattle.block_elements.proofs.BitsLaws.{AreBytes}
use Rattle.block_bits.specs.Stores.{field_bits}
use Rattle.block_bits.proofs.StoreLaws.{store_bits-past}
use Rattle.block_bits.proofs.FieldLaws.{field_stored, field-last}
use Rattle.block_bits.proofs.fields.store_field.Goals as goal

pub returns-then-byte-program : goal.returns-then-byte-program
returns-then-byte-program c =
    let a = c.args in
    let bytes : AreBytes a.program.now = record { each = λ i. search rules } in
    field_stored a.program.now a.start a.count a.x bytes
    c.bit_byte-byte.ensures c.bit_place-place.ensures c.min-n.ensures (omega arith) c.with_field-new.ensures (omega arith)

pub returns-then-byte-program-2 : goal.returns-then-byte-program-2
returns-then-byte-program-2 c =
    let a = c.args in
    let bytes : AreBytes a.program.now = record { each = λ i. search rules } in
    field-last a.program.now a.start a.count a.x bytes
    c.bit_byte-byte.ensures c.bit_place-place.ensures c.min-n.ensures (omega arith) c.with_field-new-then-byte-program-2.ensures c.from-then-byte-program-2.ensures (omega arith)

pub returns-else-byte-program-2 : goal.returns-else-byte-program-2
returns-else-byte-program-2 c = let a = c.args in sym (store_bits-past (field_bits a.count a.x) a.program.now a.start (omega arith))
