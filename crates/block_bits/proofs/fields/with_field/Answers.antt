-- The bits in the field are taken out and those of x put in.
use Rattle.std.proofs.Common.{arith}
use Rattle.block_bits.proofs.FieldLaws.{field_out, field_in, field-small}
use Rattle.block_bits.proofs.fields.with_field.Goals as goal

pub overflow_sub-result : goal.overflow_sub-result
overflow_sub-result c = let a = c.args in field_out a.place a.n (omega arith) a.x a.old

pub overflow_add-result : goal.overflow_add-result
overflow_add-result c = let a = c.args in rw c.from.ensures (record { fits = field-small a.place a.n (omega arith) a.x a.old c.ranges.old.fits })

pub returns : goal.returns
returns c = rw c.from.ensures (let a = c.args in field_in a.place a.n (omega arith) a.x a.old)
