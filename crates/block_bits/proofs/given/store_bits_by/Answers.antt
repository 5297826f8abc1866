-- The bits are stored in the part of the program from the first bit's byte on. Past the end there is none.
use Rattle.std.proofs.Common.{sym, arith, rules}
use Rattle.lists.specs.Lists.{list_of}
use Rattle.lists.specs.Counting.{one_if}
use Rattle.block_bits.proofs.StoreLaws.{store_bits-past, store_from_byte}
use Rattle.block_bits.proofs.given.store_bits_by.Goals as goal

pub returns-then-byte-program : goal.returns-then-byte-program
returns-then-byte-program g c =
    let a = c.args in
    let told = g.T.TellsBits.told a.bits.now in
    store_from_byte a.program.now a.start (list_of a.count (λ k. one_if (told k))) c.bit_byte-byte.ensures c.bit_place.ensures (omega arith)
    (c.store_in_part.ensures told (record { each = λ k b l p. search rules }))

pub returns-else-byte-program : goal.returns-else-byte-program
returns-else-byte-program g c =
    let a = c.args in
    sym (store_bits-past (list_of a.count (λ k. one_if (g.T.TellsBits.told a.bits.now k))) a.program.now a.start (omega arith))
