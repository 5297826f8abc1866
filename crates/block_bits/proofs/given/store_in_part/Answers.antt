-- A turn more stores the next eight bits, or what is left of them.
use Rattle.std.proofs.Common.{◌≡◌, ◌+◌, min, arith}
use Rattle.lists.specs.Counting.{one_if}
use Rattle.lists.proofs.CountingLaws.{one_lt}
use Rattle.block_elements.specs.Bits.{bits_held}
use Rattle.block_bits.proofs.StoreLaws.{store_none}
use Rattle.block_bits.proofs.PackingLaws.{field_next}
use Rattle.block_bits.proofs.given.store_in_part.Goals as goal

pub loop-byte-init : goal.loop-byte-init
loop-byte-init g c = λ test h.
    let none : min 0 c.args.count ≡ 0 = omega arith in
    rw none (store_none c.args.program.now c.args.place (λ k. one_if (test k)))

pub loop-byte-preserved : goal.loop-byte-preserved
loop-byte-preserved g c = λ test h.
    let i = bits_held c.loop-byte.byte in
    let made = c.byte_by.ensures (λ k. test (i + k)) (record { each = λ k b l e. h.each (i + k) b (omega arith) e }) in
    field_next c.args.program.now c.args.place i c.min-n.result (min (bits_held (c.loop-byte.byte + 1)) c.args.count) (λ k. one_if (test k))
    (λ k. one_lt (test k)) (omega arith) (c.loop-byte.invariant test h) (omega arith) made c.store_field.ensures (omega arith)
