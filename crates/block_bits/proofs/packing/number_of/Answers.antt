-- The first four bits and the last four, of which a shift leaves those above the first.
use Rattle.std.proofs.Common.{◌≡◌, ◌+◌, ◌-◌, eqb, length, ap, add-zero, ◌∙◌, rules, arith}
use Rattle.block_bits.specs.Stores.{low_bit, number_of}
use Rattle.block_bits.proofs.FieldLaws.{number_ext}
use Rattle.block_bits.proofs.PackingLaws.{low_lt, number_overlap, one_if-bit}
use Rattle.block_bits.proofs.packing.number_of.Goals as goal

pub returns-then-n-lt4 : goal.returns-then-n-lt4
returns-then-n-lt4 c =
    let l = c.args.bits.now in
    c.byte_by.ensures (λ k. eqb (low_bit l k) 1) (record { each = λ k b h e. search rules }) ∙ number_ext (length l) (λ k. one_if-bit (low_bit l k) (low_lt l k))

pub returns : goal.returns
unfolding number_of
returns c =
    let l = c.args.bits.now in
    let n = length l in
    let at = ap (low_bit l) (add-zero (n - 4)) in
    let low : c.four_bits-first.result ≡ number_of (low_bit l) 4 = omega arith in
    let high : c.four_bits-last.result ≡ number_of (λ j. low_bit l (n - 4 + j)) 4 = omega (arith, at) in
    number_overlap (low_bit l) n (low_lt l) (omega arith) (omega arith) low high
