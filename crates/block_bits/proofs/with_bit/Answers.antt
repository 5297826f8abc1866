-- The place is cleared by a mask, and the bit set there. Neither shift leaves the byte.
use Rattle.std.proofs.Common.{◌≡◌, ◌*◌, ◌%◌, ◌^◌, arith}
use Rattle.std.proofs.Math.Nat.{one-mul}
use Rattle.std.proofs.Math.Pow.{shl_exact}
use Rattle.block_elements.proofs.BitsLaws.{with_bit_mask}
use Rattle.block_bits.proofs.with_bit.Goals as goal

pub returns : goal.returns
returns c =
    let a = c.args in
    let one : 1 * 2 ^ a.place % 256 ≡ 1 * 2 ^ a.place = shl_exact {a = 1} 1 a.place 8 (omega arith) (omega arith) in
    let bit : a.b * 2 ^ a.place % 256 ≡ a.b * 2 ^ a.place = shl_exact 1 a.place 8 (omega arith) (omega arith) in
    rw (one, bit, one-mul (2 ^ a.place)) (with_bit_mask a.place a.b a.x (omega arith) (omega arith) c.ranges.x.fits)
