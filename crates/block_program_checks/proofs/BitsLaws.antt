-- Check 11 of bits passes exactly if they have room; a lent program after a refusal, and where no check fails.
use mathlib.Core.Path.{◌≡◌, refl}
use mathlib.Core.Logic.{◌↔◌}
use mathlib.Core.List.{List}
use Prim.Native.Nat.{ℕ, zero, suc, ◌+◌, ◌≤◌}
use native.Mathlib.Omega.{arith}
use native.Mathlib.Decide.{dec_le}
use borrow.Author.Tests.{leb-true, le-leb, lt-leb}
use lib.Dec.{leb}
use Rattle.fault.specs.declared.Fault.{Fault}
use Rattle.fault.specs.Number.{fault_number}
use Rattle.fault.proofs.ChecksLaws.{unless-zero, number-positive}
use Rattle.block_elements.specs.Bits.{bytes_for, store_bits, bits_held}
use Rattle.block_program_checks.specs.Bits.{bits_fault, bits_at_fault, stored_at}

pub bits-faultless : (count start room : ℕ) → (bits_at_fault count start room ≡ 0) ↔ (start + count ≤ bits_held room)
unfolding bits_at_fault
bits-faultless count start room = (
  λ e. leb-true (start + count) (bits_held room) ((unless-zero (leb (start + count) (bits_held room)) Fault.Short).0 e),
  λ h. (unless-zero (leb (start + count) (bits_held room)) Fault.Short).1 (le-leb (start + count) (bits_held room) h),
)

-- from bit 0 on, the bits have room where their bytes have
pub bits-at-front : (count room : ℕ) → bits_fault count room ≡ bits_at_fault count 0 room
unfolding bits_fault bits_at_fault
bits-at-front count room = elim (dec_le (bytes_for count) room) [
  | yes l ↦ rw (le-leb (bytes_for count) room l, le-leb (0 + count) (bits_held room) (omega arith))
  | no n ↦ rw (lt-leb (bytes_for count) room (omega arith), lt-leb (0 + count) (bits_held room) (omega arith))
]

-- a lent program after a refusal, and where no check fails
pub stored_refused : (f : Fault) (n start : ℕ) (bits old : List ℕ) → fault_number f ≡ n → old ≡ stored_at n start bits old
stored_refused f zero start bits old e = absurd (omega (arith, number-positive f))
stored_refused f (suc n) start bits old e = refl

pub stored-done : (n start : ℕ) (bits old : List ℕ) → 0 ≡ n → store_bits old start bits ≡ stored_at n start bits old
stored-done n start bits old e = rw (← e)
