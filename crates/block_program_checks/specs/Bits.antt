-- Document 01, "Block library", programming: check 11 of the lent program, from its front or from a bit on, and what it holds afterwards.
use Rattle.std.specs.Prelude.{ℕ, zero, suc, ◌+◌, List, leb}
use Rattle.fault.specs.declared.Fault.{Fault}
use Rattle.fault.specs.Checks.{unless}
use Rattle.block_elements.specs.Bits.{bytes_for, store_bits, bits_held}

-- 11: a lent program of `room` bytes does not hold `count` bits
unfoldable pub bits_fault : ℕ → ℕ → ℕ
bits_fault count room = unless (leb (bytes_for count) room) Fault.Short

-- 11 for `count` bits from bit `start` on: they go past the end of a program of `room` bytes
unfoldable pub bits_at_fault : ℕ → ℕ → ℕ → ℕ
bits_at_fault count start room = unless (leb (start + count) (bits_held room)) Fault.Short

-- a lent program after a call whose checks gave the number: with the bits stored from bit `start` on, or as it was on a refusal
abbrev pub stored_at : ℕ → ℕ → List ℕ → List ℕ → List ℕ
stored_at zero start bits old = store_bits old start bits
stored_at (suc n) start bits old = old
