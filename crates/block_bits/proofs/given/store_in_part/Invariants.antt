-- The bits of the bytes before `byte` are stored.
use Rattle.std.proofs.Common.{◌≡◌, ℕ, Bool, min}
use Rattle.lists.specs.Lists.{list_of, Gives}
use Rattle.lists.specs.Counting.{one_if}
use Rattle.block_elements.specs.Bits.{bits_held, store_bits}
use Rattle.block_bits.proofs.given.store_in_part.Given as goal

abbrev pub invariant-loop-byte : goal.invariant-loop-byte
invariant-loop-byte g l =
    (test : ℕ → Bool) → Gives (goal.F-post g l.is_one) l.count test
    → l.program ≡ store_bits l.initial.program l.place (list_of (min (bits_held l.byte) l.count) (λ k. one_if (test k)))
