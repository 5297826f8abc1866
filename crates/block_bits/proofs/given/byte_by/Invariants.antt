-- The bits from k on are in x.
use Rattle.std.proofs.Common.{◌≡◌, ℕ, Bool, ◌+◌, ◌<◌, ◌^◌, ◌-◌}
use Rattle.lists.specs.Lists.{Gives}
use Rattle.lists.specs.Counting.{one_if}
use Rattle.block_bits.specs.Stores.{number_of}
use Rattle.block_bits.proofs.given.byte_by.Given as goal

abbrev pub invariant-loop-k : goal.invariant-loop-k
invariant-loop-k g l = record {
  small : l.x < 2 ^ (l.n - l.k);
  made : (test : ℕ → Bool) → Gives (λ k. goal.F-post g l.is_one (l.at + k)) l.n test → l.x ≡ number_of (λ j. one_if (test (l.k + j))) (l.n - l.k);
}
