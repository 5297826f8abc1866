-- Document 01, "Programming takes the wanted inputs": a list that names for each output, in order, the input it wants, counted from 1.
-- Here that list becomes a mapping of places counted from 0, with its inverse.
use Rattle.std.specs.Prelude.{ℕ, zero, suc, ◌-◌, ◌≤◌, ◌<◌, ◌≡◌, cond, List, eqb, length, get_or}
use Rattle.lists.specs.Lists.{list_of}
use Rattle.block_networks.specs.Permutation.{permutation_bits}

-- the list names each of the inputs 1 to N once
pub record Wanted (N : ℕ) (wanted : List ℕ) : Type 0 where
  pub size : length wanted ≡ N
  pub low : (o : ℕ) → o < N → 1 ≤ get_or wanted o 0
  pub high : (o : ℕ) → o < N → get_or wanted o 0 ≤ N
  pub once : (a b : ℕ) → a < N → b < N → get_or wanted a 0 ≡ get_or wanted b 0 → a ≡ b

-- the input that output o wants; past the list nothing moves
unfoldable pub mapping : List ℕ → ℕ → ℕ
mapping wanted o = get_or wanted o (suc o) - 1

-- the output among the first n that takes the input x, and x if there is none
unfoldable pub taker_of : ℕ → (ℕ → ℕ) → ℕ → ℕ
taker_of zero π x = x
taker_of (suc n) π x = cond (eqb (π n) x) n (taker_of n π x)

-- the output that wants the input x
unfoldable pub inverse : List ℕ → ℕ → ℕ
inverse wanted = taker_of (length wanted) (mapping wanted)

-- the program bits of P(2 ^ n) for the wanted inputs
unfoldable pub wanted_bits : ℕ → List ℕ → List ℕ
wanted_bits n wanted = permutation_bits n (mapping wanted) (inverse wanted)

-- the inputs that the N outputs take, counted from 1
abbrev pub wanted_of : ℕ → (ℕ → ℕ) → List ℕ
wanted_of N π = list_of N (λ o. suc (π o))
