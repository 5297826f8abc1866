-- How the sides of the output and input pairs are found: loop after loop is walked and marked, in the order of the pairs that lead them.
-- Document 01: "In the loop holding the last output pair, that pair is straight. In each other loop its lowest output pair is straight."
use Rattle.std.specs.Prelude.{ℕ, zero, suc, ◌+◌, ◌-◌, ◌*◌, ◌/◌, ◌%◌, ◌<◌, ◌≡◌, ◌≢◌, cond, List, length, get_or, set, ltb}
use Rattle.block_networks.specs.Permutation.{lowest}
use Rattle.block_loops.specs.Mappings.{map_of, side_in, pair_side}

-- the mark of a pair that no loop has reached yet
abbrev pub unmarked : ℕ
unmarked = 2

-- the marks after output o, which takes input x, and input x are marked: both belong to the upper half
abbrev pub marked : ℕ → List ℕ → ℕ → ℕ → List ℕ
marked h m o x = set (set m (o / 2) (o % 2)) (h + x / 2) (x % 2)

-- the pair that is taken as number k of h: the last pair, then the others upwards
unfoldable pub visit_pair : ℕ → ℕ → ℕ
visit_pair h zero = h - 1
visit_pair h (suc k) = k

-- the number of the pair that leads x's loop, in that order
unfoldable pub loop_of : ℕ → (ℕ → ℕ) → (ℕ → ℕ) → ℕ → ℕ
loop_of h π ρ x = lowest h π ρ x / 2

-- the output whose half mark x tells: pair x's first output, and behind the output pairs the output that takes an input pair's first input
abbrev pub output_of : List ℕ → List ℕ → ℕ → ℕ
output_of p q x = cond (ltb x (length p / 2)) (2 * x) (map_of q (2 * (x - length p / 2)))

-- that half
abbrev pub row_side : List ℕ → List ℕ → ℕ → ℕ
row_side p q x = side_in p q (output_of p q x)

-- the number of the pair that leads that output's loop, of the mapping p with the inverse q
abbrev pub loop_in : List ℕ → List ℕ → ℕ → ℕ
loop_in p q x = loop_of (length p / 2) (map_of p) (map_of q) (output_of p q x)

-- pair i leads its loop
pub record Leads (p q : List ℕ) (i : ℕ) : Type 0 where
  pub below : i < length p / 2
  pub straight : pair_side p q i ≡ 0

-- pair i's loop is marked, and nothing else
pub record Traced (p q : List ℕ) (i : ℕ) (m₀ m : List ℕ) : Type 0 where
  pub size : length m ≡ length m₀
  pub done : (x : ℕ) → loop_in p q x ≡ loop_in p q i → get_or m x 0 ≡ row_side p q x
  pub kept : (x : ℕ) → loop_in p q x ≢ loop_in p q i → get_or m x 0 ≡ get_or m₀ x 0

-- no output pair is marked
pub record Unmarked (h : ℕ) (m : List ℕ) : Type 0 where
  pub each : (i : ℕ) → i < h → get_or m i 0 ≡ unmarked

-- pair i's loop is marked, unless the pair is marked already
pub record Visited (p q : List ℕ) (i : ℕ) (m₀ m : List ℕ) : Type 0 where
  pub new : get_or m₀ i 0 ≡ unmarked → Traced p q i m₀ m
  pub old : get_or m₀ i 0 ≢ unmarked → m ≡ m₀
