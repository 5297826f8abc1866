-- Completing a partial injection in rising order. Some of the numbers below N have places below N, no two the same one. The others, the
-- idle ones, take the places that are left in rising order. Document 01, S: "inputs with none .. take the other positions in rising order."
-- The test `has` tells which numbers have a place, and f x is then the place of x.
use Rattle.std.specs.Prelude.{ℕ, zero, suc, ◌<◌, ◌≡◌, ◌≢◌, Bool, true, false, cond, not, ◌&&◌, ◌||◌, eqb, ltb}
use Rattle.lists.specs.Counting.{count_of, nth_of}

-- p is the place of a number below n
unfoldable pub is_taken : (ℕ → Bool) → (ℕ → ℕ) → ℕ → ℕ → Bool
is_taken has f zero p = false
is_taken has f (suc n) p = (has n && eqb (f n) p) || is_taken has f n p

-- an idle number has no place
abbrev pub is_idle : (ℕ → Bool) → ℕ → Bool
is_idle has x = not (has x)

-- a free place is that of no number below N
abbrev pub is_free : ℕ → (ℕ → Bool) → (ℕ → ℕ) → ℕ → Bool
is_free N has f p = not (is_taken has f N p)

-- the first idle number takes the first free place, the second the second, and so on. Past N nothing moves
unfoldable pub completed : ℕ → (ℕ → Bool) → (ℕ → ℕ) → ℕ → ℕ
completed N has f x = cond (ltb x N) (cond (has x) (f x) (nth_of (is_free N has f) N (count_of (is_idle has) x))) x

-- ---- the rule by itself

-- the place p is left
pub record Left (N : ℕ) (has : ℕ → Bool) (f : ℕ → ℕ) (p : ℕ) : Type 0 where
  pub low : p < N
  pub other : (x : ℕ) → x < N → has x ≡ true → f x ≢ p

-- an idle number goes to p
pub record FilledBy (N : ℕ) (has : ℕ → Bool) (g : ℕ → ℕ) (p : ℕ) : Type 0 where
  pub number : ℕ
  pub low : number < N
  pub idle : has number ≡ false
  pub goes : g number ≡ p

-- g keeps the places that are given, and takes the idle numbers in rising order onto the places that are left
pub record RisingCompletion (N : ℕ) (has : ℕ → Bool) (f g : ℕ → ℕ) : Type 0 where
  pub given : (x : ℕ) → x < N → has x ≡ true → g x ≡ f x
  pub rising : (x y : ℕ) → x < y → y < N → has x ≡ false → has y ≡ false → g x < g y
  pub to-left : (x : ℕ) → x < N → has x ≡ false → Left N has f (g x)
  pub filled : (p : ℕ) → Left N has f p → FilledBy N has g p
