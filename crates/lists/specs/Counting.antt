-- Counting the numbers that pass a test, finding the n-th of them, and sums.
use Rattle.std.specs.Prelude.{ℕ, zero, suc, ◌+◌, Bool, cond, ◌&&◌, eqb}

-- 1 where the test is passed, else 0
abbrev pub one_if : Bool → ℕ
one_if b = cond b 1 0

-- how many of the numbers below n pass the test
unfoldable pub count_of : (ℕ → Bool) → ℕ → ℕ
count_of test zero = 0
count_of test (suc n) = count_of test n + one_if (test n)

-- of the numbers below n the one that passes the test after just r others
unfoldable pub nth_of : (ℕ → Bool) → ℕ → ℕ → ℕ
nth_of test zero r = 0
nth_of test (suc n) r = cond (test n && eqb (count_of test n) r) n (nth_of test n r)

-- f 0 to f (n - 1), added up
unfoldable pub sum_of : (ℕ → ℕ) → ℕ → ℕ
sum_of f zero = 0
sum_of f (suc n) = sum_of f n + f n
