-- The smallest power of two not below a number, and its logarithm to base 2.
use Rattle.std.specs.Prelude.{ℕ, zero, suc, ◌^◌, cond, leb}

-- the first exponent from n on whose power of two is not below k, tried f times
unfoldable pub first_fit : ℕ → ℕ → ℕ → ℕ
first_fit k zero n = n
first_fit k (suc f) n = cond (leb k (2 ^ n)) n (first_fit k f (suc n))

-- the logarithm of the smallest power of two not below k; k tries are enough, since k is below 2 to the power k
unfoldable pub ceil_log : ℕ → ℕ
ceil_log k = first_fit k k 0

-- the smallest power of two not below k
unfoldable pub ceil_power : ℕ → ℕ
ceil_power k = 2 ^ ceil_log k
