-- `ceil_power k` is not below k, and no smaller power of two is. The search stops at the first exponent that fits, and an exponent that
-- fits stands within k tries.
use mathlib.Core.Path.{◌≡◌, refl}
use Prim.Native.Nat.{ℕ, zero, suc, ◌+◌, ◌*◌, ◌^◌, ◌<◌, ◌≤◌}
use native.Mathlib.Nat.{pow-suc}
use native.Mathlib.Omega.{arith}
use native.Mathlib.Decide.{ℕ_discrete, dec_le}
use lib.Pow.{pow_mono}
use borrow.Author.Tests.{le-leb, lt-leb}
use Rattle.powers.specs.Powers.{first_fit, ceil_log, ceil_power}

pub below_power : (n : ℕ) → n < 2 ^ n
below_power zero = omega arith
below_power (suc n) = rw (pow-suc 2 n) (omega (arith, below_power n))

-- the search finds m if m fits and nothing below it does
first-is : (k m : ℕ) → k ≤ 2 ^ m → ((j : ℕ) → j < m → 2 ^ j < k) → (f n : ℕ) → n ≤ m → m ≤ f + n → first_fit k f n ≡ m
unfolding first_fit
first-is k m hk below zero n hn hf = omega arith
first-is k m hk below (suc f) n hn hf =
    let ih = first-is k m hk below f (suc n) in
    elim (ℕ_discrete n m) [
      | yes e ↦ rw (e, le-leb k (2 ^ m) hk)
      | no d ↦ rw (lt-leb k (2 ^ n) (below n (omega arith))) (ih (omega arith) (omega arith))
    ]

-- the logarithm is the exponent that fits while no smaller one does
pub ceil_log-is : (k m : ℕ) → k ≤ 2 ^ m → ((j : ℕ) → j < m → 2 ^ j < k) → ceil_log k ≡ m
unfolding ceil_log
ceil_log-is k m hk below = first-is k m hk below k 0 (omega arith) (enough m refl)
  where
    enough : (i : ℕ) → i ≡ m → m ≤ k + 0
    enough zero e = omega arith
    enough (suc i) e = omega (arith, below i (omega arith), below_power i)

-- every k has one: from some exponent that fits down to the first
first_below : (k b : ℕ) → k ≤ 2 ^ b → (m : ℕ) × (k ≤ 2 ^ m) × ((j : ℕ) → j < m → 2 ^ j < k)
first_below k zero h = (0, h, λ j hj. absurd (omega arith))
first_below k (suc b) h = elim (dec_le k (2 ^ b)) [
  | yes y ↦ first_below k b y
  | no n ↦ (suc b, h, λ j hj. omega (arith, pow_mono {i = j} {j = b} (omega arith)))
]

pub ceil_log-fits : (k : ℕ) → k ≤ 2 ^ ceil_log k
ceil_log-fits k =
    let w = first_below k k (omega (arith, below_power k)) in
    rw (ceil_log-is k w.0 w.1 w.2) w.1

pub ceil_log-least : (k m : ℕ) → k ≤ 2 ^ m → ceil_log k ≤ m
ceil_log-least k m h =
    let w = first_below k m h in
    rw (ceil_log-is k w.0 w.1 w.2)
    (elim (dec_le w.0 m) [ yes y ↦ y | no n ↦ absurd (omega (arith, w.2 m (omega arith))) ])

pub ceil_log-power : (n : ℕ) → ceil_log (2 ^ n) ≡ n
ceil_log-power n = ceil_log-is (2 ^ n) n (omega arith) (λ j hj. omega (arith, pow-suc 2 j, pow_mono hj, below_power j))

-- the same said of the power
pub not_below : (k : ℕ) → k ≤ ceil_power k
unfolding ceil_power
not_below k = ceil_log-fits k

pub smallest : (k m : ℕ) → k ≤ 2 ^ m → ceil_power k ≤ 2 ^ m
unfolding ceil_power
smallest k m h = pow_mono (ceil_log-least k m h)
