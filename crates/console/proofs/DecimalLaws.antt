-- The digits that the kit spells, the fewest that hold a number, are its decimal digits.
use mathlib.Core.Path.{◌≡◌, ap}
use mathlib.Core.Bool.{Bool, true, false, cond}
use mathlib.Core.List.{List, [], ◌∷◌, ◌++◌}
use Prim.Native.Nat.{ℕ, zero, suc, ◌+◌, ◌-◌, ◌*◌, ◌/◌, ◌%◌, ◌^◌, ◌≤◌, ◌<◌}
use native.Mathlib.Nat.{pow-succ', one-le-pow}
use native.Mathlib.Omega.{arith}
use borrow.Author.Tests.{lt-ltb, le-ltb}
use lib.Dec.{ltb, lit≤}
use lib.ListN.{length, length-append}
use Rattle.io.specs.Digits.{last_digits, IsDigitCount}
use Rattle.console.specs.Text.{digit, decimal_within, most_digits, named}

sub-one : (k : ℕ) → suc k - 1 ≡ k
sub-one k = omega arith

one-digit : (n most : ℕ) → n < 10 → last_digits 10 1 n ≡ decimal_within (suc most) n
unfolding decimal_within
one-digit n most l =
    let e : n % 10 ≡ n = omega arith in
    rw (e, lt-ltb n 10 l)

pub decimal_digits : (most k n : ℕ) → n < 10 ^ suc most → IsDigitCount 10 1 n k → last_digits 10 k n ≡ decimal_within (suc most) n
unfolding decimal_within
decimal_digits most zero n h f = absurd (omega (arith, f.0))
decimal_digits most (suc zero) n h f = one-digit n most f.1
decimal_digits zero (suc (suc k)) n h f =
    let above : 10 ^ suc k ≤ n = rw (sub-one (suc k)) at (f.2 (omega arith)) in
    absurd (omega (arith, pow-succ' 10 k, one-le-pow k 10 (lit≤ tt)))
decimal_digits (suc most) (suc (suc k)) n h f =
    let below : n < 10 ^ suc (suc k) = f.1 in
    let above : 10 ^ suc k ≤ n = rw (sub-one (suc k)) at (f.2 (omega arith)) in
    let ten : 10 ^ suc k ≡ 10 * 10 ^ k = pow-succ' 10 k in
    let some : 1 ≤ 10 ^ k = one-le-pow k 10 (lit≤ tt) in
    let fewer : IsDigitCount 10 1 (n / 10) (suc k) = (omega arith, omega (arith, pow-succ' 10 (suc k)), λ l. rw (sub-one k) (omega (arith, ten))) in
    let last : n % 10 < 10 = omega arith in
    rw (le-ltb n 10 (omega (arith, ten, some)), lt-ltb (n % 10) 10 last)
    (ap (λ (l : List ℕ). l ++ ((48 + n % 10) ∷ [])) (decimal_digits most (suc k) (n / 10) (omega (arith, pow-succ' 10 (suc most))) fewer))

-- so many digits at most
pub decimal-length : (most n : ℕ) → length (decimal_within most n) ≤ most
unfolding decimal_within
decimal-length zero n = omega arith
decimal-length (suc most) n = go (ltb n 10) (decimal-length most (n / 10))
  where
    go : (b : Bool) → length (decimal_within most (n / 10)) ≤ most
        → length (cond b (digit n ∷ []) (decimal_within most (n / 10) ++ (digit (n % 10) ∷ []))) ≤ suc most
    go true h = omega arith
    go false h = rw (length-append (decimal_within most (n / 10)) (digit (n % 10) ∷ [])) (omega arith)

-- a word and its number
pub named-long : (name : List ℕ) (n : ℕ) → length (named name n) ≤ length name + most_digits
named-long name n = rw (length-append name (decimal_within most_digits n)) (omega (arith, decimal-length most_digits n))
