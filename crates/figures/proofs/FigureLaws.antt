-- One test computes a table of figures, and one law turns the test into the claim.
use Prim.Native.Nat.{ℕ}
use mathlib.Core.Path.{◌≡◌, refl, ap₂}
use mathlib.Core.Bool.{Bool, true, false, ◌&&◌, false≢true, and-eq-true_iff}
use mathlib.Core.List.{List, [], ◌∷◌}
use lib.Dec.{eqb}
use borrow.Author.Tests.{eqb-true}
use Rattle.figures.specs.Figure.{Holds, Figure}

same : List ℕ → List ℕ → Bool
same [] [] = true
same [] (y ∷ ys) = false
same (x ∷ xs) [] = false
same (x ∷ xs) (y ∷ ys) = eqb x y && same xs ys

-- the test
unfoldable pub passes : List Figure → Bool
unfolding same
passes [] = true
passes (f ∷ fs) = same f.computed f.stated && passes fs

same-equal : (xs ys : List ℕ) → same xs ys ≡ true → xs ≡ ys
unfolding same
same-equal [] [] e = refl
same-equal [] (y ∷ ys) e = absurd (false≢true e)
same-equal (x ∷ xs) [] e = absurd (false≢true e)
same-equal (x ∷ xs) (y ∷ ys) e =
    let (head, tail) = (and-eq-true_iff (eqb x y) (same xs ys)).0 e in
    ap₂ (λ z zs. z ∷ zs) (eqb-true x y head) (same-equal xs ys tail)

-- a table that passes the test holds
pub passes-holds : (fs : List Figure) → passes fs ≡ true → Holds fs
unfolding passes same
passes-holds [] e = tt
passes-holds (f ∷ fs) e =
    let (head, tail) = (and-eq-true_iff (same f.computed f.stated) (passes fs)).0 e in
    (same-equal f.computed f.stated head, passes-holds fs tail)
