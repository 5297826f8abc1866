-- The gates of r ++ s are those of r, then those of s after r's run; rows without gates see nothing.
use mathlib.Core.Path.{◌≡◌, refl, ap, ◌∙◌}
use mathlib.Core.List.{List, [], ◌∷◌, ◌++◌, append_assoc}
use Prim.Native.Nat.{ℕ}
use native.Mathlib.Omega.{arith}
use Rattle.blocks.specs.Elements.{Row, X, Y, Gate, gates_in, total, State, step, run}
use Rattle.fabric_universal.proofs.Views.{View, view_of, views}

module _ {A : Type 0} (none : A) (gate : ℕ → List ℕ → List A → A) where
  pub views-append : (r t : List Row) (s : State A) → views none gate (r ++ t) s ≡ views none gate r s ++ views none gate t (run none gate r s)
  unfolding views run
  views-append [] t s = refl
  views-append (row ∷ r) t s =
      ap (λ (vs : List (View A)). view_of none gate row s ++ vs) (views-append r t (step none gate row s))
      ∙ (rw append_assoc)

  pub views-none : (rows : List Row) (s : State A) → total gates_in rows ≡ 0 → views none gate rows s ≡ []
  unfolding views view_of total gates_in
  views-none [] s e = refl
  views-none (X l r ∷ rows) s e = views-none rows _ (omega arith)
  views-none (Y l r ∷ rows) s e = views-none rows _ (omega arith)
  views-none (Gate ws ∷ rows) s e = absurd (omega arith)
