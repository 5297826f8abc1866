-- What the gate rows of a run see: each its number, its table's bits and its operands' values.
use Prim.Native.Nat.{ℕ}
use mathlib.Core.List.{List, [], ◌∷◌, ◌++◌, map}
use lib.ListN.{take}
use Rattle.blocks.specs.Elements.{Row, X, Y, Gate, table_bits, State, on, step}

-- what one gate row sees: its number among the gate rows, its table's bits, the lowest first, its operands' values
pub record View (A : Type 0) : Type 0 where
  pub number : ℕ
  pub table : List ℕ
  pub operands : List A

module _ {A : Type 0} (none : A) (gate : ℕ → List ℕ → List A → A) where
  -- what a row sees if it is a gate
  unfoldable pub view_of : Row → State A → List (View A)
  view_of (X l r) s = []
  view_of (Y l r) s = []
  view_of (Gate ws) s = record { number = s.gates; table = take (table_bits ws) s.bits; operands = map (on none s) ws } ∷ []

  -- what the gates among the rows see, in order
  unfoldable pub views : List Row → State A → List (View A)
  views [] s = []
  views (row ∷ rows) s = view_of row s ++ views rows (step none gate row s)
