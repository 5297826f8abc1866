-- A figure sets a computed answer beside what the paper says, each whole and as a row of numbers.
use Rattle.std.specs.Prelude.{ℕ, ◌≡◌, List, [], ◌∷◌}

pub record Figure : Type 0 where
  pub computed : List ℕ
  pub stated : List ℕ

-- every figure of the table is as stated
abbrev pub Holds : List Figure → Type 0
Holds [] = Unit
Holds (f ∷ fs) = (f.computed ≡ f.stated) × Holds fs
