-- Lists given place by place. Positions count from 0; document 01 counts from 1.
use Rattle.std.specs.Prelude.{ℕ, zero, suc, ◌<◌, ◌≡◌, List, [], ◌∷◌, ◌++◌, length, get_or}

-- f 0 to f (n - 1)
unfoldable pub list_of : {A : Type 0} → ℕ → (ℕ → A) → List A
list_of zero f = []
list_of (suc n) f = list_of n f ++ (f n ∷ [])

-- every number of the list is below the limit
pub record Below (limit : ℕ) (l : List ℕ) : Type 0 where
  pub each : (i : ℕ) → i < length l → get_or l i 0 < limit

-- for each number below n nothing is given but what f has there
pub record Gives {A : Type 0} (gives : ℕ → A → Type 0) (n : ℕ) (f : ℕ → A) : Type 0 where
  pub each : (i : ℕ) (x : A) → i < n → gives i x → x ≡ f i

-- every element is as P says
pub data Every {A : Type 0} (P : A → Type 0) : List A → Type 0 where
  every-none : Every P []
  every_more : {a : A} {l : List A} → P a → Every P l → Every P (a ∷ l)
