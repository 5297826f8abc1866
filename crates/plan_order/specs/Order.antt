-- Document 02, W1: "taking again and again the lowest-numbered gate whose operands are inputs or gates already taken". The drawing has u inputs
-- and k gates, whose operands are `first` and `second`. Its gates count from 0 here: gate g has the wire u + g + 1.
use Rattle.std.specs.Prelude.{ℕ, zero, suc, ◌+◌, ◌-◌, ◌<◌, ◌≤◌, ◌≡◌, ◌⊎◌, ◌↔◌, Bool, true, false, cond, not, ◌&&◌, ◌||◌, List, [], ◌∷◌, ◌++◌, eqb, leb, length, get_or, take}
use Rattle.lists.specs.Counting.{count_of, nth_of}

-- g stands in the list
unfoldable pub has : List ℕ → ℕ → Bool
has [] g = false
has (x ∷ xs) g = eqb x g || has xs g

module _ (u k : ℕ) (first second : ℕ → ℕ) where
  -- the wire is an input, or a gate already taken
  unfoldable pub supplied : List ℕ → ℕ → Bool
  supplied gates w = leb w u || has gates (w - suc u)

  -- gate g can be taken next
  unfoldable pub ready : List ℕ → ℕ → Bool
  ready gates g = not (has gates g) && (supplied gates (first g) && supplied gates (second g))

  -- with the lowest gate that can be taken; as they are where none can
  unfoldable pub with_next : List ℕ → List ℕ
  with_next gates = cond (eqb (count_of (ready gates) k) 0) gates (gates ++ (nth_of (ready gates) k 0 ∷ []))

  -- the gates that are taken in n turns; each turn searches from the lowest gate
  unfoldable pub taken : ℕ → List ℕ
  taken zero = []
  taken (suc n) = with_next (taken n)

  -- the gates in the order in which they are taken: k turns are enough
  abbrev pub order : List ℕ
  order = taken k

  -- whether gate g is left over
  abbrev pub is_left : ℕ → Bool
  is_left g = not (has order g)

  -- the lowest gate that is left over
  abbrev pub lowest_left : ℕ
  lowest_left = nth_of is_left k 0

  -- ---- rings

  -- the wire is a gate of the set
  abbrev pub From : (ℕ → Bool) → ℕ → Type 0
  From set w = (u < w) × (set (w - suc u) ≡ true)

  -- "some gates each draw from a gate of the same set"
  pub record Cyclic (set : ℕ → Bool) : Type 0 where
    pub gate : ℕ
    pub member : set gate ≡ true
    pub below : (g : ℕ) → set g ≡ true → g < k
    pub fed : (g : ℕ) → set g ≡ true → From set (first g) ⊎ From set (second g)

  -- there is such a set
  pub record HasCycle : Type 0 where
    pub set : ℕ → Bool
    pub cyclic : Cyclic set

  -- every operand is a wire of the drawing
  abbrev pub OperandsWithin : Type 0
  OperandsWithin = (g : ℕ) → g < k → (first g ≤ u + k) × (second g ≤ u + k)

  -- gate g is the least that is never taken
  pub record LeastLeft (g : ℕ) : Type 0 where
    pub low : g < k
    pub never : (n : ℕ) → has (taken n) g ≡ false
    pub least : (h : ℕ) → h < g → has order h ≡ true

  -- not all gates are taken exactly if there is a ring, and the lowest gate that is left over is then the least that is never taken
  pub record CycleExactly : Type 0 where
    pub exactly : (length order ≡ k → ⊥) ↔ HasCycle
    pub least : (length order ≡ k → ⊥) → LeastLeft lowest_left

  -- ---- the order, where all gates are taken

  -- the list is a permutation of the gates; the gate at each place is ready after those before it, and no lower one that is not yet taken was
  pub record TakenInOrder : Type 0 where
    pub below : (p : ℕ) → p < k → get_or order p 0 < k
    pub once : (p q : ℕ) → p < k → q < k → get_or order p 0 ≡ get_or order q 0 → p ≡ q
    pub every : (g : ℕ) → g < k → has order g ≡ true
    pub fed : (p : ℕ) → p < k → ready (take p order) (get_or order p 0) ≡ true
    pub lowest : (p g : ℕ) → p < k → g < get_or order p 0 → ready (take p order) g ≡ false

-- for a drawing whose operands are its wires: a ring exactly, or an order
abbrev pub CycleTheorem : Type 0
CycleTheorem = (u k : ℕ) (first second : ℕ → ℕ) → OperandsWithin u k first second → CycleExactly u k first second

-- "one gate fed by itself is such a set"
abbrev pub FedByItselfTheorem : Type 0
FedByItselfTheorem = (u k : ℕ) (first second : ℕ → ℕ) (g : ℕ) → g < k → (first g ≡ u + suc g) ⊎ (second g ≡ u + suc g) → HasCycle u k first second

abbrev pub OrderTheorem : Type 0
OrderTheorem = (u k : ℕ) (first second : ℕ → ℕ) → length (order u k first second) ≡ k → TakenInOrder u k first second
