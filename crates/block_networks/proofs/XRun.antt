-- X rows: what a list of them adds up to, and what its run does: place y of their outputs carries what y, or y's partner where its X is
-- crossed, carried before them.
use mathlib.Core.Path.{◌≡◌, refl, sym, ap, ◌∙◌}
use mathlib.Core.Logic.{◌⊎◌, inl, inr}
use mathlib.Core.List.{List, [], ◌∷◌}
use Prim.Native.Nat.{ℕ, zero, suc, ◌+◌, ◌*◌, ◌/◌, ◌%◌, ◌<◌}
use native.Mathlib.Nat.{add-zero}
use native.Mathlib.Omega.{arith}
use lib.ListN.{length, get_or, drop}
use lib.Seq.{get_or-append-add, get_or-drop}
use Rattle.lists.specs.Lists.{list_of, Every, every-none, every_more}
use Rattle.lists.proofs.ListsLaws.{length-list_of, every-list_of, below-pair}
use Rattle.block_elements.specs.Rows.{Row, X, inputs_of, makes, takes, gates_in, total, MadeBefore, choose, State, on, outputs, step, run, Totals}
use Rattle.block_elements.proofs.RowsLaws.{made_before-list_of, run-append, run-first, run_keeps, run-wires, run-bits}
use Rattle.block_networks.specs.Permutation.{partner}
use Rattle.block_networks.proofs.Sources.{cross}
use Rattle.block_networks.proofs.Loops.{partner-even, partner-partner, parity}
use Rattle.block_networks.proofs.Halves.{even_place, odd_place}
use Rattle.block_networks.proofs.Routing.{cross-half}

-- an X row
pub data IsX : Row → Type 0 where
  is-X : {l r : ℕ} → IsX (X l r)

-- ---- X rows: two wires and one bit each

pub x-totals : {rows : List Row} → Every IsX rows → Totals rows (2 * length rows) (length rows) 0
unfolding total makes takes gates_in inputs_of
x-totals every-none = record { wires = refl; bits = refl; gates = refl; family = every-none }
x-totals (every_more is-X f) =
    let t = x-totals f in
    record { wires = omega arith; bits = omega arith; gates = omega arith; family = every_more refl t.family }

pub x-list : (n : ℕ) (f g : ℕ → ℕ) → Totals (list_of n (λ i. X (f i) (g i))) (2 * n) n 0
x-list n f g =
    let t = x-totals (every-list_of n (λ i. X (f i) (g i)) (λ i l. is-X)) in
    let e = length-list_of n (λ i. X (f i) (g i)) in
    record { wires = omega arith; bits = omega arith; gates = t.gates; family = t.family }

pub x-made_before : (next n : ℕ) (f g : ℕ → ℕ) → ((i : ℕ) → i < n → f i < next) → ((i : ℕ) → i < n → g i < next)
    → MadeBefore next (list_of n (λ i. X (f i) (g i)))
unfolding inputs_of
x-made_before next n f g hf hg =
    made_before-list_of next n (λ i. X (f i) (g i)) (λ i l. below-pair (omega (arith, hf i l)) (omega (arith, hg i l)))

-- ---- their operands

-- the input wire at place y of X rows with left wires f and right wires g
unfoldable pub operand : (ℕ → ℕ) → (ℕ → ℕ) → ℕ → ℕ
operand f g y = choose (y % 2) (f (y / 2)) (g (y / 2))

pub operand_at : (f g : ℕ → ℕ) (i c : ℕ) → c < 2 → operand f g (2 * i + c) ≡ choose c (f i) (g i)
unfolding operand
operand_at f g i c l =
    let d : (2 * i + c) / 2 ≡ i = omega arith in
    let m : (2 * i + c) % 2 ≡ c = omega arith in
    rw (d, m)

pub chosen-listed : (a b c : ℕ) → c < 2 → get_or (a ∷ b ∷ []) c 0 ≡ choose c a b
unfolding choose
chosen-listed a b zero l = refl
chosen-listed a b (suc zero) l = refl
chosen-listed a b (suc (suc c)) l = absurd (omega arith)

choose_lt : (c a b m : ℕ) → a < m → b < m → choose c a b < m
unfolding choose
choose_lt zero a b m la lb = la
choose_lt (suc c) a b m la lb = lb

pub operand_lt : (f g : ℕ → ℕ) (k m y : ℕ) → ((i : ℕ) → i < k → f i < m) → ((i : ℕ) → i < k → g i < m) → y < 2 * k → operand f g y < m
unfolding operand
operand_lt f g k m y hf hg l = choose_lt (y % 2) _ _ m (hf (y / 2) (omega arith)) (hg (y / 2) (omega arith))

cross_at : (bits : List ℕ) (k c : ℕ) → c < 2 → cross bits (2 * k + c) ≡ choose (get_or bits k 0) (2 * k + c) (partner (2 * k + c))
unfolding cross
cross_at bits k c l = let d : (2 * k + c) / 2 ≡ k = omega arith in rw d

pub cross_lt : (bits : List ℕ) (k y : ℕ) → y < 2 * k → cross bits y < 2 * k
cross_lt bits k y l = omega (arith, cross-half bits y)

pub cross_ext : (a b : List ℕ) (y : ℕ) → get_or a (y / 2) 0 ≡ get_or b (y / 2) 0 → cross a y ≡ cross b y
unfolding cross
cross_ext a b y e = rw e

-- the operand at place y of input rows is the wire at place y
pub operand-list : (ins : List ℕ) (y : ℕ) → operand (λ i. get_or ins (2 * i) 0) (λ i. get_or ins (2 * i + 1) 0) y ≡ get_or ins y 0
unfolding operand choose
operand-list ins y = go (parity y)
  where
    go : (y % 2 ≡ 0) ⊎ (y % 2 ≡ 1) → choose (y % 2) (get_or ins (2 * (y / 2)) 0) (get_or ins (2 * (y / 2) + 1) 0) ≡ get_or ins y 0
    go (inl e) = rw (e, even_place y e)
    go (inr e) = rw (e, odd_place y e)

module _ {A : Type 0} (none : A) (gate : ℕ → List ℕ → List A → A) where
  -- the two outputs of an X with bit b, at place 2k + c
  one-x : (v : ℕ → A) (f g : ℕ → ℕ) (b k c : ℕ) → c < 2
      → get_or (choose b (v (f k)) (v (g k)) ∷ choose b (v (g k)) (v (f k)) ∷ []) c none ≡ v (operand f g (choose b (2 * k + c) (partner (2 * k + c))))
  unfolding choose
  one-x v f g zero k zero l = ap v (sym (operand_at f g k 0 l))
  one-x v f g zero k (suc zero) l = ap v (sym (operand_at f g k 1 l))
  one-x v f g (suc b) k zero l = rw (add-zero (2 * k), partner-even k) (ap v (sym (operand_at f g k 1 (omega arith))))
  one-x v f g (suc b) k (suc zero) l =
      let e : partner (2 * k + 1) ≡ 2 * k + 0 = ap partner (sym (partner-even k)) ∙ partner-partner (2 * k) ∙ sym (add-zero _) in
      rw e (ap v (sym (operand_at f g k 0 (omega arith))))
  one-x v f g b k (suc (suc c)) l = absurd (omega arith)

  last-x : (f g : ℕ → ℕ) (k : ℕ) (t : State A) (c : ℕ) → c < 2
      → on none (run none gate (X (f k) (g k) ∷ []) t) (length t.wires + c)
      ≡ on none t (operand f g (choose (get_or t.bits 0 0) (2 * k + c) (partner (2 * k + c))))
  unfolding run step outputs
  last-x f g k t c l = get_or-append-add t.wires _ c none ∙ one-x (on none t) f g (get_or t.bits 0 0) k c l

  -- the state after k X rows with left wires f and right wires g
  abbrev pub run_x : ℕ → (ℕ → ℕ) → (ℕ → ℕ) → State A → State A
  run_x k f g s = run none gate (list_of k (λ i. X (f i) (g i))) s

  pub run_x-made : (k : ℕ) (f g : ℕ → ℕ) (s : State A) → length (run_x k f g s).wires ≡ length s.wires + 2 * k
  run_x-made k f g s = run-wires none gate _ s ∙ ap (λ m. length s.wires + m) (x-list k f g).wires

  pub run_x-left : (k : ℕ) (f g : ℕ → ℕ) (s : State A) → (run_x k f g s).bits ≡ drop k s.bits
  run_x-left k f g s = run-bits none gate _ s ∙ ap (λ m. drop m s.bits) (x-list k f g).bits

  pub run_x_keeps : (k : ℕ) (f g : ℕ → ℕ) (s : State A) (w : ℕ) → w < length s.wires → on none (run_x k f g s) w ≡ on none s w
  run_x_keeps k f g s w l = run_keeps none gate _ s w none l

  run_x-more : (k : ℕ) (f g : ℕ → ℕ) (s : State A) → run_x (suc k) f g s ≡ run none gate (X (f k) (g k) ∷ []) (run_x k f g s)
  unfolding list_of
  run_x-more k f g s = run-append none gate _ _ s

  -- place y of the outputs carries what the place that it is crossed with carried
  pub run_x-at : (k : ℕ) (f g : ℕ → ℕ) (s : State A) → ((i : ℕ) → i < k → f i < length s.wires) → ((i : ℕ) → i < k → g i < length s.wires)
      → (y : ℕ) → y < 2 * k → on none (run_x k f g s) (length s.wires + y) ≡ on none s (operand f g (cross s.bits y))
  run_x-at k f g s hf hg y l =
      run-first none gate (λ j. X (f j) (g j)) k s l₁ (w + y) (omega (arith, run_x-made (suc i) f g s))
      ∙ ap (λ (x : State A). on none x (w + y)) (run_x-more i f g s)
      ∙ ap (on none (run none gate (X (f i) (g i) ∷ []) t)) (omega (arith, run_x-made i f g s)) ∙ last-x f g i t c (omega arith)
      ∙ ap (λ x. on none t (operand f g x)) here ∙ run_x_keeps i f g s _ (operand_lt f g k w _ hf hg (cross_lt s.bits k y l))
    where
      -- y is place c of row i's outputs
      i : ℕ
      i = y / 2

      c : ℕ
      c = y % 2

      l₁ : i < k
      l₁ = omega arith

      w : ℕ
      w = length s.wires

      t : State A
      t = run_x i f g s

      bit : get_or t.bits 0 0 ≡ get_or s.bits i 0
      bit = ap (λ (b : List ℕ). get_or b 0 0) (run_x-left i f g s) ∙ get_or-drop i s.bits 0 0 ∙ ap (λ j. get_or s.bits j 0) (add-zero i)

      here : choose (get_or t.bits 0 0) (2 * i + c) (partner (2 * i + c)) ≡ cross s.bits y
      here = let e : 2 * i + c ≡ y = omega arith in rw bit (sym (cross_at s.bits i c (omega arith)) ∙ ap (cross s.bits) e)
