-- Y rows: what a list of them adds up to, and what its run does: the output of row j carries what its left or its right wire carried, as
-- its bit says.
use mathlib.Core.Path.{◌≡◌, refl, ap, ◌∙◌}
use mathlib.Core.List.{List, [], ◌∷◌}
use Prim.Native.Nat.{ℕ, zero, suc, ◌+◌, ◌<◌}
use native.Mathlib.Nat.{add-zero}
use native.Mathlib.Omega.{arith}
use lib.ListN.{length, get_or, drop}
use lib.Seq.{get_or-append-add, get_or-drop}
use Rattle.lists.specs.Lists.{list_of, every-none, every_more}
use Rattle.lists.proofs.ListsLaws.{below-pair}
use Rattle.block_elements.specs.Rows.{Row, Y, inputs_of, makes, takes, gates_in, total, MadeBefore, choose, State, on, outputs, step, run, Totals}
use Rattle.block_elements.proofs.RowsLaws.{totals-append, made_before-list_of, run-append, run-first, run-wires, run-bits}

-- k rows with left wires f and right wires g
abbrev pub y_rows : ℕ → (ℕ → ℕ) → (ℕ → ℕ) → List Row
y_rows k f g = list_of k (λ j. Y (f j) (g j))

one-y : (l r : ℕ) → Totals (Y l r ∷ []) 1 1 0
unfolding total makes takes gates_in inputs_of
one-y l r = record { wires = refl; bits = refl; gates = refl; family = every_more refl every-none }

-- a wire and a bit each, no gate
pub y-list : (k : ℕ) (f g : ℕ → ℕ) → Totals (y_rows k f g) k k 0
unfolding list_of total
y-list zero f g = record { wires = refl; bits = refl; gates = refl; family = every-none }
y-list (suc k) f g =
    let t = totals-append (y-list k f g) (one-y (f k) (g k)) in
    record { wires = omega (arith, t.wires); bits = omega (arith, t.bits); gates = t.gates; family = t.family }

-- row j may have the outputs of the rows before it
pub y-made_before : (next k : ℕ) (f g : ℕ → ℕ) → ((j : ℕ) → j < k → f j < next + j) → ((j : ℕ) → j < k → g j < next + j)
    → MadeBefore next (y_rows k f g)
unfolding inputs_of
y-made_before next k f g hf hg =
    made_before-list_of next k (λ j. Y (f j) (g j))
    (λ j l. below-pair (omega (arith, hf j l, (y-list j f g).wires)) (omega (arith, hg j l, (y-list j f g).wires)))

module _ {A : Type 0} (none : A) (gate : ℕ → List ℕ → List A → A) where
  -- the state after them
  abbrev pub run_y : ℕ → (ℕ → ℕ) → (ℕ → ℕ) → State A → State A
  run_y k f g s = run none gate (y_rows k f g) s

  pub run_y-made : (k : ℕ) (f g : ℕ → ℕ) (s : State A) → length (run_y k f g s).wires ≡ length s.wires + k
  run_y-made k f g s = run-wires none gate _ s ∙ ap (λ m. length s.wires + m) (y-list k f g).wires

  pub run_y-left : (k : ℕ) (f g : ℕ → ℕ) (s : State A) → (run_y k f g s).bits ≡ drop k s.bits
  run_y-left k f g s = run-bits none gate _ s ∙ ap (λ m. drop m s.bits) (y-list k f g).bits

  run_y-more : (k : ℕ) (f g : ℕ → ℕ) (s : State A) → run_y (suc k) f g s ≡ run none gate (Y (f k) (g k) ∷ []) (run_y k f g s)
  unfolding list_of
  run_y-more k f g s = run-append none gate _ _ s

  last-y : (l r : ℕ) (t : State A) → on none (run none gate (Y l r ∷ []) t) (length t.wires + 0)
      ≡ choose (get_or t.bits 0 0) (on none t l) (on none t r)
  unfolding run step outputs
  last-y l r t = get_or-append-add t.wires _ 0 none

  -- what its wires carry once the rows before it are run
  pub run_y-at : (k : ℕ) (f g : ℕ → ℕ) (s : State A) (j : ℕ) → j < k
      → on none (run_y k f g s) (length s.wires + j) ≡ choose (get_or s.bits j 0) (on none (run_y j f g s) (f j)) (on none (run_y j f g s) (g j))
  run_y-at k f g s j l =
      let w : ℕ = length s.wires in
      let t : State A = run_y j f g s in
      let bit : get_or t.bits 0 0 ≡ get_or s.bits j 0 =
      ap (λ (b : List ℕ). get_or b 0 0) (run_y-left j f g s) ∙ get_or-drop j s.bits 0 0 ∙ ap (λ i. get_or s.bits i 0) (add-zero j) in
      run-first none gate (λ i. Y (f i) (g i)) k s l (w + j) (omega (arith, run_y-made (suc j) f g s))
      ∙ ap (λ (x : State A). on none x (w + j)) (run_y-more j f g s)
      ∙ ap (on none (run none gate (Y (f j) (g j) ∷ []) t)) (omega (arith, run_y-made j f g s))
      ∙ last-y (f j) (g j) t ∙ ap (λ b. choose b (on none t (f j)) (on none t (g j))) bit
