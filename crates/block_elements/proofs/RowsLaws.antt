-- Two laws carry the rest: running r ++ s is running r, then s; and a run keeps the wires that are there.
-- Then what rows add up to, what a run leaves (wires, bits, gate number), and that decoding undoes `flat`.
use mathlib.Core.Path.{◌≡◌, refl, sym, ap, ◌∙◌}
use mathlib.Core.List.{List, [], ◌∷◌, ◌++◌, append_assoc, append-nil}
use Prim.Native.Nat.{ℕ, zero, suc, ◌+◌, ◌*◌, ◌≤◌, ◌<◌}
use native.Mathlib.Nat.{le_refl, le_step, add-zero, add_assoc, zero-add, le_of_suc-le-suc, not-suc-le-zero}
use native.Mathlib.Omega.{arith}
use lib.ListN.{length, get_or, drop, length-append, get_or-append}
use lib.Seq.{drop-drop}
use Rattle.lists.specs.Lists.{list_of, Below, Every, every-none, every_more}
use Rattle.lists.proofs.ListsLaws.{list_of-front, every_append}
use Rattle.block_elements.specs.Rows.{Row, X, Y, Gate, inputs_of, makes, takes, gates_in, total, gate_bits, MadeBefore, made_none, made_more, Totals}
use Rattle.block_elements.specs.Rows.{stride, entries, flat, row_of, decode, InFamily, State, on, outputs, step, run}

-- ---- lists of rows

pub total-append : (f : Row → ℕ) (r s : List Row) → total f (r ++ s) ≡ total f r + total f s
unfolding total
total-append f [] s = sym (zero-add _)
total-append f (row ∷ r) s = omega (arith, total-append f r s)

pub flat_append : (r s : List Row) → flat (r ++ s) ≡ flat r ++ flat s
unfolding flat
flat_append [] s = refl
flat_append (row ∷ r) s = rw (flat_append r s, append_assoc)

-- rows, then rows whose first wire is the next that those leave unmade
pub made_before-append : {next m : ℕ} {r s : List Row} → MadeBefore next r → next + total makes r ≡ m → MadeBefore m s → MadeBefore next (r ++ s)
unfolding total
made_before-append {next} {s = s} made_none e g = rw (sym e ∙ add-zero next) at g
made_before-append (made_more f fs) e g = made_more f (made_before-append fs (add_assoc _ _ _ ∙ e) g)

-- each row of a list has its wires from before the list, or from the list's rows before it
pub made_before-list_of : (next n : ℕ) (row : ℕ → Row) → ((i : ℕ) → i < n → Below (next + total makes (list_of i row)) (inputs_of (row i)))
    → MadeBefore next (list_of n row)
unfolding list_of
made_before-list_of next zero row h = made_none
made_before-list_of next (suc n) row h =
    made_before-append (made_before-list_of next n row (λ i l. h i (le_step l))) refl (made_more (h n (le_refl (suc n))) made_none)

-- ---- what rows add up to

pub totals-append : {r s : List Row} {a b c a' b' c' : ℕ} → Totals r a b c → Totals s a' b' c' → Totals (r ++ s) (a + a') (b + b') (c + c')
totals-append {r} {s} t u = record {
  wires = omega (arith, total-append makes r s, t.wires, u.wires);
  bits = omega (arith, total-append takes r s, t.bits, u.bits);
  gates = omega (arith, total-append gates_in r s, t.gates, u.gates);
  family = every_append t.family u.family;
}

pub gate-totals : (l r : ℕ) → Totals (Gate (l ∷ r ∷ []) ∷ []) 1 gate_bits 1
unfolding total makes takes gates_in inputs_of
gate-totals l r = record { wires = refl; bits = refl; gates = refl; family = every_more refl every-none }

-- ---- the table's entries

entries-length : (row : Row) → InFamily row → length (entries row) ≡ stride
unfolding inputs_of entries
entries-length (X l r) e = refl
entries-length (Y l r) e = refl
entries-length (Gate ws) e = ap suc e

pub length-flat : {rows : List Row} → Every InFamily rows → length (flat rows) ≡ stride * length rows
unfolding flat
length-flat every-none = refl
length-flat (every_more {a = row} {l = rows} f fs) =
    rw (length-append (entries row) (flat rows)) (omega (arith, entries-length row f, length-flat fs))

decode-entries : (row : Row) (es : List ℕ) → InFamily row → decode (entries row ++ es) ≡ row ∷ decode es
unfolding inputs_of entries decode row_of
decode-entries (X l r) es e = refl
decode-entries (Y l r) es e = refl
decode-entries (Gate []) es e = absurd (omega arith)
decode-entries (Gate (a ∷ [])) es e = absurd (omega arith)
decode-entries (Gate (a ∷ b ∷ [])) es e = refl
decode-entries (Gate (a ∷ b ∷ c ∷ ws)) es e = absurd (omega arith)

pub decode-flat : {rows : List Row} → Every InFamily rows → decode (flat rows) ≡ rows
unfolding flat decode
decode-flat every-none = refl
decode-flat (every_more {a = row} {l = rows} f fs) = rw (decode-entries row (flat rows) f, decode-flat fs)

-- row i stands at the entries from stride * i on
pub decode-at : (es : List ℕ) (i : ℕ) (d : Row) → i < length (decode es)
    → get_or (decode es) i d ≡ row_of (get_or es (stride * i) 0) (get_or es (stride * i + 1) 0) (get_or es (stride * i + 2) 0)
unfolding decode
decode-at [] i d h = absurd (not-suc-le-zero h)
decode-at (k ∷ []) i d h = absurd (not-suc-le-zero h)
decode-at (k ∷ l ∷ []) i d h = absurd (not-suc-le-zero h)
decode-at (k ∷ l ∷ r ∷ es) zero d h = refl
decode-at (k ∷ l ∷ r ∷ es) (suc i) d h =
    decode-at es i d (le_of_suc-le-suc h) ∙ sym (rw (
      past (stride * suc i) (stride * i) (omega arith),
      past (stride * suc i + 1) (stride * i + 1) (omega arith),
      past (stride * suc i + 2) (stride * i + 2) (omega arith),
    ))
  where
    past : (p q : ℕ) → p ≡ suc (suc (suc q)) → get_or (k ∷ l ∷ r ∷ es) p 0 ≡ get_or es q 0
    past p q e = rw e

-- ---- the run

module _ {A : Type 0} (none : A) (gate : ℕ → List ℕ → List A → A) where
  pub run-append : (r s : List Row) (st : State A) → run none gate (r ++ s) st ≡ run none gate s (run none gate r st)
  unfolding run
  run-append [] s st = refl
  run-append (row ∷ r) s st = run-append r s (step none gate row st)

  -- the wires that were there stay in front
  pub run_extends : (rows : List Row) (st : State A) → (new : List A) × ((run none gate rows st).wires ≡ st.wires ++ new)
  unfolding run step
  run_extends [] st = ([], sym (append-nil _))
  run_extends (row ∷ rows) st =
      let t = run_extends rows (step none gate row st) in
      (outputs none gate row st ++ t.0, t.1 ∙ append_assoc st.wires _ _)

  -- earlier wires keep their values
  pub run_keeps : (rows : List Row) (st : State A) (w : ℕ) (d : A) → w < length st.wires
      → get_or (run none gate rows st).wires w d ≡ get_or st.wires w d
  run_keeps rows st w d h =
      let t = run_extends rows st in
      rw t.1 (get_or-append st.wires t.0 d w h)

  length-outputs : (row : Row) (st : State A) → length (outputs none gate row st) ≡ makes row
  unfolding outputs makes
  length-outputs (X l r) st = refl
  length-outputs (Y l r) st = refl
  length-outputs (Gate ws) st = refl

  pub run-wires : (rows : List Row) (st : State A) → length (run none gate rows st).wires ≡ length st.wires + total makes rows
  unfolding run step total
  run-wires [] st = sym (add-zero _)
  run-wires (row ∷ rows) st =
      run-wires rows (step none gate row st)
      ∙ rw (length-append st.wires (outputs none gate row st), length-outputs row st, add_assoc)

  pub run-bits : (rows : List Row) (st : State A) → (run none gate rows st).bits ≡ drop (total takes rows) st.bits
  unfolding run step total
  run-bits [] st = refl
  run-bits (row ∷ rows) st = run-bits rows (step none gate row st) ∙ drop-drop (total takes rows) (takes row) st.bits

  -- the wires of a list's first rows keep their values as well
  pub run-first : (row : ℕ → Row) {j : ℕ} (k : ℕ) (st : State A) → j ≤ k → (w : ℕ) → w < length (run none gate (list_of j row) st).wires
      → on none (run none gate (list_of k row) st) w ≡ on none (run none gate (list_of j row) st) w
  run-first row {j} k st l w h =
      let t = list_of-front row k l in
      ap (λ r. on none (run none gate r st) w) t.1 ∙ ap (λ (x : State A). on none x w) (run-append (list_of j row) t.0 st) ∙ run_keeps t.0 _ w none h

  pub run-gates : (rows : List Row) (st : State A) → (run none gate rows st).gates ≡ st.gates + total gates_in rows
  unfolding run step total
  run-gates [] st = sym (add-zero _)
  run-gates (row ∷ rows) st = run-gates rows (step none gate row st) ∙ add_assoc _ _ _
