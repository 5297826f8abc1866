-- A table that is written from rows of the family is read back as those rows, and it is well formed where each row's wires are made before it:
-- row i's entries stand from header + stride * i on, and the rows before it make the wires that it may read.
use mathlib.Core.Path.{◌≡◌, refl, sym, ap, ◌∙◌}
use mathlib.Core.Logic.{◌⊎◌, inl, inr}
use mathlib.Core.List.{List, [], ◌∷◌, ◌++◌}
use Prim.Native.Nat.{ℕ, zero, suc, ◌+◌, ◌*◌, ◌≤◌, ◌<◌}
use native.Mathlib.Nat.{add_assoc, add-zero, eq-or-lt_of_le, le_of_suc-le-suc}
use native.Mathlib.Omega.{arith}
use lib.Dec.{lit≤}
use lib.ListN.{length, get_or, length-append, get_or-append}
use lib.Seq.{get_or-append-add}
use Rattle.lists.specs.Lists.{list_of, Below, Every, every-none, every_more}
use Rattle.lists.proofs.ListsLaws.{list_of_ext, list_of-get_or, below-append, below_more}
use Rattle.elements.specs.Elements.{max_wires}
use Rattle.blocks.specs.Elements.{Row, X, Y, Gate, stride, inputs_of, makes, takes, total, entries, flat, row_of, InFamily, MadeBefore, made_none, made_more}
use Rattle.blocks.proofs.ElementsLaws.{length-flat, decode-flat, decode-at}
use Rattle.plan.specs.Record.{max_inputs, max_outputs}
use Rattle.fabric_sizes.specs.Layout.{header, kind_at, left_at, right_at, row_at, output_wire_at, rows_to, table_rows, wires_before, bits_before, wires_in, bits_in}
use Rattle.fabric_table_checks.specs.TableFault.{WellFormed, RowWithin}

-- the table of these rows and output wires
abbrev pub table_of : ℕ → ℕ → List Row → List ℕ → List ℕ
table_of u v rows outs = u ∷ v ∷ length rows ∷ (flat rows ++ outs)

module _ (u v : ℕ) (rows : List Row) (outs : List ℕ) (family : Every InFamily rows) where
  -- what stands past the header, among the rows
  past-header : (x : ℕ) → get_or (table_of u v rows outs) (header + x) 0 ≡ get_or (flat rows ++ outs) x 0
  past-header x = get_or-append-add (u ∷ v ∷ length rows ∷ []) (flat rows ++ outs) x 0

  row-entry : (x : ℕ) → x < stride * length rows → get_or (table_of u v rows outs) (header + x) 0 ≡ get_or (flat rows) x 0
  row-entry x l = past-header x ∙ get_or-append (flat rows) outs 0 x (rw (length-flat family) l)

  -- row i, the rows, and output j are read back
  pub row_at_of : (i : ℕ) (d : Row) → i < length rows → row_at (table_of u v rows outs) i ≡ get_or rows i d
  unfolding row_at
  row_at_of i d l =
      let at = decode-at (flat rows) i d (rw (decode-flat family) l) in
      rw (
        add_assoc header (stride * i) 1,
        add_assoc header (stride * i) 2,
        row-entry (stride * i) (omega arith),
        row-entry (stride * i + 1) (omega arith),
        row-entry (stride * i + 2) (omega arith),
      ) (sym at ∙ ap (λ (rs : List Row). get_or rs i d) (decode-flat family))

  pub table_rows_of : table_rows (table_of u v rows outs) ≡ rows
  table_rows_of = list_of_ext (length rows) _ (λ i. get_or rows i (X 0 0)) (λ i l. row_at_of i (X 0 0) l) ∙ list_of-get_or rows (X 0 0)

  pub output_of_lem : (j : ℕ) → output_wire_at (table_of u v rows outs) j ≡ get_or outs j 0
  output_of_lem j =
      ap (λ x. get_or (table_of u v rows outs) x 0) (add_assoc header (stride * length rows) j) ∙ past-header (stride * length rows + j)
      ∙ ap (λ x. get_or (flat rows ++ outs) (x + j) 0) (sym (length-flat family)) ∙ get_or-append-add (flat rows) outs j 0

-- ---- its kinds

-- a row's kind is the first of its entries
kind-first : (row : Row) (more : List ℕ) → get_or (entries row ++ more) 0 0 ≡ get_or (entries row) 0 0
unfolding entries
kind-first (X l r) more = refl
kind-first (Y l r) more = refl
kind-first (Gate ws) more = refl

kind-within : (row : Row) → (1 ≤ get_or (entries row) 0 0) × (get_or (entries row) 0 0 ≤ 3)
unfolding entries
kind-within (X l r) = (lit≤ tt, lit≤ tt)
kind-within (Y l r) = (lit≤ tt, lit≤ tt)
kind-within (Gate ws) = (lit≤ tt, lit≤ tt)

past_row : (row : Row) (more : List ℕ) (x : ℕ) → InFamily row → get_or (entries row ++ more) (stride + x) 0 ≡ get_or more x 0
unfolding entries inputs_of
past_row (X l r) more x e = get_or-append-add (1 ∷ l ∷ r ∷ []) more x 0
past_row (Y l r) more x e = get_or-append-add (2 ∷ l ∷ r ∷ []) more x 0
past_row (Gate ws) more x e = ap (λ k. get_or (3 ∷ (ws ++ more)) (suc k + x) 0) (sym e) ∙ get_or-append-add (3 ∷ ws) more x 0

kind-at : {rows : List Row} → Every InFamily rows → (i : ℕ) (d : Row) → i < length rows
    → get_or (flat rows) (stride * i) 0 ≡ get_or (entries (get_or rows i d)) 0 0
unfolding flat
kind-at every-none i d l = absurd (omega arith)
kind-at (every_more {a = row} {l = rows} f fs) zero d l = kind-first row (flat rows)
kind-at (every_more {a = row} {l = rows} f fs) (suc i) d l =
    let e : stride * suc i ≡ stride + stride * i = omega arith in
    rw (e, past_row row (flat rows) (stride * i) f) (kind-at fs i d (omega arith))

pub kind_at_of : (u v : ℕ) (rows : List Row) (outs : List ℕ) → Every InFamily rows → (i : ℕ) (d : Row) → i < length rows
    → kind_at (table_of u v rows outs) i ≡ get_or (entries (get_or rows i d)) 0 0
kind_at_of u v rows outs family i d l = row-entry u v rows outs family (stride * i) (omega arith) ∙ kind-at family i d l

-- ---- its wires

wires_of : (k l r : ℕ) → inputs_of (row_of k l r) ≡ l ∷ r ∷ []
unfolding inputs_of row_of
wires_of zero l r = refl
wires_of (suc zero) l r = refl
wires_of (suc (suc zero)) l r = refl
wires_of (suc (suc (suc k))) l r = refl

-- the last row's wires are made before it
made-last : {next : ℕ} (r : List Row) (row : Row) → MadeBefore next (r ++ (row ∷ [])) → MadeBefore next r × Below (next + total makes r) (inputs_of row)
unfolding total
made-last {next} [] row (made_more b m) = (made_none, rw (add-zero next) b)
made-last {next} (first ∷ r) row (made_more b m) =
    let t = made-last {next = next + makes first} r row m in
    (made_more b t.0, rw (← add_assoc next (makes first) (total makes r)) t.1)

pub made_at : (next n : ℕ) (f : ℕ → Row) → MadeBefore next (list_of n f) → (i : ℕ) → i < n → Below (next + total makes (list_of i f)) (inputs_of (f i))
unfolding list_of
made_at next zero f m i l = absurd (omega arith)
made_at next (suc n) f m i l = go (made_at next n f) (made-last (list_of n f) (f n) m) (eq-or-lt_of_le (le_of_suc-le-suc l))
  where
    go : (MadeBefore next (list_of n f) → (i : ℕ) → i < n → Below (next + total makes (list_of i f)) (inputs_of (f i)))
        → MadeBefore next (list_of n f) × Below (next + total makes (list_of n f)) (inputs_of (f n)) → (i ≡ n) ⊎ (i < n)
        → Below (next + total makes (list_of i f)) (inputs_of (f i))
    go ih t (inl e) = rw e t.1
    go ih t (inr h) = ih t.0 i h

-- ---- its entries

pub below_cons : {limit x : ℕ} {l : List ℕ} → x < limit → Below limit l → Below limit (x ∷ l)
below_cons {limit} {x} {l} h b = record { each = at }
  where
    at : (i : ℕ) → i < suc (length l) → get_or (x ∷ l) i 0 < limit
    at zero m = h
    at (suc i) m = b.each i (omega arith)

entries_below : {limit : ℕ} → 3 < limit → (row : Row) → Below limit (inputs_of row) → Below limit (entries row)
unfolding entries inputs_of
entries_below h (X l r) b = below_cons (omega arith) b
entries_below h (Y l r) b = below_cons (omega arith) b
entries_below h (Gate ws) b = below_cons h b

-- no wire is above those that the rows make
pub flat-below : {limit next : ℕ} {rows : List Row} → 3 < limit → MadeBefore next rows → next + total makes rows ≤ limit → Below limit (flat rows)
unfolding flat total
flat-below h made_none l = record { each = λ i m. absurd (omega arith) }
flat-below {limit} h (made_more {row = row} b m) l =
    below-append (entries_below h row (below_more limit b (omega arith))) (flat-below h m (omega arith))

-- rows of the family whose wires are made before them, and outputs that are made, give a well-formed table
module _ (u v : ℕ) (rows : List Row) (outs : List ℕ) (family : Every InFamily rows) where
  pub wires_in_of : wires_in (table_of u v rows outs) ≡ suc u + total makes rows
  unfolding wires_before
  wires_in_of = ap (λ (rs : List Row). suc u + total makes rs) (table_rows_of u v rows outs family)

  pub bits_in_of : bits_in (table_of u v rows outs) ≡ total takes rows
  unfolding bits_before
  bits_in_of = ap (total takes) (table_rows_of u v rows outs family)

  row_of_lem : MadeBefore (suc u) rows → (i : ℕ) → i < length rows → RowWithin (table_of u v rows outs) i
  unfolding wires_before row_at
  row_of_lem made i l =
      let table : List ℕ = table_of u v rows outs in
      let kind : (1 ≤ kind_at table i) × (kind_at table i ≤ 3)
      = rw (kind_at_of u v rows outs family i (X 0 0) l) (kind-within (get_or rows i (X 0 0))) in
      let before : Below (suc u + total makes (rows_to table i)) (left_at table i ∷ right_at table i ∷ [])
      = rw (wires_of (kind_at table i) (left_at table i) (right_at table i)) at
      (made_at (suc u) (length rows) (row_at table) (rw (table_rows_of u v rows outs family) made) i l) in
      record { some_kind = kind.0; kind = kind.1; left = before.each 0 (omega arith); right = before.each 1 (omega arith) }

  pub well_formed_of : (1 ≤ u) × (u ≤ max_inputs) → (1 ≤ v) × (v ≤ max_outputs) → MadeBefore (suc u) rows → length outs ≡ v
      → Below (suc u + total makes rows) outs → suc u + total makes rows ≤ max_wires → WellFormed (table_of u v rows outs)
  well_formed_of hu hv made size below limit = record {
    start = record {
      long = omega arith;
      some_inputs = hu.0;
      inputs = hu.1;
      some_outputs = hv.0;
      outputs = hv.1;
      size = omega (arith, length-append (flat rows) outs, length-flat family);
    };
    row = row_of_lem made;
    output = λ j l. rw (output_of_lem u v rows outs family j, wires_in_of) (below.each j (rw size l));
    wires = rw wires_in_of limit;
  }
