-- Rows on wires of the fabric, where there is room, are stored as `flat` has them.
use mathlib.Core.Path.{◌≡◌, refl, sym, ap, ◌∙◌}
use mathlib.Core.List.{List, [], ◌∷◌, append-nil}
use Prim.Native.Nat.{ℕ, ◌+◌, ◌*◌, ◌<◌, ◌≤◌}
use native.Mathlib.Numerals.{add-one}
use native.Mathlib.Omega.{arith}
use borrow.Author.Tests.{le-leb, lt-leb}
use lib.ListN.{length, get_or, set}
use Rattle.lists.specs.Lists.{list_of, every-none, every_more}
use Rattle.lists.proofs.ListsLaws.{length-list_of, every-list_of}
use Rattle.fault.specs.Buffers.{over, part_of, with_part}
use Rattle.fault.proofs.PartsLaws.{over-part}
use Rattle.elements.specs.declared.Kind.{Kind}
use Rattle.elements.specs.declared.Kind.TheVariants.{X, Y, G}
use Rattle.elements.specs.Elements.{kind_number}
use Rattle.block_elements.specs.Rows.{Row, stride, inputs_of, entries, flat, row_of, InFamily}
use Rattle.block_elements.proofs.RowsLaws.{flat_append, length-flat}
use Rattle.block_rows.specs.Rows.{pair_rows, rows_put}

-- the entries of a row of a kind
pub kind-entries : (kind : Kind) (l r : ℕ) → entries (row_of (kind_number kind) l r) ≡ kind_number kind ∷ l ∷ r ∷ []
unfolding row_of entries
kind-entries = elim [ X ↦ λ l r. refl | Y ↦ λ l r. refl | G ↦ λ l r. refl ]

kind-family : (kind : Kind) (l r : ℕ) → InFamily (row_of (kind_number kind) l r)
unfolding row_of inputs_of
kind-family = elim [ X ↦ λ l r. refl | Y ↦ λ l r. refl | G ↦ λ l r. refl ]

pub length-pair_rows : (kind : Kind) (count : ℕ) (lefts rights : List ℕ) (step : ℕ) → length (pair_rows kind count lefts rights step) ≡ count
unfolding pair_rows
length-pair_rows kind count lefts rights step = length-list_of count _

-- rows that are given place by place, each of this family
module _ (row : ℕ → Row) (family : (i : ℕ) → InFamily (row i)) where
  pub length-flat-list : (n : ℕ) → length (flat (list_of n row)) ≡ stride * n
  length-flat-list n = length-flat (every-list_of n row (λ i l. family i)) ∙ ap (λ k. stride * k) (length-list_of n row)

  -- one row more
  pub list-more : (i n : ℕ) (L P F : List ℕ) → n ≡ stride * i → stride * (i + 1) ≤ length L → P ≡ over (flat (list_of i row)) L
      → F ≡ over (entries (row i)) (part_of n P) → with_part n P F ≡ over (flat (list_of (i + 1) row)) L
  unfolding list_of flat
  list-more i n L P F at h before part =
      let rows = list_of i row in
      let one : length (entries (row i)) ≡ stride * 1 = rw (append-nil (entries (row i))) at (length-flat (every_more (family i) every-none)) in
      rw (add-one i, flat_append rows (row i ∷ []), append-nil (entries (row i)))
      (over-part (flat rows) L P n (length-flat-list i ∙ sym at) (omega arith) before (entries (row i)) F (omega arith) part)

pub length-flat-pairs : (kind : Kind) (count : ℕ) (lefts rights : List ℕ) (step : ℕ) → length (flat (pair_rows kind count lefts rights step)) ≡ stride * count
unfolding pair_rows
length-flat-pairs kind count lefts rights step = length-flat-list _ (λ i. kind-family kind _ _) count

-- one row more of a kind, of which the entries are given by equations
pub row-more : (kind : Kind) (left right : ℕ → ℕ) (i : ℕ) {n l r : ℕ} (L P : List ℕ) {F : List ℕ} → n ≡ stride * i → stride * (i + 1) ≤ length L
    → P ≡ over (flat (list_of i (λ j. row_of (kind_number kind) (left j) (right j)))) L → l ≡ left i → r ≡ right i
    → F ≡ over (kind_number kind ∷ l ∷ r ∷ []) (part_of n P) → with_part n P F ≡ over (flat (list_of (i + 1) (λ j. row_of (kind_number kind) (left j) (right j)))) L
row-more kind left right i {n} L P {F} at room before el er stored =
    list-more (λ j. row_of (kind_number kind) (left j) (right j)) (λ j. kind-family kind (left j) (right j)) i n L P F at room before
    (rw (kind-entries kind (left i) (right i), ← el, ← er) stored)

-- three entries are stored at the front
pub row-stored : (l : List ℕ) (k a b : ℕ) → stride ≤ length l → set (set (set l 0 k) 1 a) 2 b ≡ over (k ∷ a ∷ b ∷ []) l
row-stored [] k a b h = absurd (omega arith)
row-stored (x ∷ []) k a b h = absurd (omega arith)
row-stored (x ∷ y ∷ []) k a b h = absurd (omega arith)
row-stored (x ∷ y ∷ z ∷ l) k a b h = refl

-- rows that have room
pub rows-put : (rows : List Row) (old : List ℕ) → stride * length rows ≤ length old → rows_put rows old ≡ over (flat rows) old
unfolding rows_put
rows-put rows old h = rw (le-leb (stride * length rows) (length old) h)

-- rows that have none
rows-kept : (rows : List Row) (old : List ℕ) → length old < stride * length rows → old ≡ rows_put rows old
unfolding rows_put
rows-kept rows old h = rw (lt-leb (stride * length rows) (length old) h)

module _ (kind : Kind) (count : ℕ) (lefts rights : List ℕ) (step : ℕ) (old : List ℕ) where
  pub pairs_put : {new : List ℕ} → stride * count ≤ length old
      → new ≡ over (flat (list_of count (λ i. row_of (kind_number kind) (get_or lefts (step * i) 0) (get_or rights (step * i) 0)))) old
      → new ≡ rows_put (pair_rows kind count lefts rights step) old
  unfolding pair_rows
  pairs_put room put =
      put ∙ sym (rows-put (pair_rows kind count lefts rights step) old (rw (length-pair_rows kind count lefts rights step) room))

  pub pairs-kept : length old < stride * count → old ≡ rows_put (pair_rows kind count lefts rights step) old
  pairs-kept h = rows-kept (pair_rows kind count lefts rights step) old (rw (length-pair_rows kind count lefts rights step) h)
