-- The kinds of rows from their counts, by one law over rows: an X makes a wire more than another row, a G takes three bits more, and each row is of
-- one of the three kinds. So the figures of each part of a fabric follow from its counts, and those of the whole are the sums of the parts'.
use mathlib.Core.Path.{◌≡◌, refl, sym, ap, ◌∙◌}
use mathlib.Core.List.{List, ◌∷◌, ◌++◌}
use Prim.Native.Nat.{ℕ, ◌+◌, ◌-◌, ◌*◌, ◌/◌, ◌^◌, ◌≤◌}
use native.Mathlib.Omega.{arith}
use lib.Dec.{eqb}
use lib.ListN.{length}
use Rattle.lists.specs.Lists.{Every, every-none, every_more}
use Rattle.lists.specs.Counting.{one_if}
use Rattle.elements.specs.declared.Counts.{Counts}
use Rattle.elements.specs.declared.Kind.{Kind}
use Rattle.elements.specs.declared.KindCounts.{KindCounts}
use Rattle.elements.specs.Elements.{kind_number}
use Rattle.blocks.specs.Elements.{Row, X, Y, Gate, inputs_of, makes, takes, total, entries, InFamily, Totals}
use Rattle.blocks.proofs.ElementsLaws.{total-append}
use Rattle.blocks.proofs.NetworksLaws.{length-selection_rows, selection-totals}
use Rattle.fabric_universal.specs.Selector.{pin_count, selection}
use Rattle.fabric_universal.specs.Fabric.{gate_level, input_part, block_part, output_part, fabric_rows}
use Rattle.fabric_universal.proofs.SelectorLaws.{selection-shape}
use Rattle.fabric_universal.proofs.UniversalLaws.{length-universal_rows, universal_totals}
use Rattle.fabric_sizes.specs.Parts.{block_limit, BlockIs, SelectionIs, UniversalIs}
use Rattle.fabric_sheet.specs.Sheet.{kind_of, of_kind, kinds_of, added_kinds, sheet_of}
use Rattle.fabric_sheet.specs.Kinds.{kinds_from, HaveKinds}

-- ---- the law

-- how many wires rows make, how many bits they take, how many they are
pub record Kinds (rows : List Row) : Type 0 where
  pub wires : total makes rows ≡ length rows + of_kind Kind.X rows
  pub bits : total takes rows ≡ length rows + 3 * of_kind Kind.G rows
  pub each : of_kind Kind.X rows + of_kind Kind.Y rows + of_kind Kind.G rows ≡ length rows

kinds_more : (row : Row) (rows : List Row) → InFamily row → Kinds rows → Kinds (row ∷ rows)
unfolding of_kind total makes takes entries inputs_of
kinds_more (X l r) rows e t = record { wires = omega (arith, t.wires); bits = omega (arith, t.bits); each = omega (arith, t.each) }
kinds_more (Y l r) rows e t = record { wires = omega (arith, t.wires); bits = omega (arith, t.bits); each = omega (arith, t.each) }
kinds_more (Gate ws) rows e t = record {
  wires = omega (arith, t.wires);
  bits = omega (arith, t.bits, ap (λ n. 2 ^ n) e);
  each = omega (arith, t.each);
}

pub kinds_law : {rows : List Row} → Every InFamily rows → Kinds rows
unfolding of_kind total
kinds_law every-none = record { wires = refl; bits = refl; each = refl }
kinds_law (every_more {a = row} {l = rows} f fs) = kinds_more row rows f (kinds_law fs)

-- ---- the kinds of a block from its counts

-- rows of the counts c
pub record RowsOf (rows : List Row) (c : Counts) : Type 0 where
  pub is_rows : c.rows ≡ length rows
  pub is_wires : c.wires ≡ total makes rows
  pub is_bits : c.bits ≡ total takes rows
  pub family : Every InFamily rows
  pub few_rows : c.rows ≤ block_limit

-- X = wires - rows, G = (bits - rows) / 3
pub have_kinds : {rows : List Row} {c : Counts} → RowsOf rows c → HaveKinds c
have_kinds r =
    let t = kinds_law r.family in
    record { few_rows = r.few_rows; wires = omega (arith, t.wires); bits = omega (arith, t.bits); others = omega (arith, t.wires, t.bits, t.each) }

pub kinds_from_lem : {rows : List Row} {c : Counts} → RowsOf rows c → kinds_from c ≡ kinds_of rows
kinds_from_lem {rows} {c} r =
    let t = kinds_law r.family in
    let x : c.wires - c.rows ≡ of_kind Kind.X rows = omega (arith, r.is_rows, r.is_wires, t.wires) in
    let g : (c.bits - c.rows) / 3 ≡ of_kind Kind.G rows = omega (arith, r.is_rows, r.is_bits, t.bits) in
    let y : c.rows - (c.wires - c.rows) - (c.bits - c.rows) / 3 ≡ of_kind Kind.Y rows = omega (arith, r.is_rows, x, g, t.each) in
    let n : c.rows ≡ of_kind Kind.X rows + of_kind Kind.Y rows + of_kind Kind.G rows = r.is_rows ∙ sym t.each in
    cc (x, y, g, n)

-- ---- the parts of a fabric, and the whole

rows_of : {rows : List Row} {made taken gates count : ℕ} {c : Counts} → length rows ≡ count → Totals rows made taken gates → BlockIs count made taken c → RowsOf rows c
rows_of size t b = record {
  is_rows = b.is_rows ∙ sym size;
  is_wires = b.is_wires ∙ sym t.wires;
  is_bits = b.is_bits ∙ sym t.bits;
  family = t.family;
  few_rows = b.few_rows;
}

module _ (u k v : ℕ) where
  pub input-rows : {c : Counts} → SelectionIs u (pin_count (gate_level k)) c → RowsOf (input_part u k) c
  input-rows = rows_of (length-selection_rows u _ _ _) (selection-totals u _ _ _)

  pub block-rows : {c : Counts} → UniversalIs (gate_level k) c → RowsOf (block_part u k) c
  block-rows = rows_of (length-universal_rows selection selection-shape (gate_level k) _ _) (universal_totals selection selection-shape (gate_level k) _ _)

  pub output-rows : {c : Counts} → SelectionIs (2 ^ gate_level k) v c → RowsOf (output_part u k v) c
  output-rows = rows_of (length-selection_rows _ v _ _) (selection-totals _ v _ _)

  -- each row of a part is of one of the kinds
  pub input_kinds : Kinds (input_part u k)
  input_kinds = kinds_law (selection-totals u _ _ _).family

  pub block_kinds : Kinds (block_part u k)
  block_kinds = kinds_law (universal_totals selection selection-shape (gate_level k) _ _).family

  pub output_kinds : Kinds (output_part u k v)
  output_kinds = kinds_law (selection-totals _ v _ _).family

-- rows of a kind in three lists, one behind the other
of_kind_lem : (kind : Kind) (a b c : List Row) → of_kind kind (a ++ (b ++ c)) ≡ of_kind kind a + of_kind kind b + of_kind kind c
unfolding of_kind
of_kind_lem kind a b c =
    let one : Row → ℕ = λ row. one_if (eqb (kind_of row) (kind_number kind)) in
    omega (arith, total-append one a (b ++ c), total-append one b c)

-- the whole table's line is the sum of the parts'
pub kinds_added : (u k v : ℕ) → kinds_of (fabric_rows u k v) ≡ added_kinds (kinds_of (input_part u k)) (kinds_of (block_part u k)) (kinds_of (output_part u k v))
unfolding fabric_rows
kinds_added u k v =
    let a : List Row = input_part u k in
    let b : List Row = block_part u k in
    let c : List Row = output_part u k v in
    let x = of_kind_lem Kind.X a b c in
    let y = of_kind_lem Kind.Y a b c in
    let g = of_kind_lem Kind.G a b c in
    let t : (kinds_of (a ++ (b ++ c))).total ≡ (added_kinds (kinds_of a) (kinds_of b) (kinds_of c)).total = omega (arith, x, y, g) in
    cc (x, y, g, t)

-- the sheet from the counts of the parts
pub sheet_of_lem : (u k v : ℕ) {pins universal outputs : Counts} {input block output sum : KindCounts} → SelectionIs u (pin_count (gate_level k)) pins
    → UniversalIs (gate_level k) universal → SelectionIs (2 ^ gate_level k) v outputs → input ≡ kinds_from pins → block ≡ kinds_from universal
    → output ≡ kinds_from outputs → sum ≡ added_kinds input block output
    → record { input = input; block = block; output = output; sum = sum } ≡ sheet_of u k v
sheet_of_lem u k v p g o i b t s =
    let input = i ∙ kinds_from_lem (input-rows u k v p) in
    let block = b ∙ kinds_from_lem (block-rows u k v g) in
    let output = t ∙ kinds_from_lem (output-rows u k v o) in
    cc (input, block, output, s, kinds_added u k v)
