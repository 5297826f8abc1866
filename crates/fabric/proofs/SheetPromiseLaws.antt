-- The sheet's promise: a part of the rows that a table is written from stands in the table behind what is before it, with the kinds that its rows
-- have, whatever stands past the output wires.
use mathlib.Core.Path.{◌≡◌, refl, sym, ap, subst, ◌∙◌}
use mathlib.Core.Bool.{Bool}
use mathlib.Core.List.{List, [], ◌∷◌, ◌++◌, append_assoc, append-nil}
use Prim.Native.Nat.{ℕ, zero, suc, ◌+◌, ◌<◌}
use native.Mathlib.Omega.{arith}
use lib.Dec.{eqb}
use lib.ListN.{length, get_or, drop, length-append, get_or-append}
use lib.Seq.{get_or-append-add}
use Rattle.lists.specs.Lists.{list_of, Every}
use Rattle.lists.specs.Counting.{one_if, count_of}
use Rattle.lists.proofs.ListsLaws.{list_of_ext, list_of-get_or}
use Rattle.lists.proofs.CountingLaws.{count_ext}
use Rattle.fault.specs.Checks.{room_fault}
use Rattle.fault.proofs.ChecksLaws.{and_then-zero}
use Rattle.elements.specs.declared.Kind.{Kind}
use Rattle.elements.specs.Elements.{kind_number, SheetOutcome, sheet_unless}
use Rattle.blocks.specs.Elements.{Row, X, total, flat, InFamily}
use Rattle.blocks.proofs.ElementsLaws.{total-append}
use Rattle.plan.specs.Faults.{counts_fault}
use Rattle.fabric_universal.specs.Fabric.{input_part, block_part, output_part, fabric_rows, fabric_outs, fabric_table}
use Rattle.fabric_universal.proofs.FabricLaws.{fabric_totals}
use Rattle.fabric_sizes.specs.Layout.{row_at, kind_at}
use Rattle.fabric_sizes.specs.Counting.{table_length}
use Rattle.fabric_sizes.specs.FabricChecks.{fabric_fault}
use Rattle.fabric_sheet.specs.Sheet.{kind_of, of_kind, kinds_of, sheet_of, kind_counting}
use Rattle.fabric_sheet.proofs.KindsLaws.{Kinds, kinds_law, input_kinds, block_kinds, output_kinds, kinds_added}
use Rattle.fabric_rows.specs.FabricCalls.{fabric_result}
use Rattle.fabric_table_checks.proofs.WrittenTables.{table_of, row_at_of, kind_at_of}
use Rattle.fabric.specs.SheetPromise.{kinds_standing, PartStands, SheetStands, SheetPromise}
use Rattle.fabric.proofs.FabricTableLaws.{table_of_lem}

-- ---- a part of a table's rows

-- a test of each row of a list, counted by place or along the list
count-total : (test : Row → Bool) (f : ℕ → Row) (n : ℕ) → count_of (λ j. test (f j)) n ≡ total (λ row. one_if (test row)) (list_of n f)
unfolding count_of list_of total
count-total test f zero = refl
count-total test f (suc n) = omega (arith, count-total test f n, total-append (λ row. one_if (test row)) (list_of n f) (f n ∷ []))

-- the rows b stand behind the rows a
module _ (u v : ℕ) (rows : List Row) (outs : List ℕ) (family : Every InFamily rows) (a b c : List Row) (parts : rows ≡ a ++ (b ++ c)) where
  abbrev table : List ℕ
  table = table_of u v rows outs

  long : length rows ≡ length a + (length b + length c)
  long = ap length parts ∙ length-append a (b ++ c) ∙ ap (λ n. length a + n) (length-append b c)

  behind : (j : ℕ) → j < length b → get_or rows (length a + j) (X 0 0) ≡ get_or b j (X 0 0)
  behind j l =
      ap (λ (r : List Row). get_or r (length a + j) (X 0 0)) parts ∙ get_or-append-add a (b ++ c) j (X 0 0) ∙ get_or-append b c (X 0 0) j l

  stand : list_of (length b) (λ j. row_at table (length a + j)) ≡ b
  stand =
      list_of_ext (length b) _ (λ j. get_or b j (X 0 0))
      (λ j l. row_at_of u v rows outs family (length a + j) (X 0 0) (omega (arith, long)) ∙ behind j l) ∙ list_of-get_or b (X 0 0)

  counted : (kind : Kind) → of_kind kind b ≡ kinds_standing kind table (length a) (length b)
  unfolding of_kind kinds_standing
  counted kind =
      let test : Row → Bool = λ row. eqb (kind_of row) (kind_number kind) in
      sym (count_ext (λ j. eqb (kind_at table (length a + j)) (kind_number kind)) (λ j. test (get_or b j (X 0 0))) (length b)
      (λ j l. ap (λ n. eqb n (kind_number kind))
      (kind_at_of u v rows outs family (length a + j) (X 0 0) (omega (arith, long)) ∙ ap kind_of (behind j l)))
      ∙ count-total test (λ j. get_or b j (X 0 0)) (length b) ∙ ap (total (λ row. one_if (test row))) (list_of-get_or b (X 0 0)))

  part-stands : Kinds b → PartStands table (length a) (length b) b (kinds_of b)
  part-stands kinds = record { stands = stand; x = counted Kind.X; y = counted Kind.Y; g = counted Kind.G; total = kinds.each }

-- ---- the table that the call writes

module _ (u k v : ℕ) (table : List ℕ) (e : fabric_fault u k v (length table) ≡ 0) where
  abbrev rows : List Row
  rows = fabric_rows u k v

  -- what stands past the rows
  abbrev past : List ℕ
  past = fabric_outs u k v ++ drop (length (fabric_table u k v)) table

  written : fabric_result u k v table ≡ table_of u v rows past
  written =
      rw e (ap (λ (t : List ℕ). t ++ drop (length (fabric_table u k v)) table) (table_of_lem u k v)
      ∙ ap (λ (t : List ℕ). u ∷ v ∷ length rows ∷ t) (append_assoc (flat rows) (fabric_outs u k v) (drop (length (fabric_table u k v)) table)))

  abbrev input : List Row
  input = input_part u k

  abbrev block : List Row
  block = block_part u k

  abbrev output : List Row
  output = output_part u k v

  in_order_lem : rows ≡ input ++ (block ++ output)
  unfolding fabric_rows
  in_order_lem = refl

  -- each part as the definition of the rows has it
  stands : (a b c : List Row) → rows ≡ a ++ (b ++ c) → Kinds b → PartStands (table_of u v rows past) (length a) (length b) b (kinds_of b)
  stands a b c parts kinds = part-stands u v rows past (fabric_totals u k v).family a b c parts kinds

  output-behind : rows ≡ (input ++ block) ++ (output ++ [])
  output-behind = in_order_lem ∙ sym (append_assoc input block output) ∙ ap (λ (r : List Row). (input ++ block) ++ r) (sym (append-nil output))

  sheet-stands : SheetStands u k v (table_of u v rows past) (record { number = 0; sheet = sheet_of u k v })
  sheet-stands = record {
    counted = refl;
    input = stands [] input (block ++ output) in_order_lem (input_kinds u k v);
    block = stands input block output in_order_lem (block_kinds u k v);
    output = subst (λ i. PartStands (table_of u v rows past) i (length output) output (kinds_of output)) (length-append input block)
        (stands (input ++ block) output [] output-behind (output_kinds u k v));
    sum = stands [] rows [] (sym (append-nil rows)) (kinds_law (fabric_totals u k v).family);
    whole = ap length in_order_lem ∙ length-append input (block ++ output) ∙ omega (arith, length-append block output);
    added = kinds_added u k v;
  }

  -- no check fails
  counts_pass : kind_counting u k v ≡ record { number = 0; sheet = sheet_of u k v }
  unfolding fabric_fault
  counts_pass = ap (λ n. sheet_unless n (sheet_of u k v)) ((and_then-zero (counts_fault u k v) (room_fault (table_length u k v) (length table))).0 e).0

  promised : SheetStands u k v (fabric_result u k v table) (kind_counting u k v)
  promised =
      subst (λ (t : List ℕ). SheetStands u k v t (kind_counting u k v)) (sym written)
      (subst (λ (o : SheetOutcome). SheetStands u k v (table_of u v rows past) o) (sym counts_pass) sheet-stands)

pub sheet_promise : SheetPromise
sheet_promise = promised
