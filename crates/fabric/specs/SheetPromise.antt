-- Document 02, W3: "Each figure is the number of rows of that kind standing in that part of the table, and the sum line is the whole table's." What
-- the sheet promises of the table that the fabric's call writes for the same counts.
use Rattle.std.specs.Prelude.{ℕ, ◌+◌, ◌≡◌, List, eqb, length}
use Rattle.lists.specs.Lists.{list_of}
use Rattle.lists.specs.Counting.{count_of}
use Rattle.elements.specs.declared.Kind.{Kind}
use Rattle.elements.specs.declared.KindCounts.{KindCounts}
use Rattle.elements.specs.Elements.{kind_number, SheetOutcome}
use Rattle.blocks.specs.Elements.{Row}
use Rattle.fabric_universal.specs.Fabric.{input_part, block_part, output_part, fabric_rows}
use Rattle.fabric_sizes.specs.Layout.{rows_in, kind_at, row_at}
use Rattle.fabric_sizes.specs.FabricChecks.{fabric_fault}
use Rattle.fabric_sheet.specs.Sheet.{added_kinds, kind_counting}
use Rattle.fabric_rows.specs.FabricCalls.{fabric_result}

-- how many of the n rows of a table from row i on have this kind there
unfoldable pub kinds_standing : Kind → List ℕ → ℕ → ℕ → ℕ
kinds_standing kind table i n = count_of (λ j. eqb (kind_at table (i + j)) (kind_number kind)) n

-- these n rows from row i on stand in the table, and the line counts them: each kind, and n in all
pub record PartStands (table : List ℕ) (i n : ℕ) (rows : List Row) (line : KindCounts) : Type 0 where
  pub stands : list_of n (λ j. row_at table (i + j)) ≡ rows
  pub x : line.x ≡ kinds_standing Kind.X table i n
  pub y : line.y ≡ kinds_standing Kind.Y table i n
  pub g : line.g ≡ kinds_standing Kind.G table i n
  pub total : line.total ≡ n

-- what the sheet says of u, k, v stands in a table: S(u, 2K) first, then U(K), then S(K, v), and these are all its rows
pub record SheetStands (u k v : ℕ) (table : List ℕ) (o : SheetOutcome) : Type 0 where
  pub counted : o.number ≡ 0
  pub input : PartStands table 0 (length (input_part u k)) (input_part u k) o.sheet.input
  pub block : PartStands table (length (input_part u k)) (length (block_part u k)) (block_part u k) o.sheet.block
  pub output : PartStands table (length (input_part u k) + length (block_part u k)) (length (output_part u k v)) (output_part u k v) o.sheet.output
  pub sum : PartStands table 0 (rows_in table) (fabric_rows u k v) o.sheet.sum
  pub whole : rows_in table ≡ length (input_part u k) + length (block_part u k) + length (output_part u k v)
  pub added : o.sheet.sum ≡ added_kinds o.sheet.input o.sheet.block o.sheet.output

-- the promise, wherever the fabric's call is done, whatever the lent table held
abbrev pub SheetPromise : Type 0
SheetPromise =
    (u k v : ℕ) (table : List ℕ) → fabric_fault u k v (length table) ≡ 0 → SheetStands u k v (fabric_result u k v table) (kind_counting u k v)
