-- Document 02, W3: "each with the number of X, Y and G rows and their total". The sheet of the fabric of three counts has a line for each of its
-- parts S(u, 2K), U(K), S(K, v), and one for the whole table.
use Rattle.std.specs.Prelude.{ℕ, ◌+◌, List, eqb, get_or}
use Rattle.lists.specs.Counting.{one_if}
use Rattle.elements.specs.declared.Kind.{Kind}
use Rattle.elements.specs.declared.KindCounts.{KindCounts}
use Rattle.elements.specs.declared.Sheet.{Sheet}
use Rattle.elements.specs.Elements.{kind_number, SheetOutcome, sheet_unless}
use Rattle.blocks.specs.Elements.{Row, total, entries}
use Rattle.plan.specs.Faults.{counts_fault}
use Rattle.fabric_universal.specs.Fabric.{input_part, block_part, output_part, fabric_rows}

-- the number of a row's kind: the first of its entries in the table
abbrev pub kind_of : Row → ℕ
kind_of row = get_or (entries row) 0 0

-- how many of the rows are of this kind
unfoldable pub of_kind : Kind → List Row → ℕ
of_kind kind rows = total (λ row. one_if (eqb (kind_of row) (kind_number kind))) rows

-- a line of the sheet: the X, Y and G rows, and their total
abbrev pub kinds_of : List Row → KindCounts
kinds_of rows = record {
  x = of_kind Kind.X rows;
  y = of_kind Kind.Y rows;
  g = of_kind Kind.G rows;
  total = of_kind Kind.X rows + of_kind Kind.Y rows + of_kind Kind.G rows;
}

-- three lines added up
abbrev pub added_kinds : KindCounts → KindCounts → KindCounts → KindCounts
added_kinds a b c = record {
  x = a.x + b.x + c.x;
  y = a.y + b.y + c.y;
  g = a.g + b.g + c.g;
  total = a.total + b.total + c.total;
}

-- the lines of S(u, 2K), of U(K), of S(K, v), and of all rows
abbrev pub sheet_of : ℕ → ℕ → ℕ → Sheet
sheet_of u k v = record {
  input = kinds_of (input_part u k);
  block = kinds_of (block_part u k);
  output = kinds_of (output_part u k v);
  sum = kinds_of (fabric_rows u k v);
}

-- counting by kind: 2, 3, 4
abbrev pub kind_counting : ℕ → ℕ → ℕ → SheetOutcome
kind_counting u k v = sheet_unless (counts_fault u k v) (sheet_of u k v)
