-- Document 02, W3: what `fabricsheet` writes for a file: four lines, or the line of a refusal.
use Rattle.std.specs.Prelude.{ℕ, zero, suc, List, ◌++◌}
use Rattle.elements.specs.declared.KindCounts.{KindCounts}
use Rattle.elements.specs.declared.Sheet.{Sheet}
use Rattle.elements.specs.Elements.{SheetOutcome}
use Rattle.plan.specs.declared.record.Plan.{Plan}
use Rattle.plan_reading.specs.PlanFile.{ReadOutcome}
use Rattle.fabric.specs.Fabrics.{kind_counting}
use Rattle.console.specs.Text.{ascii, named}
use Rattle.console.specs.Plans.{small_plan_read, refusal_line}

-- a figure, one space before it
abbrev pub figure : ℕ → List ℕ
figure n = named (ascii " ") n

-- a line: its name, the X, Y and G rows, and their total
abbrev pub kinds_line : List ℕ → KindCounts → List ℕ
kinds_line name c = name ++ figure c.x ++ figure c.y ++ figure c.g ++ figure c.total ++ ascii "\n"

-- the four lines
abbrev pub sheet_lines : Sheet → List ℕ
sheet_lines s =
    kinds_line (ascii "input") s.input ++ kinds_line (ascii "block") s.block ++ kinds_line (ascii "output") s.output ++ kinds_line (ascii "sum") s.sum

-- what counting by kind says, by its number
abbrev pub counted_text : ℕ → SheetOutcome → List ℕ
counted_text zero o = sheet_lines o.sheet
counted_text (suc n) o = refusal_line (suc n) 0

-- the plan's sheet
unfoldable pub plan_text : Plan → List ℕ
plan_text p =
    let o : SheetOutcome = kind_counting p.inputs p.gate_count p.output_count in
    counted_text o.number o

-- what was read, by its number
abbrev pub read_text : ℕ → ReadOutcome → List ℕ
read_text zero o = plan_text o.plan
read_text (suc n) o = refusal_line (suc n) o.at

-- the text for a file
unfoldable pub file_text : List ℕ → List ℕ
file_text file =
    let o : ReadOutcome = small_plan_read file in
    read_text o.number o
