-- The text of each case, and how long it is at most.
use mathlib.Core.Path.{◌≡◌, refl, sym, ap, ◌∙◌}
use mathlib.Core.List.{List}
use Rattle.std.specs.Prelude.{Result, Ok, Err}
use Prim.Native.Nat.{ℕ, zero, suc, ◌+◌, ◌*◌, ◌≤◌}
use native.Mathlib.Omega.{arith}
use lib.ListN.{length, length-append}
use Rattle.fault.specs.declared.Fault.{Fault}
use Rattle.fault.specs.declared.Refusal.{Refusal}
use Rattle.fault.specs.Number.{fault_number}
use Rattle.fault.proofs.ChecksLaws.{number-positive}
use Rattle.elements.specs.declared.KindCounts.{KindCounts}
use Rattle.elements.specs.declared.Sheet.{Sheet}
use Rattle.elements.specs.Elements.{SheetOutcome, sheet_outcome}
use Rattle.plan.specs.declared.record.Plan.{Plan}
use Rattle.plan_reading.specs.PlanFile.{ReadOutcome}
use Rattle.plan_reading.specs.Answers.{read_outcome}
use Rattle.fabric.specs.Fabrics.{kind_counting}
use Rattle.console.specs.Text.{ascii, most_digits}
use Rattle.console.specs.Plans.{small_plan_read, refusal_line}
use Rattle.console.proofs.DecimalLaws.{named-long}
use Rattle.fabricsheet.specs.SheetText.{kinds_line, sheet_lines, counted_text, plan_text, read_text, file_text}

-- ---- how long

-- places for the longest text
abbrev pub text_room : ℕ
text_room = 4 * (6 + 4 * (1 + most_digits) + 1)

line-long : (name : List ℕ) (c : KindCounts) → length (kinds_line name c) ≤ length name + 4 * (1 + most_digits) + 1
unfolding ascii
line-long name c =
    let x = named-long (ascii " ") c.x in
    let y = named-long (ascii " ") c.y in
    let g = named-long (ascii " ") c.g in
    let t = named-long (ascii " ") c.total in
    simp length-append (omega (arith, x, y, g, t))

refusal-long : (number at : ℕ) → length (refusal_line number at) ≤ text_room
unfolding ascii
refusal-long number at =
    let n = named-long (ascii "refused ") number in
    let p = named-long (ascii " at ") at in
    simp length-append (omega (arith, n, p))

sheet-long : (s : Sheet) → length (sheet_lines s) ≤ text_room
unfolding ascii
sheet-long s =
    let input = line-long (ascii "input") s.input in
    let block = line-long (ascii "block") s.block in
    let output = line-long (ascii "output") s.output in
    let sum = line-long (ascii "sum") s.sum in
    rw (length-append _ (kinds_line (ascii "sum") s.sum), length-append _ (kinds_line (ascii "output") s.output), length-append _ (kinds_line (ascii "block") s.block))
    (omega (arith, input, block, output, sum))

counted-long : (n : ℕ) (o : SheetOutcome) → length (counted_text n o) ≤ text_room
counted-long zero o = sheet-long o.sheet
counted-long (suc n) o = refusal-long (suc n) 0

plan-long : (p : Plan) → length (plan_text p) ≤ text_room
unfolding plan_text
plan-long p =
    let o : SheetOutcome = kind_counting p.inputs p.gate_count p.output_count in
    counted-long o.number o

read-long : (n : ℕ) (o : ReadOutcome) → length (read_text n o) ≤ text_room
read-long zero o = plan-long o.plan
read-long (suc n) o = refusal-long (suc n) o.at

pub file-long : (file : List ℕ) → length (file_text file) ≤ text_room
unfolding file_text
file-long file =
    let o : ReadOutcome = small_plan_read file in
    read-long o.number o

-- ---- which

counted-refusal : (n : ℕ) (o : SheetOutcome) → 1 ≤ n → refusal_line n 0 ≡ counted_text n o
counted-refusal zero o h = absurd (omega arith)
counted-refusal (suc n) o h = refl

module _ (p : Plan) (a : Result Sheet Fault) (e : sheet_outcome a ≡ kind_counting p.inputs p.gate_count p.output_count) where
  made : (b : Result Sheet Fault) → a ≡ b → counted_text (sheet_outcome b).number (sheet_outcome b) ≡ plan_text p
  unfolding plan_text
  made b g = ap (λ (o : SheetOutcome). counted_text o.number o) (ap sheet_outcome (sym g) ∙ e)

  pub sheet-text : (s : Sheet) → a ≡ Ok s → sheet_lines s ≡ plan_text p
  sheet-text s g = made (Ok s) g

  pub refused-sheet-text : (f : Fault) → a ≡ Err f → refusal_line (fault_number f) 0 ≡ plan_text p
  refused-sheet-text f g =
      counted-refusal (fault_number f) (sheet_outcome (Err f)) (number-positive f) ∙ made (Err f) g

read-refusal : (n : ℕ) (o : ReadOutcome) → 1 ≤ n → refusal_line n o.at ≡ read_text n o
read-refusal zero o h = absurd (omega arith)
read-refusal (suc n) o h = refl

module _ (file : List ℕ) (r : Result Plan Refusal) (e : read_outcome r ≡ small_plan_read file) where
  made-read : (a : Result Plan Refusal) → r ≡ a → read_text (read_outcome a).number (read_outcome a) ≡ file_text file
  unfolding file_text
  made-read a g = ap (λ (o : ReadOutcome). read_text o.number o) (ap read_outcome (sym g) ∙ e)

  pub plan-text : (p : Plan) → r ≡ Ok p → plan_text p ≡ file_text file
  plan-text p g = made-read (Ok p) g

  pub refused-text : (x : Refusal) → r ≡ Err x → refusal_line (fault_number x.fault) x.at ≡ file_text file
  refused-text x g =
      read-refusal (fault_number x.fault) (read_outcome (Err x)) (number-positive x.fault) ∙ made-read (Err x) g
