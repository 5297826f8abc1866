-- Document 01, "Elements and their table": the limit of wires and the numbers of the kinds; what counting says; and, document 02, W3, what
-- counting by kind says.
use Rattle.std.specs.Prelude.{◌≡◌, ℕ, zero, suc, ◌<◌, ◌⊎◌, Result, Ok, Err}
use Rattle.fault.specs.declared.Fault.{Fault}
use Rattle.fault.specs.Number.{fault_number}
use Rattle.elements.specs.declared.Kind.{Kind}
use Rattle.elements.specs.declared.Kind.TheVariants.{X, Y, G}
use Rattle.elements.specs.declared.Counts.{Counts}
use Rattle.elements.specs.declared.KindCounts.{KindCounts}
use Rattle.elements.specs.declared.Sheet.{Sheet}

-- the most wires of a fabric: 0 to 65,535
abbrev pub max_wires : ℕ
max_wires = 65536

-- document 01's number of a kind
abbrev pub kind_number : Kind → ℕ
kind_number X = 1
kind_number Y = 2
kind_number G = 3

-- the kind that a number names; 13 where it is none of theirs
abbrev pub NamesKind : ℕ → Result Kind Fault → Type 0
NamesKind n (Ok kind) = kind_number kind ≡ n
NamesKind n (Err f) = (f ≡ Fault.Fabric) × ((n ≡ 0) ⊎ (3 < n))

-- what counting says: the number of the refusal, 0 for none; rows, wires and program bits, all 0 on a refusal
pub record CountOutcome : Type 0 where
  pub number : ℕ
  pub rows : ℕ
  pub wires : ℕ
  pub bits : ℕ

-- what each case of counting's answer says
abbrev pub count_outcome : Result Counts Fault → CountOutcome
count_outcome (Ok c) = record { number = 0; rows = c.rows; wires = c.wires; bits = c.bits }
count_outcome (Err f) = record { number = fault_number f; rows = 0; wires = 0; bits = 0 }

-- these counts where the checks gave 0
abbrev pub counts_unless : ℕ → ℕ → ℕ → ℕ → CountOutcome
counts_unless zero rows wires bits = record { number = 0; rows = rows; wires = wires; bits = bits }
counts_unless (suc n) rows wires bits = record { number = suc n; rows = 0; wires = 0; bits = 0 }

-- the counts are these
pub record CountsAre (rows wires bits : ℕ) (c : Counts) : Type 0 where
  pub is_rows : c.rows ≡ rows
  pub is_wires : c.wires ≡ wires
  pub is_bits : c.bits ≡ bits

-- what counting by kind says: the number of the refusal, 0 for none; the sheet, all 0 on a refusal
pub record SheetOutcome : Type 0 where
  pub number : ℕ
  pub sheet : Sheet

-- no rows of any kind, in no part
abbrev pub no_rows : KindCounts
no_rows = record { x = 0; y = 0; g = 0; total = 0 }

abbrev pub zero_sheet : Sheet
zero_sheet = record { input = no_rows; block = no_rows; output = no_rows; sum = no_rows }

-- what each case of its answer says
abbrev pub sheet_outcome : Result Sheet Fault → SheetOutcome
sheet_outcome (Ok s) = record { number = 0; sheet = s }
sheet_outcome (Err f) = record { number = fault_number f; sheet = zero_sheet }

-- this sheet where the checks gave 0
abbrev pub sheet_unless : ℕ → Sheet → SheetOutcome
sheet_unless zero s = record { number = 0; sheet = s }
sheet_unless (suc n) s = record { number = suc n; sheet = zero_sheet }
