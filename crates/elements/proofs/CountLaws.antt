-- What counting answers: a refusal's number alone, or the counts, or the sheet.
use Rattle.std.proofs.Common.{◌≡◌, ℕ, zero, suc, ap, arith}
use Rattle.fault.specs.declared.Fault.{Fault}
use Rattle.fault.specs.Number.{fault_number}
use Rattle.fault.proofs.ChecksLaws.{number-positive}
use Rattle.elements.specs.declared.Counts.{Counts}
use Rattle.std.specs.Prelude.{Ok, Err}
use Rattle.elements.specs.declared.Sheet.{Sheet}
use Rattle.elements.specs.Elements.{count_outcome, counts_unless, CountsAre, zero_sheet, sheet_outcome, sheet_unless}

pub refused-counts : (f : Fault) (n rows wires bits : ℕ) → fault_number f ≡ n → count_outcome (Err f) ≡ counts_unless n rows wires bits
refused-counts f zero rows wires bits e = absurd (omega (arith, number-positive f))
refused-counts f (suc n) rows wires bits e = ap (λ m. record { number = m; rows = 0; wires = 0; bits = 0 }) e

pub given-counts : (n : ℕ) {rows wires bits : ℕ} (c : Counts) → 0 ≡ n → CountsAre rows wires bits c
    → count_outcome (Ok c) ≡ counts_unless n rows wires bits
given-counts n c z f = rw (← z) (cc (f.is_rows, f.is_wires, f.is_bits))

pub refused-sheet : (f : Fault) (n : ℕ) (s : Sheet) → fault_number f ≡ n → sheet_outcome (Err f) ≡ sheet_unless n s
refused-sheet f zero s e = absurd (omega (arith, number-positive f))
refused-sheet f (suc n) s e = ap (λ m. record { number = m; sheet = zero_sheet }) e

pub given-sheet : (n : ℕ) {s : Sheet} (r : Sheet) → 0 ≡ n → r ≡ s → sheet_outcome (Ok r) ≡ sheet_unless n s
given-sheet n r z e = rw (← z) (ap (λ (t : Sheet). record { number = 0; sheet = t }) e)
