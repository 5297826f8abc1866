-- Packed bits are an exact program; a table that passes with its program is well formed.
use mathlib.Core.Path.{◌≡◌, ◌∙◌}
use mathlib.Core.List.{List}
use Prim.Native.Nat.{ℕ, ◌+◌}
use native.Mathlib.Omega.{arith}
use lib.ListN.{length, get_or-eq_default}
use Rattle.fault.proofs.ChecksLaws.{unless-zero, and_then-zero, first_of-zero, eqb_iff}
use Rattle.blocks.specs.Elements.{AreBits, pack, bit_at}
use Rattle.blocks.proofs.ElementsLaws.{length-pack, bit_at-pack}
use Rattle.fabric_table_checks.specs.TableFault.{table_fault, WellFormed}
use Rattle.fabric_table_checks.proofs.TableFaultLaws.{table-faultless}
use Rattle.fabric_run_checks.specs.RunFault.{given_program_fault, given_fault}

-- packed bits are an exact program
pub pack_exact : (bs : List ℕ) → AreBits bs → given_program_fault (length bs) (pack bs) ≡ 0
unfolding given_program_fault
pack_exact bs bits =
    let spare : (i : ℕ) → bit_at (pack bs) (length bs + i) ≡ 0
    = λ i. bit_at-pack bs bits (length bs + i) ∙ get_or-eq_default bs 0 {n = length bs + i} (omega arith) in
    simp (and_then-zero, first_of-zero, unless-zero, eqb_iff) (length-pack bs, λ i l. spare i)

-- a table that passes with its program is well formed
pub given_well_formed : (table program : List ℕ) → given_fault table program ≡ 0 → WellFormed table
unfolding given_fault
given_well_formed table program e = (table-faultless table).0 ((and_then-zero (table_fault table) _).0 e).0
