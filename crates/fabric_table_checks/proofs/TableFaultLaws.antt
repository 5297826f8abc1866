-- A table is well formed exactly if each of its parts is within its bounds.
use mathlib.Core.Path.{◌≡◌}
use mathlib.Core.Logic.{◌↔◌}
use mathlib.Core.Bool.{and-eq-true_iff}
use mathlib.Core.List.{List}
use Prim.Native.Nat.{ℕ}
use Rattle.fault.proofs.ChecksLaws.{unless-zero, and_then-zero, first_of-zero, eqb_iff, leb_iff}
use Rattle.plan.specs.Rules.{count_allowed}
use Rattle.fabric_table_checks.specs.TableFault.{WellFormed, HeaderWithin, kind_allowed, header_fault, row_fault, output_wire_fault, table_fault, RowWithin}

pub header-faultless : (table : List ℕ) → (header_fault table ≡ 0) ↔ HeaderWithin table
unfolding header_fault count_allowed
header-faultless table = simp (and_then-zero, unless-zero, and-eq-true_iff, leb_iff, eqb_iff) (
  λ h. record {
    long = h.0;
    some_inputs = h.1.0.0;
    inputs = h.1.0.1;
    some_outputs = h.1.1.0.0;
    outputs = h.1.1.0.1;
    size = h.1.1.1;
  },
  λ w. (w.long, ((w.some_inputs, w.inputs), ((w.some_outputs, w.outputs), w.size))),
)

pub row-faultless : (table : List ℕ) (i : ℕ) → (row_fault table i ≡ 0) ↔ RowWithin table i
unfolding row_fault kind_allowed
row-faultless table i = simp (and_then-zero, unless-zero, and-eq-true_iff, leb_iff) (
  λ h. record { some_kind = h.0.0; kind = h.0.1; left = h.1.0; right = h.1.1 },
  λ w. ((w.some_kind, w.kind), (w.left, w.right)),
)

pub table-faultless : (table : List ℕ) → (table_fault table ≡ 0) ↔ WellFormed table
unfolding table_fault output_wire_fault
table-faultless table = simp (and_then-zero, first_of-zero, unless-zero, leb_iff, header-faultless, row-faultless) (
  λ h. record { start = h.0; row = h.1.0; output = h.1.1.0; wires = h.1.1.1 },
  λ w. (w.start, (w.row, (w.output, w.wires))),
)
