-- What a row of a kind is; one row more; the counts stay small, and never go back.
use mathlib.Core.Path.{◌≡◌, refl}
use mathlib.Core.List.{List}
use Prim.Native.Nat.{ℕ, zero, suc, ◌+◌, ◌*◌, ◌≤◌}
use native.Mathlib.Omega.{arith}
use native.Mathlib.Numerals.{add-one}
use native.Mathlib.Decide.{ℕ_discrete}
use Rattle.lists.specs.Lists.{list_of}
use Rattle.elements.specs.Elements.{max_wires}
use Rattle.blocks.specs.Elements.{gate_bits, makes, takes, total, row_of}
use Rattle.plan.specs.Record.{max_inputs}
use Rattle.fabric_sizes.specs.Layout.{inputs_in, kind_at, left_at, right_at, row_at, wires_before, bits_before}
use Rattle.fabric_sizes.proofs.LayoutLaws.{wires-more, bits-more}
use Rattle.fabric_table_checks.specs.declared.table.TableCounts.{TableCounts}
use Rattle.fabric_table_checks.specs.Counting.{kind_wires, kind_bits, CountsOf, CountedBefore, max_bits}

-- one row more can be counted
pub record Countable (w b : ℕ) : Type 0 where
  pub wires : w ≤ max_bits
  pub bits : b ≤ max_bits

-- ---- the row of a kind

-- it makes and takes what its kind says: two wires and four bits at most
pub record OfKind (kind l r : ℕ) : Type 0 where
  pub wires : makes (row_of kind l r) ≡ kind_wires kind
  pub bits : takes (row_of kind l r) ≡ kind_bits kind
  pub few_wires : kind_wires kind ≤ 2
  pub few_bits : kind_bits kind ≤ gate_bits

pub of_kind_lem : (kind l r : ℕ) → OfKind kind l r
unfolding row_of makes takes
of_kind_lem zero l r = record { wires = refl; bits = refl; few_wires = omega arith; few_bits = omega arith }
of_kind_lem (suc zero) l r = record { wires = refl; bits = refl; few_wires = omega arith; few_bits = omega arith }
of_kind_lem (suc (suc zero)) l r = record { wires = refl; bits = refl; few_wires = omega arith; few_bits = omega arith }
of_kind_lem (suc (suc (suc k))) l r = record { wires = refl; bits = refl; few_wires = omega arith; few_bits = omega arith }

-- ---- counts

-- one row more
more-wires : (table : List ℕ) (i : ℕ) → wires_before table (suc i) ≡ wires_before table i + kind_wires (kind_at table i)
unfolding row_at
more-wires table i = omega (arith, wires-more table i, (of_kind_lem (kind_at table i) (left_at table i) (right_at table i)).wires)

more-bits : (table : List ℕ) (i : ℕ) → bits_before table (suc i) ≡ bits_before table i + kind_bits (kind_at table i)
unfolding row_at
more-bits table i = omega (arith, bits-more table i, (of_kind_lem (kind_at table i) (left_at table i) (right_at table i)).bits)

-- before row 0 there are wire 0 and the inputs
pub counted-first : (table : List ℕ) (w : ℕ) → w ≡ 1 + inputs_in table → CountedBefore table 0 (record { wires = w; bits = 0 })
unfolding wires_before bits_before total list_of
counted-first table w e = record { wires = omega arith; bits = refl }

pub counted-one-more : {table : List ℕ} {i : ℕ} {c own : TableCounts} → CountedBefore table i c → CountsOf (kind_at table i) own
    → CountedBefore table (i + 1) (record { wires = c.wires + own.wires; bits = c.bits + own.bits })
counted-one-more {table} {i} h own =
    rw (add-one i)
    (record { wires = omega (arith, more-wires table i); bits = omega (arith, more-bits table i) })

-- how many wires and bits there are at most
wires-most : (table : List ℕ) (i : ℕ) → wires_before table i ≤ suc (inputs_in table) + 2 * i
unfolding wires_before total list_of
wires-most table zero = omega arith
wires-most table (suc i) = omega (arith, wires-most table i, more-wires table i, (of_kind_lem (kind_at table i) 0 0).few_wires)

bits_most : (table : List ℕ) (i : ℕ) → bits_before table i ≤ gate_bits * i
unfolding bits_before total list_of
bits_most table zero = omega arith
bits_most table (suc i) = omega (arith, bits_most table i, more-bits table i, (of_kind_lem (kind_at table i) 0 0).few_bits)

pub counted-few : {table : List ℕ} {i : ℕ} {c : TableCounts} → inputs_in table ≤ max_inputs → i ≤ max_wires → CountedBefore table i c → Countable c.wires c.bits
counted-few {table} {i} u l h = record { wires = omega (arith, wires-most table i); bits = omega (arith, bits_most table i) }

-- later rows begin no earlier
pub wires_mono : (table : List ℕ) (i n : ℕ) → i ≤ n → wires_before table i ≤ wires_before table n
wires_mono table i zero l = let e : i ≡ 0 = omega arith in rw e (omega arith)
wires_mono table i (suc n) l =
    let ih = wires_mono table i n in
    elim (ℕ_discrete i (suc n)) [ yes e ↦ rw e (omega arith) | no d ↦ omega (arith, ih (omega arith), wires-more table n) ]

pub bits_mono : (table : List ℕ) (i n : ℕ) → i ≤ n → bits_before table i ≤ bits_before table n
bits_mono table i zero l = let e : i ≡ 0 = omega arith in rw e (omega arith)
bits_mono table i (suc n) l =
    let ih = bits_mono table i n in
    elim (ℕ_discrete i (suc n)) [ yes e ↦ rw e (omega arith) | no d ↦ omega (arith, ih (omega arith), bits-more table n) ]
