-- The checks pass exactly if the counts are allowed, or the plan is accepted, and the buffer has its stated length.
use mathlib.Core.Path.{◌≡◌, sym, ap, ◌∙◌}
use Prim.Native.Nat.{ℕ, ◌≤◌}
use borrow.Author.Tests.{le-leb, leb-true}
use Rattle.fault.specs.Checks.{room_fault}
use Rattle.fault.proofs.ChecksLaws.{unless-zero, and_then-zero}
use Rattle.elements.specs.declared.Counts.{Counts}
use Rattle.blocks.specs.Elements.{bytes_for}
use Rattle.plan.specs.declared.record.Plan.{Plan}
use Rattle.plan.specs.Faults.{counts_fault, plan_fault, Accepted}
use Rattle.plan.proofs.FaultsLaws.{counts-within}
use Rattle.fabric_sizes.specs.Counting.{FabricCounts, table_length}
use Rattle.fabric_sizes.specs.FabricChecks.{fabric_fault, program_length, plan_program_fault, FabricPasses}
use Rattle.fabric_sizes.proofs.PartsLaws.{plan-places}
use Rattle.fabric_sizes.proofs.CountingLaws.{same-counts}

-- ---- writing the fabric

pub fabric_passes : (u k v room : ℕ) → fabric_fault u k v room ≡ 0 → FabricPasses u k v room
unfolding fabric_fault room_fault
fabric_passes u k v room e =
    let h = simp (and_then-zero, unless-zero) at e in
    record { counts = counts-within u k v h.0; enough = leb-true (table_length u k v) room h.1 }

-- and the other way round
pub fabric_succeeds : (u k v room : ℕ) → counts_fault u k v ≡ 0 → table_length u k v ≤ room → fabric_fault u k v room ≡ 0
unfolding fabric_fault room_fault
fabric_succeeds u k v room counts enough = simp (and_then-zero, unless-zero) (counts, le-leb (table_length u k v) room enough)

-- ---- programming a plan

-- what holds where no check fails
pub record PlanProgramPasses (p : Plan) (room : ℕ) : Type 0 where
  pub accepted : Accepted p
  pub fits : program_length p ≤ room

pub plan-program-passes : (p : Plan) (room : ℕ) → plan_program_fault p room ≡ 0 → PlanProgramPasses p room
unfolding plan_program_fault room_fault
plan-program-passes p room e =
    let h = simp (and_then-zero, unless-zero) at e in
    record { accepted = h.0; fits = leb-true (program_length p) room h.1 }

-- and the other way round
pub plan-program_succeeds : (p : Plan) (room : ℕ) → Accepted p → program_length p ≤ room → plan_program_fault p room ≡ 0
unfolding plan_program_fault room_fault
plan-program_succeeds p room accepted fits = simp (and_then-zero, unless-zero) (accepted, le-leb (program_length p) room fits)

-- the length of an accepted plan's program, from the counts of the fabric of its K gates
pub plan-measured : (p : Plan) {places bytes : ℕ} {c : Counts} → 0 ≡ plan_fault p → places ≡ p.gate_places → FabricCounts p.inputs places p.output_count c
    → bytes ≡ bytes_for c.bits → bytes ≡ program_length p
plan-measured p {places} none is counted measured =
    let counts = same-counts p.inputs p.output_count (plan-places p (sym none)) (rw is at counted) in
    measured ∙ ap bytes_for counts.is_bits
