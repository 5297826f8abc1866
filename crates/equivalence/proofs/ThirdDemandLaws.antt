-- The third demand holds.
use mathlib.Core.Path.{◌≡◌, sym, ◌∙◌}
use mathlib.Core.List.{List}
use Prim.Native.Nat.{ℕ, ◌<◌, ◌≤◌}
use borrow.Author.Tests.{le-leb, eq-eqb}
use lib.ListN.{length, get_or, drop, get_or-append}
use Rattle.fault.specs.Checks.{room_fault}
use Rattle.fault.proofs.ChecksLaws.{unless-zero, and_then-zero, first_of-zero}
use Rattle.plan.specs.declared.record.Plan.{Plan}
use Rattle.plan.specs.Faults.{counts_fault, plan_fault, Accepted}
use Rattle.plan_evaluation_checks.specs.EvaluationChecks.{contact_fault, evaluate_fault}
use Rattle.plan_evaluation.specs.Evaluation.{gate_bit, plan_outputs, evaluate_result}
use Rattle.plan_evaluation.proofs.EvaluationLaws.{length-plan_outputs}
use Rattle.fabric.specs.Fabrics.{plan_program, plan_table, run_outputs, plan_program_fault, run_fault, run_result}
use Rattle.fabric.proofs.FabricTableLaws.{fabric_promise}
use Rattle.fabric.proofs.FabricsLaws.{fabric_written_read, fabric_succeeds, plan-program_succeeds, plan_programmed_read}
use Rattle.fabric.specs.Promise.{FabricPromise}
use Rattle.equivalence.specs.ThirdDemand.{plan_table_length, ContactRow, CountsShared, plan_fabric_fault, entries_written, bytes_written, Rooms, ThirdDemand, ThirdDemandHolds}

-- such a row passes check 12
pub contacts : {u : ℕ} {row : List ℕ} → ContactRow u row → contact_fault u row ≡ 0
unfolding contact_fault
contacts {u} {row} c =
    simp (and_then-zero, first_of-zero, unless-zero) (eq-eqb (length row) u c.size, λ i l. le-leb (get_or row i 0) 1 (c.bit i (rw c.size at l)))

-- an accepted plan's counts pass checks 2, 3 and 4
pub counts_pass : (p : Plan) → Accepted p → counts_fault p.inputs p.gate_count p.output_count ≡ 0
unfolding plan_fault
counts_pass p a = ((and_then-zero _ _).0 a).0

-- the fabric call for an accepted plan's counts does not refuse a buffer of the stated length, and leaves the fabric's table in it
module _ (p : Plan) (accepted : Accepted p) (table : List ℕ) (room : plan_table_length p ≤ length table) where
  pub fabric_unrefused : plan_fabric_fault p table ≡ 0
  fabric_unrefused = fabric_succeeds p.inputs p.gate_count p.output_count (length table) (counts_pass p accepted) room

  pub entries-written : entries_written p table ≡ plan_table p
  entries-written = fabric_written_read p.inputs p.gate_count p.output_count table fabric_unrefused

module _ (p : Plan) (row table program work evaluated ran : List ℕ) where
  abbrev v : ℕ
  v = p.output_count

  module _ (accepted : Accepted p) (contact : ContactRow p.inputs row)
      (rooms : Rooms p (length table) (length program) (length work) (length evaluated) (length ran))
    where
      evaluates-here : evaluate_fault p row (length evaluated) ≡ 0
      unfolding room_fault
      evaluates-here = rw (accepted, contacts contact, le-leb v (length evaluated) rooms.evaluated_room)

      programs-here : plan_program_fault p (length program) ≡ 0
      programs-here = plan-program_succeeds p (length program) accepted rooms.program_room

      entries-here : entries_written p table ≡ plan_table p
      entries-here = entries-written p accepted table rooms.table_room

      bytes-here : bytes_written p program ≡ plan_program p
      bytes-here = plan_programmed_read p program programs-here

      promised : FabricPromise p row
      promised = fabric_promise p row accepted (counts_pass p accepted) (contacts contact)

      -- the run of the fabric's table with the plan's program is not refused
      pub run-unrefused : run_fault (plan_table p) (plan_program p) row (length work) (length ran) ≡ 0
      run-unrefused = promised.runs (length work) (length ran) rooms.work_room rooms.ran_room

      runs_here : run_fault (entries_written p table) (bytes_written p program) row (length work) (length ran) ≡ 0
      runs_here = rw (entries-here, bytes-here) run-unrefused

      same_here : (j : ℕ) → j < v
          → get_or (run_result (entries_written p table) (bytes_written p program) row work ran) j 0 ≡ get_or (evaluate_result p row evaluated) j 0
      same_here j l =
          let outs = plan_outputs 0 gate_bit p row in
          let e : run_outputs (entries_written p table) (bytes_written p program) row ≡ outs = rw (entries-here, bytes-here) promised.gives in
          let n : j < length outs = rw (length-plan_outputs p row) l in
          rw (runs_here, evaluates-here, e)
          (get_or-append outs (drop (length outs) ran) 0 j n ∙ sym (get_or-append outs (drop (length outs) evaluated) 0 j n))

      -- a plan that shares the counts has the same table
      same-table-here : (q : Plan) (other : List ℕ) → Accepted q → CountsShared p q → plan_table_length q ≤ length other
          → (plan_fabric_fault q other ≡ 0) × (entries_written q other ≡ entries_written p table)
      same-table-here q other a c room =
          let tables : plan_table q ≡ plan_table p = rw (c.shared_inputs, c.shared_gates, c.shared_outputs) in
          (fabric_unrefused q a other room, entries-written q a other room ∙ tables ∙ sym entries-here)

      demand-here : ThirdDemand p row table program work evaluated ran
      demand-here = record {
        evaluates = evaluates-here;
        fabricates = fabric_unrefused p accepted table rooms.table_room;
        programs = programs-here;
        runs = runs_here;
        same = same_here;
        same_table = same-table-here;
      }

-- the third demand
pub third_demand : ThirdDemandHolds
third_demand = demand-here
