-- Where the checks pass: when they do, what holds then, and that the two results are then equal.
use mathlib.Core.Path.{◌≡◌, sym, ap₂, ◌∙◌}
use mathlib.Core.List.{List}
use Prim.Native.Nat.{ℕ, ◌<◌}
use native.Mathlib.Omega.{arith}
use borrow.Author.Tests.{leb-true, le-leb}
use lib.ListN.{length, get_or, take, drop, get_or-append}
use Rattle.fault.specs.Number.{fault_number}
use Rattle.fault.specs.Buffers.{over}
use Rattle.fault.proofs.BuffersLaws.{filled-done}
use Rattle.fault.specs.Checks.{room_fault}
use Rattle.fault.specs.declared.Fault.{Fault}
use Rattle.fault.proofs.ChecksLaws.{unless-zero, and_then-zero, number-positive}
use Rattle.plan.specs.declared.record.Plan.{Plan}
use Rattle.plan.specs.Faults.{Accepted}
use Rattle.plan_evaluation_checks.specs.EvaluationChecks.{contact_fault}
use Rattle.plan_evaluation_checks.proofs.EvaluationChecksLaws.{row-length, row-bit}
use Rattle.plan_evaluation.specs.Evaluation.{gate_bit, plan_outputs, evaluate_result}
use Rattle.plan_evaluation.proofs.EvaluationLaws.{length-plan_outputs}
use Rattle.fabric.specs.Fabrics.{plan_program, plan_table, run_wires, run_outputs, fabric_result, program_length, plan_program_result, run_fault, run_work, run_result}
use Rattle.fabric.proofs.FabricTableLaws.{fabric_promise}
use Rattle.fabric.proofs.FabricsLaws.{fabric_written_read, plan_programmed_read}
use Rattle.equivalence.specs.ThirdDemand.{plan_table_length, plan_fabric_wires, ContactRow, ThirdDemand}
use Rattle.equivalence.specs.BothCalls.{both_room_fault, both_fault, both_evaluated, both_ran, BothPasses, BothSucceeds}
use Rattle.equivalence.proofs.ThirdDemandLaws.{contacts, counts_pass, run-unrefused, third_demand}

pub both-passes : {p : Plan} {row : List ℕ} {table program work evaluated ran : ℕ} → both_fault p row table program work evaluated ran ≡ 0
    → BothPasses p row table program work evaluated ran
unfolding both_fault both_room_fault room_fault
both-passes {p} {row} {table} {program} {work} {evaluated} {ran} e =
    let h = simp (and_then-zero, unless-zero) at e in
    let rooms = h.1.1 in
    record {
      accepted = h.0;
      contact = h.1.0;
      rooms = record {
        table_room = leb-true (plan_table_length p) table rooms.0;
        program_room = leb-true (program_length p) program rooms.1.0;
        work_room = leb-true (plan_fabric_wires p) work rooms.1.1.0;
        evaluated_room = leb-true p.output_count evaluated rooms.1.1.1.0;
        ran_room = leb-true p.output_count ran rooms.1.1.1.1;
      };
    }

pub both_succeeds : BothSucceeds
unfolding both_fault both_room_fault room_fault
both_succeeds p row table program work evaluated ran accepted contact rooms =
    rw (
      accepted,
      contacts contact,
      le-leb (plan_table_length p) table rooms.table_room,
      le-leb (program_length p) program rooms.program_room,
      le-leb (plan_fabric_wires p) work rooms.work_room,
      le-leb p.output_count evaluated rooms.evaluated_room,
      le-leb p.output_count ran rooms.ran_room,
    )

-- a row that passes check 12 is a row of input contacts
pub contact-row : (u : ℕ) (row : List ℕ) → contact_fault u row ≡ 0 → ContactRow u row
contact-row u row e = record { size = row-length u row e; bit = λ i l. row-bit u row e i }

-- the two results are equal, entry by entry
pub both-same : (p : Plan) (row evaluated ran : List ℕ) → Accepted p → contact_fault p.inputs row ≡ 0
    → (j : ℕ) → j < p.output_count → get_or (both_evaluated p 0 row evaluated) j 0 ≡ get_or (both_ran p 0 row ran) j 0
both-same p row evaluated ran accepted contact j l =
    let outs = plan_outputs 0 gate_bit p row in
    let e : run_outputs (plan_table p) (plan_program p) row ≡ outs = (fabric_promise p row accepted (counts_pass p accepted) contact).gives in
    let n : j < length outs = rw (length-plan_outputs p row) l in
    rw e (get_or-append outs (drop (length outs) evaluated) 0 j n ∙ sym (get_or-append outs (drop (length outs) ran) 0 j n))

-- a refusal has no number 0
pub refused-same : (f : Fault) → fault_number f ≡ 0 → ⊥
refused-same f z = absurd (omega (arith, number-positive f))

-- the four calls, one after another, where no check fails: what each leaves in its buffer
module _ (p : Plan) (row table program work evaluated ran : List ℕ)
    (passes : BothPasses p row (length table) (length program) (length work) (length evaluated) (length ran)) where
  abbrev u : ℕ
  u = p.inputs

  abbrev k : ℕ
  k = p.gate_count

  abbrev v : ℕ
  v = p.output_count

  pub made-demand : ThirdDemand p row table program work evaluated ran
  made-demand = third_demand p row table program work evaluated ran passes.accepted (contact-row u row passes.contact) passes.rooms

  pub made_table : {T : List ℕ} → T ≡ fabric_result u k v table → T ≡ over (plan_table p) table
  made_table e = e ∙ sym (filled-done _ (plan_table p) table (sym made-demand.fabricates))

  pub made-program : {P : List ℕ} → P ≡ plan_program_result p program → P ≡ over (plan_program p) program
  made-program e = e ∙ sym (filled-done _ (plan_program p) program (sym made-demand.programs))

  pub made_evaluated : {E : List ℕ} → E ≡ evaluate_result p row evaluated → E ≡ over (plan_outputs 0 gate_bit p row) evaluated
  made_evaluated e = e ∙ sym (filled-done _ (plan_outputs 0 gate_bit p row) evaluated (sym made-demand.evaluates))

  -- the run of exactly what the first two wrote
  module _ {T P : List ℕ} {entries bytes : ℕ} (at : entries ≡ plan_table_length p) (to : bytes ≡ program_length p) (wrote : T ≡ fabric_result u k v table)
      (programmed : P ≡ plan_program_result p program) where
    entries-read : take entries T ≡ plan_table p
    entries-read = ap₂ take at wrote ∙ fabric_written_read u k v table made-demand.fabricates

    bytes_read : take bytes P ≡ plan_program p
    bytes_read = ap₂ take to programmed ∙ plan_programmed_read p program made-demand.programs

    unrefused : run_fault (plan_table p) (plan_program p) row (length work) (length ran) ≡ 0
    unrefused = run-unrefused p row table program work evaluated ran passes.accepted (contact-row u row passes.contact) passes.rooms

    pub made_unrefused : run_fault (take entries T) (take bytes P) row (length work) (length ran) ≡ 0
    made_unrefused = ap₂ (λ t b. run_fault t b row (length work) (length ran)) entries-read bytes_read ∙ unrefused

    pub made-work : {W : List ℕ} → W ≡ run_work (take entries T) (take bytes P) row work ran → W ≡ over (run_wires (plan_table p) (plan_program p) row) work
    made-work e =
        e ∙ ap₂ (λ t b. run_work t b row work ran) entries-read bytes_read
        ∙ sym (filled-done _ (run_wires (plan_table p) (plan_program p) row) work (sym unrefused))

    pub made-ran : {R : List ℕ} → R ≡ run_result (take entries T) (take bytes P) row work ran → R ≡ over (run_outputs (plan_table p) (plan_program p) row) ran
    made-ran e =
        e ∙ ap₂ (λ t b. run_result t b row work ran) entries-read bytes_read
        ∙ sym (filled-done _ (run_outputs (plan_table p) (plan_program p) row) ran (sym unrefused))
