-- One call that makes the four calls of the third demand on lent buffers: its checks in their order, and every lent buffer after it. The plan's
-- outputs stand in `evaluated`, the fabric's in `ran`.
use Rattle.std.specs.Prelude.{ℕ, List, ◌≡◌}
use Rattle.fault.specs.Checks.{and_then, room_fault}
use Rattle.fault.specs.Buffers.{filled}
use Rattle.plan.specs.declared.record.Plan.{Plan}
use Rattle.plan.specs.Faults.{plan_fault, Accepted}
use Rattle.plan_evaluation_checks.specs.EvaluationChecks.{contact_fault}
use Rattle.plan_evaluation.specs.Evaluation.{gate_bit, plan_outputs}
use Rattle.fabric.specs.Fabrics.{plan_program, plan_table, run_wires, run_outputs, program_length}
use Rattle.equivalence.specs.declared.both.Lengths.{Lengths}
use Rattle.equivalence.specs.ThirdDemand.{plan_table_length, plan_fabric_wires, ContactRow, Rooms}

module _ (p : Plan) where
  -- 11 for lent buffers of these lengths: table, program, work, and the two results
  unfoldable pub both_room_fault : ℕ → ℕ → ℕ → ℕ → ℕ → ℕ
  both_room_fault table program work evaluated ran =
      and_then (room_fault (plan_table_length p) table)
      (and_then (room_fault (program_length p) program)
      (and_then (room_fault (plan_fabric_wires p) work) (and_then (room_fault p.output_count evaluated) (room_fault p.output_count ran))))

  -- plan faults, 12, 11
  unfoldable pub both_fault : List ℕ → ℕ → ℕ → ℕ → ℕ → ℕ → ℕ
  both_fault row table program work evaluated ran =
      and_then (plan_fault p) (and_then (contact_fault p.inputs row) (both_room_fault table program work evaluated ran))

  -- each lent buffer after a call whose checks gave the number n
  abbrev pub both_table : ℕ → List ℕ → List ℕ
  both_table n table = filled n (plan_table p) table

  abbrev pub both_program : ℕ → List ℕ → List ℕ
  both_program n program = filled n (plan_program p) program

  abbrev pub both_work : ℕ → List ℕ → List ℕ → List ℕ
  both_work n row work = filled n (run_wires (plan_table p) (plan_program p) row) work

  abbrev pub both_evaluated : ℕ → List ℕ → List ℕ → List ℕ
  both_evaluated n row evaluated = filled n (plan_outputs 0 gate_bit p row) evaluated

  abbrev pub both_ran : ℕ → List ℕ → List ℕ → List ℕ
  both_ran n row ran = filled n (run_outputs (plan_table p) (plan_program p) row) ran

-- the stated lengths
pub record LengthsAre (p : Plan) (l : Lengths) : Type 0 where
  pub table : l.table ≡ plan_table_length p
  pub program : l.program ≡ program_length p
  pub work : l.work ≡ plan_fabric_wires p

-- what holds where no check fails
pub record BothPasses (p : Plan) (row : List ℕ) (table program work evaluated ran : ℕ) : Type 0 where
  pub accepted : Accepted p
  pub contact : contact_fault p.inputs row ≡ 0
  pub rooms : Rooms p table program work evaluated ran

-- this call does not refuse either: an accepted plan, a row of input contacts and enough room give the answer 0
abbrev pub BothSucceeds : Type 0
BothSucceeds = (p : Plan) (row : List ℕ) (table program work evaluated ran : ℕ) → Accepted p → ContactRow p.inputs row
    → Rooms p table program work evaluated ran → both_fault p row table program work evaluated ran ≡ 0
