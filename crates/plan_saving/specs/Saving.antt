-- Document 02, W5: "Write a plan with only the fields that differ from their defaults". The file that saving writes is one of the plan's files, by its
-- choice of standing fields.
use Rattle.std.specs.Prelude.{ℕ, zero, suc, ◌+◌, ◌-◌, ◌*◌, ◌^◌, not, ◌&&◌, List, eqb, length}
use Rattle.lists.specs.Counting.{one_if}
use Rattle.fault.specs.Checks.{and_then, room_fault}
use Rattle.fault.specs.Buffers.{filled}
use Rattle.plan.specs.declared.record.Gate.{Gate}
use Rattle.plan.specs.declared.record.Plan.{Plan}
use Rattle.plan.specs.Record.{gate_at, gate_wire}
use Rattle.plan.specs.Faults.{plan_fault}
use Rattle.plan_fields.specs.Fields.{first_place, second_place, table_place, absent_table}
use Rattle.plan_files.specs.Encoding.{middle_lines, encode}
use Rattle.plan_saving.specs.declared.gate.Standing.{Standing}

-- the map byte in which just these fields stand
unfoldable pub map_byte_of : Standing → ℕ
map_byte_of s = 2 ^ first_place * one_if s.first + 2 ^ second_place * one_if s.second + 2 ^ table_place * one_if s.table

-- which fields of the gate whose own wire is `own` stand: those that differ from their defaults; "the second operand is left out exactly when it
-- equals the first and the table has bits 1 and 2 clear"
unfoldable pub fields_needed : ℕ → Gate → Standing
fields_needed own g = record {
  first = not (eqb g.first.0 (own - 1));
  second = not (eqb g.second.0 g.first.0 && eqb (middle_lines g.table) 0);
  table = not (eqb g.table absent_table);
}

-- the map byte of gate i of a plan
abbrev pub shortest_map : Plan → ℕ → ℕ
shortest_map p i = map_byte_of (fields_needed (gate_wire p.inputs i) (gate_at p i))

-- the file that saving writes
abbrev pub saved_file : Plan → List ℕ
saved_file p = encode (shortest_map p) p

-- the call's checks, with a buffer of n bytes: plan faults, then 11 for a buffer below the file's length
abbrev pub save_fault : Plan → ℕ → ℕ
save_fault p n = and_then (plan_fault p) (room_fault (length (saved_file p)) n)

-- what saving says: 0 and the file's length, or the refusal's number and 0
pub record SaveOutcome : Type 0 where
  pub number : ℕ
  pub file_length : ℕ

-- what saving a file of this length says, whose checks gave the number
abbrev pub saved_outcome : ℕ → ℕ → SaveOutcome
saved_outcome zero long = record { number = 0; file_length = long }
saved_outcome (suc n) long = record { number = suc n; file_length = 0 }

-- saving a plan into a buffer of n bytes
unfoldable pub plan_save : Plan → ℕ → SaveOutcome
plan_save p n = saved_outcome (save_fault p n) (length (saved_file p))

-- the lent buffer after the call
abbrev pub save_result : Plan → List ℕ → List ℕ
save_result p buffer = filled (save_fault p (length buffer)) (saved_file p) buffer
