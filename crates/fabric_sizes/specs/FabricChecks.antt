-- Document 01, "Counting and fabric: 2, 3, 4, and for the fabric 11" and "Program bits: plan faults, 11": the checks in their order.
use Rattle.std.specs.Prelude.{◌≡◌, ℕ, ◌≤◌, Result, Ok, Err}
use Rattle.fault.specs.declared.Fault.{Fault}
use Rattle.fault.specs.Number.{fault_number}
use Rattle.fault.specs.Checks.{and_then, room_fault}
use Rattle.blocks.specs.Elements.{bytes_for}
use Rattle.plan.specs.declared.record.Plan.{Plan}
use Rattle.plan.specs.Faults.{counts_fault, plan_fault, CountsWithin}
use Rattle.fabric_universal.specs.Fabric.{fabric_takes}
use Rattle.fabric_sizes.specs.Counting.{table_length}

-- the checks of writing the fabric of three counts into a table of `room` entries: 2, 3, 4, 11
unfoldable pub fabric_fault : ℕ → ℕ → ℕ → ℕ → ℕ
fabric_fault u k v room = and_then (counts_fault u k v) (room_fault (table_length u k v) room)

-- the program's length: the bits of the fabric of the plan's counts, divided by 8, rounded up
abbrev pub program_length : Plan → ℕ
program_length p = bytes_for (fabric_takes p.inputs p.gate_count p.output_count)

-- the checks of programming a plan into `room` bytes: plan faults, 11
unfoldable pub plan_program_fault : Plan → ℕ → ℕ
plan_program_fault p room = and_then (plan_fault p) (room_fault (program_length p) room)

-- what each case of their answer says: no check fails, and this is the program's length; or the first that fails gives this fault
abbrev pub ProgramChecked : Plan → ℕ → Result ℕ Fault → Type 0
ProgramChecked p room (Ok bytes) = (0 ≡ plan_program_fault p room) × (bytes ≡ program_length p)
ProgramChecked p room (Err f) = fault_number f ≡ plan_program_fault p room

-- what holds where no check of writing the fabric fails
pub record FabricPasses (u k v room : ℕ) : Type 0 where
  pub counts : CountsWithin u k v
  pub enough : table_length u k v ≤ room
