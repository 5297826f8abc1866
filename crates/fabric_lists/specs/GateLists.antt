-- The lists that a plan's gates are loaded into: one of the gates, or one of their operands, pin by pin, and one of their tables. Gates and pins
-- count from 0.
use Rattle.std.specs.Prelude.{ℕ, ◌*◌, ◌/◌, min, List, length, slice_index_or}
use Rattle.lists.specs.Lists.{list_of}
use Rattle.fault.specs.Buffers.{over}
use Rattle.blocks.specs.Elements.{operands}
use Rattle.plan.specs.declared.record.Gate.{Gate}
use Rattle.plan.specs.declared.record.Plan.{Plan}
use Rattle.plan.specs.Record.{max_gates, zero_gate, gate_at}
use Rattle.fabric_universal.specs.Universal.{Gates}
use Rattle.fabric_universal.specs.Fabric.{gates_of, plan_gates}

-- ---- a list of gates

-- its gates, whose wires follow `before` others
abbrev pub gates_listed : ℕ → List Gate → Gates
gates_listed before gates = gates_of before (λ g. slice_index_or gates g zero_gate)

-- how many of k gates the record and a list with this many places have places for
unfoldable pub loaded_places : ℕ → ℕ → ℕ
loaded_places k listPlaces = min k (min max_gates listPlaces)

-- the list after loading
abbrev pub loaded_list : Plan → List Gate → List Gate
loaded_list p gates = over (list_of (loaded_places p.gate_count (length gates)) (gate_at p)) gates

-- ---- a list of operands and one of tables

-- how many of k gates the record, a list with `operandPlaces` places for operands and one with `tablePlaces` for tables have places for
unfoldable pub loaded_gates : ℕ → ℕ → ℕ → ℕ
loaded_gates k operandPlaces tablePlaces = min k (min max_gates (min (operandPlaces / operands) tablePlaces))

-- the lists after loading
abbrev pub loaded_operands : Plan → List ℕ → List ℕ → List ℕ
loaded_operands p operandList tables = over (list_of (operands * loaded_gates p.gate_count (length operandList) (length tables)) (plan_gates p).operand) operandList

abbrev pub loaded_tables : Plan → List ℕ → List ℕ → List ℕ
loaded_tables p operandList tables = over (list_of (loaded_gates p.gate_count (length operandList) (length tables)) (plan_gates p).table) tables
