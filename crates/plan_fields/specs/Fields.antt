-- Document 01, "The plan", and document 02, W4: the fields of the plan file, and a gate, each with its checks.
use Rattle.std.specs.Prelude.{ℕ, ◌+◌, ◌-◌, ◌*◌, ◌/◌, ◌%◌, ◌^◌, Bool, cond, eqb, leb}
use Rattle.fault.specs.declared.Fault.{Fault}
use Rattle.plan.specs.declared.record.Gate.{Gate}
use Rattle.plan.specs.Record.{wire}
use Rattle.plan.specs.Rules.{count_allowed, map_allowed, operand_allowed, max_table, source_allowed}
use Rattle.plan_fields.specs.Parsing.{Step, ◌>>=◌, pure, word_at, byte_at, field, standing}

-- u, k or v: two bytes, 1 to its limit, or the fault that is its own
abbrev pub count_field : ℕ → Fault → Step ℕ
count_field limit f = field 2 word_at (count_allowed limit) f

-- the map byte of a gate
abbrev pub map_field : Step ℕ
map_field = field 1 byte_at map_allowed Fault.Map

-- an operand, two bytes, below the wire `bound`
abbrev pub operand_field : ℕ → Step ℕ
operand_field bound = field 2 word_at (operand_allowed bound) Fault.Operand

-- document 02, W4: a table byte has four lines where the gate's second operand stands, equal to the first or not, and two where it is absent

-- the table byte in which both of two lines stand
abbrev pub max_two_lines : ℕ
max_two_lines = 3

-- the limit of a table byte, by whether the second operand stands
abbrev pub table_limit : Bool → ℕ
table_limit second = cond second max_table max_two_lines

-- the record's table of a table byte: of four lines the byte itself; of two, bit 0 for operand 0 and bit 1 for operand 1, "bit 0 plus 8 times bit 1"
abbrev pub table_of_byte : Bool → ℕ → ℕ
table_of_byte second b = cond second b (b % 2 + 8 * (b / 2 % 2))

-- the table of a gate, one byte, by whether its second operand stands
abbrev pub table_field : Bool → Step ℕ
table_field second = field 1 byte_at (λ b. leb b (table_limit second)) Fault.Table >>= λ b. pure (table_of_byte second b)

-- an output, two bytes, of a plan with u inputs and k gates
abbrev pub output_field : ℕ → ℕ → Step ℕ
output_field u k = field 2 word_at (source_allowed u k) Fault.Source

-- the places of a map byte's bits, lowest first: first operand, second operand, table
abbrev pub first_place : ℕ
first_place = 0

abbrev pub second_place : ℕ
second_place = 1

abbrev pub table_place : ℕ
table_place = 2

-- a table that is absent: AND
abbrev pub absent_table : ℕ
absent_table = 8

-- whether bit i of a map byte stands
abbrev pub map_bit : ℕ → ℕ → Bool
map_bit map i = eqb (map / 2 ^ i % 2) 1

-- the fields of a gate with this map byte, only those whose map bit stands: an absent first operand is the wire just before the gate, an
-- absent second operand is the same wire as the first, an absent table is 8. The gate's own wire is `own`, its operands are below `bound`
abbrev pub gate_fields : ℕ → ℕ → ℕ → Step Gate
gate_fields bound own map =
    standing (map_bit map first_place) (operand_field bound) (own - 1) >>= λ first.
    standing (map_bit map second_place) (operand_field bound) first >>= λ second.
    standing (map_bit map table_place) (table_field (map_bit map second_place)) absent_table >>= λ table.
    pure (record { first = wire first; second = wire second; table = table })

-- a gate: one map byte, then its fields
unfoldable pub gate_step_within : ℕ → ℕ → Step Gate
gate_step_within bound own = map_field >>= gate_fields bound own
