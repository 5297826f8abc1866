-- Document 01, plan evaluation: "wire i up to u holds entry i of the row, each gate wire its gate's bit, and result entry j is the bit of
-- the wire that output j names". The wires are defined over values of any type, bits are one instance.
use Rattle.std.specs.Prelude.{ℕ, zero, suc, ◌+◌, ◌-◌, ◌*◌, ◌/◌, ◌%◌, ◌^◌, List, [], ◌∷◌, ◌++◌, length, get_or}
use Rattle.lists.specs.Lists.{list_of}
use Rattle.fault.specs.Buffers.{filled}
use Rattle.plan.specs.declared.record.Plan.{Plan}
use Rattle.plan.specs.declared.record.PlanWire.{PlanWire}
use Rattle.plan.specs.Record.{gate_at, output_at, wire}
use Rattle.plan_evaluation_checks.specs.EvaluationChecks.{evaluate_fault}

-- the value on a wire: wire w stands at place w - 1
abbrev pub value_on : {A : Type 0} → A → List A → PlanWire → A
value_on none ws w = get_or ws (w.0 - 1) none

-- one gate more: `act` makes its value of the gate's number, counted from 0, its table and its operands' values
abbrev pub with_gate : {A : Type 0} → A → (ℕ → ℕ → A → A → A) → Plan → ℕ → List A → List A
with_gate none act p i ws =
    ws ++ (act i (gate_at p i).table (value_on none ws (gate_at p i).first) (value_on none ws (gate_at p i).second) ∷ [])

-- the values on the inputs' wires and those of the first n gates
unfoldable pub plan_wires : {A : Type 0} → A → (ℕ → ℕ → A → A → A) → Plan → List A → ℕ → List A
plan_wires none act p row zero = row
plan_wires none act p row (suc n) = with_gate none act p n (plan_wires none act p row n)

-- the values on the wires that the first n outputs name
abbrev pub named_by : {A : Type 0} → A → Plan → List A → ℕ → List A
named_by none p ws n = list_of n (λ j. value_on none ws (output_at p j))

-- the plan's outputs on a row
abbrev pub plan_outputs : {A : Type 0} → A → (ℕ → ℕ → A → A → A) → Plan → List A → List A
plan_outputs none act p row = named_by none p (plan_wires none act p row p.gate_count) p.output_count

-- "With operand bits a, b the gate's bit is bit 2a + b of the table, bit 0 lowest"
unfoldable pub table_bit : ℕ → ℕ → ℕ → ℕ
table_bit t a b = t / 2 ^ (2 * a + b) % 2

-- the action of a gate on bits
abbrev pub gate_bit : ℕ → ℕ → ℕ → ℕ → ℕ
gate_bit i t a b = table_bit t a b

-- the bit on wire w in evaluation
abbrev pub wire_bit : Plan → List ℕ → ℕ → ℕ
wire_bit p row w = value_on 0 (plan_wires 0 gate_bit p row p.gate_count) (wire w)

-- the result buffer after the call
abbrev pub evaluate_result : Plan → List ℕ → List ℕ → List ℕ
evaluate_result p row result = filled (evaluate_fault p row (length result)) (plan_outputs 0 gate_bit p row) result
