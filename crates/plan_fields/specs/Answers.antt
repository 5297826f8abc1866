-- What the steps hand back says, in document 01's numbers and values: the value with the next cursor, or the refusal.
use Rattle.std.specs.Prelude.{ℕ, Result, Ok, Err}
use Rattle.fault.specs.Number.{fault_number}
use Rattle.fault.specs.declared.Refusal.{Refusal}
use Rattle.plan.specs.declared.record.PlanWire.{PlanWire}
use Rattle.plan_fields.specs.declared.cursor.Cursor.{Cursor}
use Rattle.plan_fields.specs.Parsing.{Parsed, got, refused}

-- a refusal: its number and its offset
abbrev pub refusal : {A : Type 0} → Refusal → Parsed A
refusal x = refused (fault_number x.fault) x.at

-- what a step handed back, its value as `value` tells it
abbrev pub answer_of : {A B : Type 0} → (A → B) → Result (A × Cursor) Refusal → Parsed B
answer_of value (Ok (x, next)) = got (value x) next.at
answer_of value (Err x) = refusal x

-- u, k or v, a map byte, a table, a gate
abbrev pub step_answer : {A : Type 0} → Result (A × Cursor) Refusal → Parsed A
step_answer = answer_of (λ x. x)

-- an operand's wire number, an output's
abbrev pub wire_answer : Result (PlanWire × Cursor) Refusal → Parsed ℕ
wire_answer = answer_of (λ w. w.0)
