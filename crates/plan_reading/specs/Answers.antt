-- What the reading calls hand back says, in document 01's numbers and values.
use Rattle.std.specs.Prelude.{ℕ, Result, Ok, Err}
use Rattle.fault.specs.Number.{fault_number}
use Rattle.fault.specs.declared.Refusal.{Refusal}
use Rattle.plan.specs.declared.counts.PlanCounts.{PlanCounts}
use Rattle.plan.specs.declared.record.Plan.{Plan}
use Rattle.plan.specs.Record.{zero_plan}
use Rattle.plan_fields.specs.declared.cursor.Cursor.{Cursor}
use Rattle.plan_fields.specs.Parsing.{Parsed}
use Rattle.plan_fields.specs.Answers.{answer_of}
use Rattle.plan_reading.specs.PlanFile.{ReadOutcome}

-- u, k and v with the next cursor, or the refusal
abbrev pub header_answer : Result (PlanCounts × Cursor) Refusal → Parsed (ℕ × ℕ × ℕ)
header_answer = answer_of (λ c. (c.inputs, c.gates, c.outputs))

-- what reading handed back: 0 at 0 with the plan, or the refusal's number and offset with the all-zero record
abbrev pub read_outcome : Result Plan Refusal → ReadOutcome
read_outcome (Ok p) = record { number = 0; at = 0; plan = p }
read_outcome (Err x) = record { number = fault_number x.fault; at = x.at; plan = zero_plan }
