-- What the programs take and refuse. Document 01's bench sheet: a refused plan, or one above 64 gates, prints its number and its place.
use Rattle.std.specs.Prelude.{ℕ, zero, suc, cond, List, ◌++◌, ltb}
use Rattle.fault.specs.declared.Fault.{Fault}
use Rattle.fault.specs.Number.{fault_number}
use Rattle.plan.specs.Record.{zero_plan}
use Rattle.plan_reading.specs.PlanFile.{ReadOutcome, plan_read}
use Rattle.console.specs.Text.{ascii, named}

-- the most gates that a program takes
abbrev pub most_gates : ℕ
most_gates = 64

-- 11 at 0 for a plan of more gates
abbrev pub too_many_gates : ReadOutcome
too_many_gates = record { number = fault_number Fault.Short; at = 0; plan = zero_plan }

-- what was read, by its number: a fault of the file comes first
abbrev pub few_gates : ℕ → ReadOutcome → ReadOutcome
few_gates zero o = cond (ltb most_gates o.plan.gate_count) too_many_gates o
few_gates (suc n) o = o

-- the plan of a file that a program takes
unfoldable pub small_plan_read : List ℕ → ReadOutcome
small_plan_read file = few_gates (plan_read file).number (plan_read file)

-- the line of a refusal: its number and its place
abbrev pub refusal_line : ℕ → ℕ → List ℕ
refusal_line number at = named (ascii "refused ") number ++ named (ascii " at ") at ++ ascii "\n"
