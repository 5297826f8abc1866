-- Document 02, W1: reading a drawn plan. The file of a drawing is read first; then number 15, ring, or the plan that the drawing's order makes of it.
use Rattle.std.specs.Prelude.{ℕ, true, cond, List, [], eqb, length}
use Rattle.fault.specs.declared.Fault.{Fault}
use Rattle.plan.specs.declared.record.Plan.{Plan}
use Rattle.plan.specs.Record.{max_gates, places, zero_plan}
use Rattle.plan_fields.specs.Parsing.{Parsed, Step, got, refused, refuse, ◌>>=◌}
use Rattle.plan_reading.specs.PlanFile.{gate_steps, header_bytes, drawing_file}
use Rattle.plan_order.specs.Drawing.{drawn_order, drawn_left, ordered_plan, drawn_numbers}

-- the cursor behind what was parsed; a refusal's own offset
abbrev pub cursor_behind : {A : Type 0} → Parsed A → ℕ
cursor_behind (got x next) = next
cursor_behind (refused n at) = at

-- where the map byte of drawn gate g, counted from 0, stands in the file of a drawing with u inputs and k gates: behind the gates before it
unfoldable pub map_offset : ℕ → ℕ → ℕ → List ℕ → ℕ
map_offset u k g s = cursor_behind (gate_steps true u k g s header_bytes)

-- 15 where gates are left over, at the map byte of the lowest; otherwise the drawing
unfoldable pub no_cycle : Plan → Step Plan
no_cycle d s at =
    cond (eqb (length (drawn_order d)) d.gate_count)
    (got d at)
    (refuse Fault.Ring (map_offset d.inputs d.gate_count (drawn_left d) s))

-- the file of a drawing in which no gate is left over
unfoldable pub drawn_file : Step Plan
drawn_file = drawing_file >>= no_cycle

-- what drawn reading says: the refusal's number and offset with record and list all zero, or 0 and 0 with the plan and the drawn number at each place
pub record DrawnOutcome : Type 0 where
  pub number : ℕ
  pub at : ℕ
  pub plan : Plan
  pub drawn : List ℕ

-- what drawn reading says of what was parsed
abbrev pub drawn_outcome : Parsed Plan → DrawnOutcome
drawn_outcome (got d next) = record { number = 0; at = 0; plan = ordered_plan d; drawn = drawn_numbers d }
drawn_outcome (refused n at) = record { number = n; at = at; plan = zero_plan; drawn = places max_gates 0 [] }

-- reading a drawn plan
unfoldable pub drawn_read : List ℕ → DrawnOutcome
drawn_read s = drawn_outcome (drawn_file s 0)
