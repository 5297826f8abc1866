-- Document 01, "The plan", and document 02, W1: the file of a plan or of a drawing, and the order of checks in reading.
use Rattle.std.specs.Prelude.{ℕ, Bool, true, false, cond, List, ltb, length}
use Rattle.fault.specs.declared.Fault.{Fault}
use Rattle.plan.specs.declared.record.Gate.{Gate}
use Rattle.plan.specs.declared.record.Plan.{Plan}
use Rattle.plan.specs.declared.record.PlanWire.{PlanWire}
use Rattle.plan.specs.Record.{max_inputs, max_gates, max_outputs, wire, gate_wire, plan_of, zero_plan}
use Rattle.plan_fields.specs.Parsing.{Parsed, Step, got, refused, refuse, ◌>>=◌, pure, in_order}
use Rattle.plan_fields.specs.Fields.{count_field, output_field, gate_step_within}

-- the bound of the operands of gate i, counted from 0, with u inputs and k gates: its own wire; in a drawing (document 02, W1) the wire after the
-- last, so that an operand may be any wire from 1 to u + k
abbrev pub operand_bound : Bool → ℕ → ℕ → ℕ → ℕ
operand_bound drawn u k i = gate_wire u (cond drawn k i)

-- the first n gates of a plan, or of a drawing, with u inputs and k gates; gate i, counted from 0, has the wire u + i + 1
abbrev pub gate_steps : Bool → ℕ → ℕ → ℕ → Step (List Gate)
gate_steps drawn u k n = in_order (λ i. gate_step_within (operand_bound drawn u k i) (gate_wire u i)) n

-- an output of a plan with u inputs and k gates
abbrev pub output_step : ℕ → ℕ → Step PlanWire
output_step u k = output_field u k >>= λ w. pure (wire w)

-- the v outputs of a plan with u inputs and k gates
abbrev pub output_steps : ℕ → ℕ → ℕ → Step (List PlanWire)
output_steps u k v = in_order (λ _. output_step u k) v

-- the bytes of u, k and v
abbrev pub header_bytes : ℕ
header_bytes = 6

-- 1: a file below 6 bytes, at offset 0
unfoldable pub not_stub : Step Unit
not_stub s at = cond (ltb (length s) header_bytes) (refuse Fault.Stub 0) (got tt at)

-- 10: bytes after the last output, at the first of them
unfoldable pub at_end : Step Unit
at_end s at = cond (ltb at (length s)) (refuse Fault.Tail at) (got tt at)

-- the whole file of a plan, or of a drawing
unfoldable pub whole_file : Bool → Step Plan
whole_file drawn =
    not_stub >>= λ _.
    count_field max_inputs Fault.Inputs >>= λ u.
    count_field max_gates Fault.Gates >>= λ k.
    count_field max_outputs Fault.Outputs >>= λ v.
    gate_steps drawn u k k >>= λ gs.
    output_steps u k v >>= λ os.
    at_end >>= λ _.
    pure (plan_of u k v gs os)

-- the file of a plan
abbrev pub plan_file : Step Plan
plan_file = whole_file false

-- the file of a drawing: the same bytes, with the drawing's bound
abbrev pub drawing_file : Step Plan
drawing_file = whole_file true

-- what reading says: the refusal's number and offset with the all-zero record, or 0 and 0 with the plan
pub record ReadOutcome : Type 0 where
  pub number : ℕ
  pub at : ℕ
  pub plan : Plan

-- what reading says of what was parsed
abbrev pub parsed_outcome : Parsed Plan → ReadOutcome
parsed_outcome (got p next) = record { number = 0; at = 0; plan = p }
parsed_outcome (refused n at) = record { number = n; at = at; plan = zero_plan }

-- reading a file
unfoldable pub plan_read : List ℕ → ReadOutcome
plan_read s = parsed_outcome (plan_file s 0)

-- reading the drawing that a file holds
unfoldable pub drawing_read : List ℕ → ReadOutcome
drawing_read s = parsed_outcome (drawing_file s 0)
