-- The plan file in the two parts that the code reads one after the other: the header, and the body.
use Rattle.std.specs.Prelude.{ℕ, Bool}
use Rattle.fault.specs.declared.Fault.{Fault}
use Rattle.plan.specs.declared.record.Plan.{Plan}
use Rattle.plan.specs.Record.{max_inputs, max_gates, max_outputs, plan_of}
use Rattle.plan_fields.specs.Parsing.{Step, ◌>>=◌, pure}
use Rattle.plan_fields.specs.Fields.{count_field}
use Rattle.plan_reading.specs.PlanFile.{not_stub, at_end, gate_steps, output_steps}

-- the three counts of a file that is long enough for them
unfoldable pub header_part : Step (ℕ × ℕ × ℕ)
header_part =
    not_stub >>= λ _.
    count_field max_inputs Fault.Inputs >>= λ u.
    count_field max_gates Fault.Gates >>= λ k.
    count_field max_outputs Fault.Outputs >>= λ v.
    pure (u, k, v)

-- the gates, the outputs and the end of a file with these counts, of a plan or of a drawing
unfoldable pub body_part : Bool → ℕ → ℕ → ℕ → Step Plan
body_part drawn u k v =
    gate_steps drawn u k k >>= λ gs.
    output_steps u k v >>= λ os.
    at_end >>= λ _.
    pure (plan_of u k v gs os)
