-- Document 01, "Program bits": the lent program after the call.
use Rattle.std.specs.Prelude.{List, ℕ, length}
use Rattle.fault.specs.Buffers.{filled}
use Rattle.plan.specs.declared.record.Plan.{Plan}
use Rattle.fabric_universal.specs.Fabric.{plan_program}
use Rattle.fabric_sizes.specs.FabricChecks.{plan_program_fault}

-- the lent program after the call
abbrev pub plan_program_result : Plan → List ℕ → List ℕ
plan_program_result p program = filled (plan_program_fault p (length program)) (plan_program p) program
