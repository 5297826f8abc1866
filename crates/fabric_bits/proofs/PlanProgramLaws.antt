-- After success the lent program begins with the plan's. Unused places of a plan never matter.
use mathlib.Core.Path.{◌≡◌}
use mathlib.Core.List.{List}
use Prim.Native.Nat.{ℕ}
use lib.ListN.{length, take, drop}
use lib.Seq.{take_at}
use Rattle.plan.specs.declared.record.Plan.{Plan}
use Rattle.plan.proofs.AgreeLaws.{Agree, same-fault}
use Rattle.fabric_universal.specs.Fabric.{plan_program}
use Rattle.fabric_universal.proofs.FabricLaws.{same_bits, length-plan_program}
use Rattle.fabric_sizes.specs.FabricChecks.{program_length, plan_program_fault}
use Rattle.fabric_bits.specs.ProgramCalls.{plan_program_result}

-- the program begins with the plan's
pub plan_programmed_read : (p : Plan) (program : List ℕ) → plan_program_fault p (length program) ≡ 0
    → take (program_length p) (plan_program_result p program) ≡ plan_program p
plan_programmed_read p program e =
    rw e (take_at (plan_program p) (drop (length (plan_program p)) program) (program_length p) (length-plan_program p))

-- plans that agree on their counts and used places get the same answer and program
pub same-program : (p q : Plan) → Agree p q → (program : List ℕ)
    → (plan_program_fault p (length program) ≡ plan_program_fault q (length program)) × (plan_program_result p program ≡ plan_program_result q program)
unfolding plan_program_fault plan_program
same-program p q same program =
    let fault = same-fault p q same in
    let bits = same_bits p q same in
    (cc, cc)
