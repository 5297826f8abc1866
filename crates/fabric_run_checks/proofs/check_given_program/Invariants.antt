-- The spare bits before the place are 0.
use Rattle.std.proofs.Common.{◌≡◌, ◌+◌, ◌-◌}
use lib.Dec.{eqb}
use Rattle.fault.specs.declared.Fault.{Fault}
use Rattle.fault.specs.Checks.{unless, first_of}
use Rattle.blocks.specs.Elements.{bit_at}
use Rattle.fabric_run_checks.proofs.check_given_program.Given as goal

abbrev pub invariant-loop-place : goal.invariant-loop-place
invariant-loop-place l = first_of (λ i. unless (eqb (bit_at l.program (l.bits + i)) 0) Fault.Program) (l.place - l.bits) ≡ 0
