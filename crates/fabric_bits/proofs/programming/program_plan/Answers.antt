-- The checks decide, and where none fails the plan's bits are stored in zeroed bytes.
use Rattle.std.proofs.Common.{sym, ap, ◌∙◌, arith}
use Rattle.fault.proofs.BuffersLaws.{filled-done}
use Rattle.blocks.specs.Elements.{bytes_for, store_bits}
use Rattle.blocks.proofs.ElementsLaws.{store_zeroed, bytes-filled}
use Rattle.fabric_universal.specs.Fabric.{plan_bits, plan_program}
use Rattle.fabric_universal.proofs.FabricLaws.{length-plan_bits}
use Rattle.fabric_sizes.proofs.FabricChecksLaws.{plan-program-passes}
use Rattle.fabric_bits.proofs.programming.program_plan.Goals as goal

pub store_plan-requires : goal.store_plan-requires
store_plan-requires c =
    let (none, measured) = c.in_ok-length.ensures in
    let h = plan-program-passes _ _ (sym none) in
    record { accepted = h.accepted; fits = omega (arith, h.fits, c.fill_bytes.auto.bytes) }

pub returns-clause-written : goal.returns-clause-written
unfolding plan_program
returns-clause-written c =
    let (none, measured) = c.in_ok-length.ensures in
    let a = c.args in
    let h = plan-program-passes _ _ (sym none) in
    let bits = plan_bits a.plan in
    let bytes = ap bytes_for (length-plan_bits a.plan) ∙ sym measured in
    c.store_plan.ensures ∙ ap (λ s. store_bits s 0 bits) (c.fill_bytes.ensures ∙ bytes-filled c.in_ok-length.length 0 a.program.now (omega (arith, h.fits, measured)))
    ∙ store_zeroed bits a.program.now _ bytes ∙ filled-done _ _ _ none
