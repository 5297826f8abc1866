-- The first spare bit that is set is refused.
use Rattle.std.proofs.Common.{◌≡◌, ◌∙◌, ◌+◌, ◌-◌, sym, ap, arith}
use lib.Dec.{eqb}
use native.Mathlib.Numerals.{add-one}
use borrow.Author.Tests.{eq-eqb, ne_eqb}
use Rattle.fault.specs.declared.Fault.{Fault}
use Rattle.fault.specs.Checks.{unless, first_of}
use Rattle.fault.proofs.ChecksLaws.{next-passes, first-fails}
use Rattle.blocks.specs.Elements.{bit_at}
use Rattle.fabric_run_checks.specs.RunFault.{given_program_fault}
use Rattle.fabric_run_checks.proofs.check_given_program.Goals as goal

pub loop-place-init : goal.loop-place-init
unfolding first_of
loop-place-init c = let z : c.args.bits - c.args.bits ≡ 0 = omega arith in rw z

pub returns-then-read_bit-ne0 : goal.returns-then-read_bit-ne0
unfolding given_program_fault
returns-then-read_bit-ne0 c =
    let a = c.args in
    let i = c.loop-place.place - a.bits in
    let at : a.bits + i ≡ c.loop-place.place = omega arith in
    let e = ap (λ t. unless t Fault.Program) (sym (ne_eqb _ 0 c.if-read_bit-ne0.true) ∙ ap (λ b. eqb b 0) (c.read_bit.ensures ∙ ap (bit_at a.program.now) (sym at))) in
    rw (eq-eqb _ _ (c.if-program-bytes.false ∙ c.bytes_for-bytes.ensures))
    (first-fails _ _ i _ (omega arith) c.loop-place.invariant e (omega arith))

pub loop-place-preserved : goal.loop-place-preserved
loop-place-preserved c =
    let a = c.args in
    let i = c.loop-place.place - a.bits in
    let at : a.bits + i ≡ c.loop-place.place = omega arith in
    let more : c.loop-place.place + 1 - a.bits ≡ i + 1 = omega arith in
    let e = ap (λ t. unless t Fault.Program) (ap (λ b. eqb b 0) (ap (bit_at a.program.now) at ∙ sym c.read_bit.ensures) ∙ eq-eqb _ 0 c.if-read_bit-ne0.false) in
    rw (more, add-one i) (next-passes _ i c.loop-place.invariant e)
