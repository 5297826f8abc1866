-- One wire more has its number; then inputs alone have numbers.
use Rattle.std.proofs.Common.{◌≡◌, ◌+◌, suc, List, ℕ, replicate, refl, ◌∙◌, arith}
use Rattle.lists.specs.Lists.{list_of}
use Rattle.plan.specs.Record.{max_plan_wires}
use Rattle.fault.specs.Buffers.{over}
use Rattle.fault.proofs.BuffersLaws.{list-step}
use Rattle.plan_drawn.proofs.OrderingLaws.{started}
use Rattle.plan_drawn.proofs.taking.Taking.new.Goals as goal
use Rattle.plan_drawn.proofs.taking.Taking.new.Goals.{else-loop-w-test, then-loop-w-test+else-w-w-end}

pub loop-w-init : goal.loop-w-init
unfolding list_of
loop-w-init c = refl

pub loop-w-preserved : goal.loop-w-preserved
loop-w-preserved c = rw c.from.ensures (list-step _ c.loop-w.w (λ x. x) c.loop-w.invariant refl (omega (arith, c.requires.counts.inputs)))

pub returns : goal.returns
returns c =
    let inputs = c.args.drawing.now.inputs in
    let none : List ℕ = replicate (suc max_plan_wires) 0 in
    let written : c.loop-w-test.numbers ≡ over (list_of (suc inputs) (λ w. w)) none =
    elim c.loop-w-test.branch [
      | else-loop-w-test w ↦ absurd (omega arith)
      | then-loop-w-test+else-w-w-end w ↦
          let all : c.loop-w.w + 1 ≡ suc inputs = omega arith in
          w.numbers-is ∙ rw (w.from.ensures, ← all) (list-step none c.loop-w.w (λ x. x) c.loop-w.invariant refl (omega (arith, c.requires.counts.inputs)))
    ] in
    record { same = refl; started = started c.requires written }
