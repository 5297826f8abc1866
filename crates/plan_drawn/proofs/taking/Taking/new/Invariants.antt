-- The first w wires have their numbers.
use Rattle.std.proofs.Common.{◌≡◌}
use Rattle.lists.specs.Lists.{list_of}
use Rattle.fault.specs.Buffers.{over}
use Rattle.plan_drawn.proofs.taking.Taking.new.Given as goal

abbrev pub invariant-loop-w : goal.invariant-loop-w
invariant-loop-w l = l.numbers ≡ over (list_of l.w (λ x. x)) l.initial.numbers
