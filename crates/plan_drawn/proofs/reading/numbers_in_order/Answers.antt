-- One place more has its number.
use Rattle.std.proofs.Common.{refl, suc, arith}
use Rattle.lists.specs.Lists.{list_of}
use Rattle.plan.specs.Record.{max_gates, places}
use Rattle.plan_drawn.proofs.OrderingLaws.{places-step}
use Rattle.plan_drawn.proofs.reading.numbers_in_order.Goals as goal

pub loop-g-init : goal.loop-g-init
unfolding list_of places
loop-g-init c = refl

pub loop-g-preserved : goal.loop-g-preserved
loop-g-preserved c = places-step max_gates 0 suc c.loop-g.g c.loop-g.invariant c.drawn_number.ensures (omega arith)
