-- The first g places have their numbers.
use Rattle.std.proofs.Common.{◌≡◌, suc}
use Rattle.lists.specs.Lists.{list_of}
use Rattle.plan.specs.Record.{max_gates, places}
use Rattle.plan_drawn.proofs.reading.numbers_in_order.Given as goal

abbrev pub invariant-loop-g : goal.invariant-loop-g
invariant-loop-g l = l.drawn ≡ places max_gates 0 (list_of l.g suc)
