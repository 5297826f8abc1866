-- So many turns are done, their gates have their numbers and stand in the list of drawn numbers, and below `low` all gates are taken.
use Rattle.std.proofs.Common.{◌≡◌}
use Rattle.plan_drawn.proofs.TakingLaws.{Turns}
use Rattle.plan_drawn.proofs.taking.Taking.take_gates.Given as goal

abbrev pub invariant-loop-taken : goal.invariant-loop-taken
invariant-loop-taken l = record {
  same : l.self.drawing.now ≡ l.fn.self.drawing.now;
  turns : Turns l.fn.self.drawing.now l.self.numbers l.self.drawn l.taken l.low;
}
