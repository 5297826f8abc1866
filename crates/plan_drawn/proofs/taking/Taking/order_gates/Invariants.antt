-- So many outputs stand in the plan and are counted; then all outputs, and so many gates.
use Rattle.plan_drawn.proofs.OrderingLaws.{OrderedSoFar}
use Rattle.plan_drawn.proofs.taking.Taking.order_gates.Given as goal

abbrev pub invariant-loop-j : goal.invariant-loop-j
invariant-loop-j l = OrderedSoFar l.self.drawing.now 0 l.j l.plan

abbrev pub invariant-loop-p : goal.invariant-loop-p
invariant-loop-p l = OrderedSoFar l.self.drawing.now l.p l.self.drawing.now.output_count l.plan
