-- The inputs' and the first gates' bits stand on the wires; then the first outputs' bits stand in the results.
use Rattle.std.proofs.Common.{◌≡◌, ◌++◌}
use Rattle.lists.specs.Lists.{list_of}
use Rattle.fault.specs.Buffers.{over}
use Rattle.plan.specs.Record.{output_at}
use Rattle.plan_evaluation.specs.Evaluation.{value_on, plan_wires, gate_bit}
use Rattle.plan_evaluation.proofs.intervals.evaluate_row.Given as goal

abbrev pub invariant-loop-i : goal.invariant-loop-i
invariant-loop-i l = l.wires ≡ over (plan_wires 0 gate_bit l.fn.plan (l.fn.fresh ++ l.fn.state) l.i) l.fn.wires

abbrev pub invariant-loop-j : goal.invariant-loop-j
invariant-loop-j l = l.results ≡ over (list_of l.j (λ j. value_on 0 l.wires (output_at l.fn.plan j))) l.fn.results
