-- The output rows and the state of the first intervals stand in front of what the buffers held.
use Rattle.std.proofs.Common.{◌-◌}
use Rattle.series.proofs.SeriesLaws.{SeriesStands}
use Rattle.plan_evaluation.specs.Evaluation.{plan_outputs, gate_bit}
use Rattle.plan_evaluation.proofs.intervals.evaluate_intervals.Given as goal

abbrev pub invariant-loop-t : goal.invariant-loop-t
invariant-loop-t l =
    SeriesStands (plan_outputs 0 gate_bit l.fn.plan) (l.fn.plan.inputs - l.fn.series.hold) l.fn.series.hold l.fn.series.fresh.now l.fn.series.start.now
    l.fn.results l.fn.end l.t l.results l.end
