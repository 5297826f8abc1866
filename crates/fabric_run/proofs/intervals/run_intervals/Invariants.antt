-- The output rows and the state of the first t intervals stand, and the wires of the last of them.
use Rattle.std.proofs.Common.{◌≡◌, ◌-◌, length}
use Rattle.fault.specs.Buffers.{over}
use Rattle.series.specs.Series.{of_last}
use Rattle.series.proofs.SeriesLaws.{SeriesStands}
use Rattle.fabric_sizes.specs.Layout.{inputs_in}
use Rattle.fabric_run.specs.Running.{run_wires, run_outputs}
use Rattle.fabric_run.proofs.intervals.run_intervals.Given as goal

abbrev pub invariant-loop-t : goal.invariant-loop-t
invariant-loop-t l =
    let step = run_outputs l.fabric.table.now l.fabric.program.now in
    let f = inputs_in l.fabric.table.now - l.series.hold in
    (length l.results ≡ length l.initial.results)
    × SeriesStands step f l.series.hold l.series.fresh.now l.series.start.now l.initial.results l.initial.end l.t l.results l.end
    × (l.work ≡ over (of_last step f l.series.hold l.series.fresh.now l.series.start.now (run_wires l.fabric.table.now l.fabric.program.now) l.t) l.initial.work)
