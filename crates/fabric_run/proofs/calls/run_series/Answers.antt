-- Where no check fails the intervals are run.
use Rattle.std.proofs.Common.{sym}
use Rattle.fabric_run.proofs.RunCallsLaws.{run-series-passes}
use Rattle.fabric_run.proofs.calls.run_series.Goals as goal

pub run_intervals-requires : goal.run_intervals-requires
run_intervals-requires c =
    let passes = run-series-passes c.args.program.now (sym c.in_ok-check_run_series.ensures) in
    record { well_formed = passes.well_formed; series_within = passes.within; table_in_bounds = passes.wires }
