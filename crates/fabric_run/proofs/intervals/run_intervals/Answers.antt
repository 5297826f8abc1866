-- An interval more, from where the start state stands.
use Rattle.std.proofs.Common.{◌≡◌, ◌∙◌, ◌-◌, ap, sym, subst, refl, arith, rules, length}
use Rattle.fault.specs.Buffers.{over}
use Rattle.series.proofs.SeriesLaws.{series-first, series-last}
use Rattle.fabric_run.specs.Running.{run_wires, run_outputs}
use Rattle.fabric_run.specs.RunRows.{Runnable}
use Rattle.fabric_run.proofs.RunSeriesLaws.{run-contacts, interval_runnable, fresh_ends, start_fits, state-started, state-room, out_places, row_lent, interval_more, work-more}
use Rattle.fabric_run.proofs.intervals.run_intervals.Goals as goal

pub loop-t-init : goal.loop-t-init
loop-t-init c =
    let a = c.args in
    let w = c.requires.series_within in
    let started = state-started a.fabric.table.now a.fabric.program.now w a.end.now _ (c.copy_entries.ensures.whole (start_fits a.fabric.table.now a.fabric.program.now w a.end.now w.state_room)) w.state_room in
    (refl, series-first (run-contacts a.fabric.table.now a.fabric.program.now w) a.end.now w.state_room started a.results.now, refl)

pub slice_bounds-run_interval-end : goal.slice_bounds-run_interval-end
slice_bounds-run_interval-end c =
    fresh_ends c.args.fabric.table.now c.args.fabric.program.now c.requires.series_within c.loop-t.t c.loop-t-test.true (ap (λ n. n - c.args.series.hold) c.from.ensures)

pub run_interval-requires : goal.run_interval-requires
run_interval-requires c =
    let a = c.args in
    let w = c.requires.series_within in
    let t = c.loop-t.t in
    let now = c.loop-t.invariant.1 in
    let lent = row_lent a.fabric.table.now a.fabric.program.now w t c.loop-t-test.true (ap (λ n. n - a.series.hold) c.from.ensures) now in
    let runnable = interval_runnable a.fabric.table.now a.fabric.program.now w c.requires.well_formed {work = length c.loop-t.work}
    (omega (arith, c.requires.table_in_bounds, c.loop-t.auto.work)) t c.loop-t-test.true in
    record {
      runnable = subst (λ r. Runnable a.fabric.table.now r (length c.loop-t.work)) (sym lent) runnable;
      places_are = out_places a.fabric.table.now a.fabric.program.now w c.loop-t.results t c.loop-t-test.true c.from-outputs.ensures c.loop-t.invariant.0;
    }

pub loop-t-preserved : goal.loop-t-preserved
loop-t-preserved c =
    let a = c.args in
    let w = c.requires.series_within in
    let t = c.loop-t.t in
    let now = c.loop-t.invariant.1 in
    let lent = row_lent a.fabric.table.now a.fabric.program.now w t c.loop-t-test.true (ap (λ n. n - a.series.hold) c.from.ensures) now in
    let out = c.run_interval.ensures.out_after ∙ ap (run_outputs a.fabric.table.now a.fabric.program.now) lent in
    let work = c.run_interval.ensures.work_after ∙ ap (λ r. over (run_wires a.fabric.table.now a.fabric.program.now r) c.loop-t.work) lent in
    let more = interval_more a.fabric.table.now a.fabric.program.now w t c.loop-t-test.true c.from-outputs.ensures (omega arith) refl refl refl c.loop-t.invariant.0
    (state-room a.fabric.table.now a.fabric.program.now w a.end.now _ (c.copy_entries.ensures.whole (start_fits a.fabric.table.now a.fabric.program.now w a.end.now w.state_room))) c.loop-t.auto.end now out (c.copy_entries-in-loop-t.ensures.whole (search rules)) in
    (more.0 ∙ c.loop-t.invariant.0, more.1, work-more a.fabric.table.now a.fabric.program.now w a.work.now t c.loop-t-test.true c.loop-t.invariant.2 work)

pub returns-clause-end_after : goal.returns-clause-end_after
returns-clause-end_after c =
    let a = c.args in
    let w = c.requires.series_within in
    let started = state-started a.fabric.table.now a.fabric.program.now w a.end.now _ (c.copy_entries.ensures.whole (start_fits a.fabric.table.now a.fabric.program.now w a.end.now w.state_room)) w.state_room in
    let all : c.loop-t.t ≡ a.series.intervals = omega arith in
    series-last (run-contacts a.fabric.table.now a.fabric.program.now w) a.end.now w.state_room started (rw all at c.loop-t.invariant.1)
