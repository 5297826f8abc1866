-- An interval finds its row, its outputs are written behind those before it, and the last of them are held.
use Rattle.std.proofs.Common.{◌≡◌, ◌++◌, drop, refl, sym, ap, ◌∙◌, arith, rules, length-take}
use Rattle.series.specs.Series.{state_after, series_rows}
use Rattle.plan_evaluation.proofs.IntervalsLaws.{start-size, results-long, fresh-end, rows-end, row-within, interval-more}
use Rattle.plan_evaluation.proofs.intervals.evaluate_intervals.Goals as goal

pub loop-t-init : goal.loop-t-init
unfolding state_after series_rows
loop-t-init c =
    let size = start-size c.args.plan.now c.args.results.now c.args.end.now c.requires.accepted c.requires.series_within in
    let room = c.requires.series_within.state_room in
    let copied = c.copy_entries.ensures.whole (omega (arith, length-take c.args.series.hold c.args.end.now)) in
    record {
      rows = refl;
      state =
          ap (λ s. s ++ drop c.args.series.hold c.args.end.now) copied
          ∙ ap (λ n. c.args.series.start.now ++ drop n c.args.end.now) (sym size);
    }

pub slice_bounds-fresh-end : goal.slice_bounds-fresh-end
slice_bounds-fresh-end c =
    let e = fresh-end c.args.plan.now c.args.results.now c.args.end.now c.requires.accepted c.requires.series_within c.loop-t.invariant c.loop-t-test.true in rw c.from.ensures e

pub slice_bounds-evaluate_row-end-in-loop-t-2 : goal.slice_bounds-evaluate_row-end-in-loop-t-2
slice_bounds-evaluate_row-end-in-loop-t-2 c =
    let e = rows-end c.args.plan.now c.args.results.now c.args.end.now c.requires.accepted c.requires.series_within c.loop-t.invariant c.loop-t-test.true in rw c.from-outputs.ensures e

pub evaluate_row-requires-clause-within : goal.evaluate_row-requires-clause-within
evaluate_row-requires-clause-within c =
    rw c.from.ensures (row-within c.args.plan.now c.args.results.now c.args.end.now c.requires.accepted c.requires.series_within c.loop-t.invariant c.loop-t-test.true)

pub loop-t-preserved : goal.loop-t-preserved
loop-t-preserved c =
    let room = c.requires.series_within.state_room in
    let copied = c.copy_entries-in-loop-t.ensures.whole (search rules) in
    let more = interval-more c.args.plan.now c.args.results.now c.args.end.now c.requires.accepted c.requires.series_within c.loop-t.invariant c.loop-t-test.true {out = c.evaluate_row.new.results} {last = c.copy_entries-in-loop-t.new.to} in
    rw c.from-outputs.ensures (more (rw c.from.ensures at c.evaluate_row.ensures) (rw c.from-outputs.ensures at copied))

pub shape_of-results : goal.shape_of-results
shape_of-results c =
    results-long c.args.plan.now c.args.results.now c.args.end.now c.requires.accepted c.requires.series_within c.loop-t.invariant c.loop-t.auto.t-end

-- the series after the last interval
pub returns-clause-results_after : goal.returns-clause-results_after
returns-clause-results_after c =
    let all : c.loop-t.t ≡ c.args.series.intervals = omega arith in
    rw all at c.loop-t.invariant.rows

pub returns-clause-end_after : goal.returns-clause-end_after
returns-clause-end_after c =
    let all : c.loop-t.t ≡ c.args.series.intervals = omega arith in
    rw all at c.loop-t.invariant.state
