-- One row more.
use Rattle.std.proofs.Common.{◌+◌, ◌-◌, ap, sym, subst, arith, ◌++◌}
use Rattle.fabric_table_checks.proofs.CountingLaws.{counted-first, counted-few}
use Rattle.fabric_run.specs.RunRows.{Runnable}
use Rattle.fabric_run.proofs.RunLaws.{start-room, stands-first, entries-read, row-ready, stands-more, stands-last}
use Rattle.fabric_run.proofs.running.run_rows.Goals as goal

pub start_wires-requires : goal.start_wires-requires
start_wires-requires c = start-room c.requires

pub loop-i-init : goal.loop-i-init
loop-i-init c =
    let a = c.args in
    let ready = subst (Runnable a.fabric.table.now (a.row.now ++ a.state.now)) (sym c.start_wires.auto.work) c.requires in
    let counted = counted-first a.fabric.table.now _ (ap (λ n. 1 + n) c.from.ensures) in
    stands-first a.fabric.table.now a.fabric.program.now (a.row.now ++ a.state.now) a.work.now _ _ ready counted c.start_wires.ensures

pub run_row-requires : goal.run_row-requires
run_row-requires c =
    let w = c.requires.well_formed.start in
    let entries = entries-read c.args.fabric.table.now c.loop-i.i c.row_start-at.result (c.row_start-at.result + 3 - c.row_start-at.result) c.row_start-at.ensures.0 (omega arith) (omega arith) in
    row-ready c.loop-i.invariant c.loop-i-test.true (omega (arith, c.type_inv.table 2)) entries

pub overflow_add-before-in-loop-i : goal.overflow_add-before-in-loop-i
overflow_add-before-in-loop-i c =
    omega (arith, counted-few c.requires.well_formed.start.inputs (omega (arith, c.type_inv.table 2)) c.loop-i.invariant.counted)

pub overflow_add-before-in-loop-i-2 : goal.overflow_add-before-in-loop-i-2
overflow_add-before-in-loop-i-2 c =
    omega (arith, counted-few c.requires.well_formed.start.inputs (omega (arith, c.type_inv.table 2)) c.loop-i.invariant.counted)

pub loop-i-preserved : goal.loop-i-preserved
loop-i-preserved c =
    let w = c.requires.well_formed.start in
    let entries = entries-read c.args.fabric.table.now c.loop-i.i c.row_start-at.result (c.row_start-at.result + 3 - c.row_start-at.result) c.row_start-at.ensures.0 (omega arith) (omega arith) in
    stands-more c.loop-i.invariant c.loop-i-test.true c.counts_of-own.result _ entries c.counts_of-own.ensures c.run_row.ensures

pub returns : goal.returns
returns c = stands-last c.args.work.now c.loop-i.invariant (omega arith) c.start_wires.ensures
