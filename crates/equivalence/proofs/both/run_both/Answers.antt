-- The checks decide. Where none fails none of the four calls refuses, what the first two wrote is run, and the two results are equal.
use Rattle.std.proofs.Common.{sym, ap, ◌∙◌, get_or, arith, length-take}
use Rattle.equivalence.proofs.BothLaws.{both-passes, refused-same, both-same, made-demand, made_table, made-program, made_unrefused, made-work, made_evaluated, made-ran}
use Rattle.equivalence.proofs.both.run_both.Goals as goal

pub returns-in_err-write_fabric : goal.returns-in_err-write_fabric
returns-in_err-write_fabric c =
    let a = c.args in
    let made = made-demand a.plan a.row.now a.table.now a.program.now a.work.now a.evaluated.now a.ran.now (both-passes (sym c.in_ok-check_both.ensures)) in
    let refusal = rw (c.from.ensures, c.from-2.ensures, c.from-3.ensures) at c.in_err-write_fabric.ensures.answered in
    absurd (refused-same c.in_err-write_fabric.field-0.0 (refusal ∙ made.fabricates))

pub returns-in_err-program_plan : goal.returns-in_err-program_plan
returns-in_err-program_plan c =
    let a = c.args in
    let made = made-demand a.plan a.row.now a.table.now a.program.now a.work.now a.evaluated.now a.ran.now (both-passes (sym c.in_ok-check_both.ensures)) in
    absurd (refused-same c.in_err-program_plan.field-0.0 (c.in_err-program_plan.ensures.answered ∙ made.programs))

-- the buffers have kept their lengths
pub slice_bounds-run-end : goal.slice_bounds-run-end
slice_bounds-run-end c =
    omega (arith, c.lengths_of-lengths.ensures.table, (both-passes (sym c.in_ok-check_both.ensures)).rooms.table_room, c.write_fabric.auto.table)

pub slice_bounds-run-end-2 : goal.slice_bounds-run-end-2
slice_bounds-run-end-2 c =
    omega (
      arith,
      c.lengths_of-lengths.ensures.table,
      (both-passes (sym c.in_ok-check_both.ensures)).rooms.table_room,
      c.write_fabric.auto.table,
      length-take c.lengths_of-lengths.result.table c.write_fabric.new.table,
    )

pub slice_bounds-run-end-3 : goal.slice_bounds-run-end-3
slice_bounds-run-end-3 c =
    omega (arith, c.lengths_of-lengths.ensures.program, (both-passes (sym c.in_ok-check_both.ensures)).rooms.program_room, c.program_plan.auto.program)

pub slice_bounds-run-end-4 : goal.slice_bounds-run-end-4
slice_bounds-run-end-4 c =
    omega (
      arith,
      c.lengths_of-lengths.ensures.program,
      (both-passes (sym c.in_ok-check_both.ensures)).rooms.program_room,
      c.program_plan.auto.program,
      length-take c.lengths_of-lengths.result.program c.program_plan.new.program,
    )

pub returns-in_err-run : goal.returns-in_err-run
returns-in_err-run c =
    let a = c.args in
    let l = c.lengths_of-lengths.ensures in
    let passes = both-passes (sym c.in_ok-check_both.ensures) in
    let wrote = rw (c.from.ensures, c.from-2.ensures, c.from-3.ensures) at c.write_fabric.ensures.written in
    let unrefused = made_unrefused a.plan a.row.now a.table.now a.program.now a.work.now a.evaluated.now a.ran.now passes l.table l.program wrote c.program_plan.ensures.written in
    absurd (refused-same c.in_err-run.field-0.0 (c.in_err-run.ensures.answered ∙ unrefused))

pub returns : goal.returns
returns c =
    let a = c.args in
    let P = a.plan in
    let R = a.row.now in
    let T = a.table.now in
    let B = a.program.now in
    let W = a.work.now in
    let E = a.evaluated.now in
    let N = a.ran.now in
    let z = c.in_ok-check_both.ensures in
    let passes = both-passes (sym z) in
    let l = c.lengths_of-lengths.ensures in
    let wrote = rw (c.from.ensures, c.from-2.ensures, c.from-3.ensures) at c.write_fabric.ensures.written in
    let programmed = c.program_plan.ensures.written in
    let answered = c.evaluate.ensures.answered ∙ (made-demand P R T B W E N passes).evaluates in
    let evaluated = made_evaluated P R T B W E N passes c.evaluate.ensures.written in
    let ran = made-ran P R T B W E N passes l.table l.program wrote programmed c.run.ensures.written in
    let same = both-same P R E N passes.accepted passes.contact in
    record {
      answered = answered ∙ z;
      table = rw answered (made_table P R T B W E N passes wrote);
      program = rw answered (made-program P R T B W E N passes programmed);
      work = rw answered (made-work P R T B W E N passes l.table l.program wrote programmed c.run.ensures.worked);
      evaluated = rw answered evaluated;
      ran = rw answered ran;
      same = λ _ j h. ap (λ x. get_or x j 0) evaluated ∙ same j h ∙ sym (ap (λ x. get_or x j 0) ran);
    }
