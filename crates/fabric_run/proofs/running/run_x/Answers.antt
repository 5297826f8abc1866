-- Its bit chooses the wire of each output.
use Rattle.std.proofs.Common.{arith}
use Rattle.blocks.proofs.ElementsLaws.{bit_at_lt}
use Rattle.fabric_run.specs.RunRows.{left_of, right_of}
use Rattle.fabric_run.proofs.RowLaws.{chosen-fits, x-done}
use Rattle.fabric_run.proofs.running.run_x.Goals as goal

pub chosen-requires : goal.chosen-requires
chosen-requires c = (c.requires.entries, omega (arith, c.read_bit-b.ensures, bit_at_lt c.args.program.now c.args.before.bits))

pub bounds-work-chosen : goal.bounds-work-chosen
bounds-work-chosen c = chosen-fits _ _ c.requires c.chosen.ensures

pub overflow_sub-b : goal.overflow_sub-b
overflow_sub-b c = omega (arith, c.read_bit-b.ensures, bit_at_lt c.args.program.now c.args.before.bits)

pub bounds-work-chosen-2 : goal.bounds-work-chosen-2
bounds-work-chosen-2 c = chosen-fits _ _ c.requires c.chosen-2.ensures

pub returns : goal.returns
returns c =
    let a = c.args in
    x-done a.program.now a.work.now a.before (left_of a.row.now) (right_of a.row.now) _ _ _
    (omega (arith, c.read_bit-b.ensures, bit_at_lt a.program.now a.before.bits)) c.read_bit-b.ensures c.chosen.ensures c.chosen-2.ensures
