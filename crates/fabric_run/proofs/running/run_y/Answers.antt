-- Its bit chooses the wire.
use Rattle.std.proofs.Common.{arith}
use Rattle.blocks.proofs.ElementsLaws.{bit_at_lt}
use Rattle.fabric_run.specs.RunRows.{left_of, right_of}
use Rattle.fabric_run.proofs.RowLaws.{chosen-fits, y-done}
use Rattle.fabric_run.proofs.running.run_y.Goals as goal

pub chosen-requires : goal.chosen-requires
chosen-requires c = (c.requires.entries, omega (arith, c.read_bit-b.ensures, bit_at_lt c.args.program.now c.args.before.bits))

pub bounds-work-chosen : goal.bounds-work-chosen
bounds-work-chosen c = chosen-fits _ _ c.requires c.chosen.ensures

pub returns : goal.returns
returns c =
    let a = c.args in
    y-done a.program.now a.work.now a.before (left_of a.row.now) (right_of a.row.now) _ _ c.read_bit-b.ensures c.chosen.ensures
