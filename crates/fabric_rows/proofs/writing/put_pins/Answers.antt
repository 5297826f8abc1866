-- S on the wires 1 to u.
use Rattle.std.proofs.Common.{refl}
use Rattle.fabric_rows.proofs.WritingLaws.{pins-put}
use Rattle.fabric_rows.proofs.writing.put_pins.Goals as goal

pub returns : goal.returns
returns c =
    let w = rw (c.from-2.ensures) at c.write_selection_on.ensures in
    let put = pins-put _ c.args.rows.now c.args.pins.now c.requires refl (rw (c.from.ensures) at c.put_wires.ensures) (w.rows, w.to) in
    record { rows_after = put.0; pins_after = put.1 }
