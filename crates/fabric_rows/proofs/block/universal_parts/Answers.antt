-- The parts of U follow each other, and make up its rows and wires.
use Rattle.std.proofs.Common.{refl, arith}
use Rattle.fabric_sizes.proofs.PartsLaws.{halved}
use Rattle.fabric_rows.proofs.BlockLaws.{part-wire, parts_at}
use Rattle.fabric_rows.proofs.block.universal_parts.Goals as goal

pub returns : goal.returns
returns c =
    let w = c.requires in
    let h = halved w.power w.some in
    let u = c.universal_counts-upper.ensures in
    let s = c.pin_counts-select.ensures in
    parts_at w h u s
    (record {
      pins_are = refl;
      upper_at = c.row_place.ensures;
      select_at = c.row_place-2.ensures;
      middle_at = rw (c.from-mixed.ensures) at c.row_place-3.ensures;
      select_from = part-wire w h u s _ _ (omega arith) c.plus.ensures;
      mix_from = part-wire w h u s _ _ (omega arith) c.plus-2.ensures;
      lower_from = part-wire w h u s _ _ (omega arith) (rw (c.from-mixed.ensures) at c.plus-3.ensures);
    })
