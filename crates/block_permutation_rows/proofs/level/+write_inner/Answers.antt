-- The steps of a level write what its definition says.
use Rattle.std.proofs.Common.{arith}
use Rattle.block_permutation_rows.proofs.LevelsLaws.{level-written}
use Rattle.block_permutation_rows.proofs.level.+write_inner.Goals as goal

pub returns : goal.returns
returns t c =
    let w =
    level-written c.args.n c.args.next.0 (omega arith) c.level_parts-parts.result c.level_parts-parts.ensures
    c.write_inner-above.result c.write_inner-below.result c.args.rows.now c.put_rising.new.rows
    c.write_inner-above.new.rows c.put_rising-2.new.rows c.write_inner-below.new.rows c.join_halves.new.rows c.requires.room
    (record {
      inputs = c.put_rising.ensures;
      upper_rows = c.write_inner-above.ensures.rows_after;
      upper_wires = c.write_inner-above.ensures.outs_at;
      lower_inputs = c.put_rising-2.ensures;
      lower_rows = c.write_inner-below.ensures.rows_after;
      lower_wires = c.write_inner-below.ensures.outs_at;
      output_rows = c.join_halves.ensures;
    }) in
    record { rows_after = w.rows; outs_at = w.wires }
