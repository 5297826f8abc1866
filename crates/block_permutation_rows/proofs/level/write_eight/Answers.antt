-- The steps of a level whose halves are P(4).
use Rattle.block_permutation_rows.proofs.LevelsLaws.{eight-written}
use Rattle.block_permutation_rows.proofs.level.write_eight.Goals as goal

pub returns : goal.returns
returns c =
    let w =
    eight-written c.args.next.0 c.write_four-above.result c.write_four-below.result c.args.rows.now c.put_rising.new.rows
    c.write_four-above.new.rows c.put_rising-2.new.rows c.write_four-below.new.rows c.join_halves.new.rows c.requires
    (record {
      inputs = c.put_rising.ensures;
      upper_rows = c.write_four-above.ensures.rows_after;
      upper_wires = c.write_four-above.ensures.outs_at;
      lower_inputs = c.put_rising-2.ensures;
      lower_rows = c.write_four-below.ensures.rows_after;
      lower_wires = c.write_four-below.ensures.outs_at;
      output_rows = c.join_halves.ensures;
    }) in
    record { rows_after = w.rows; outs_at = w.wires }
