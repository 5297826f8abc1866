-- The input rows, behind them the others, then the output wires.
use Rattle.std.proofs.Common.{refl}
use Rattle.block_permutation_rows.proofs.NetworkLaws.{outs-room, rows_written, wires-written}
use Rattle.block_permutation_rows.proofs.writing.write_from_inputs.Goals as goal

pub put_outs-requires : goal.put_outs-requires
put_outs-requires c = outs-room c.requires c.size_at-half.result c.write_inner-outs.result c.size_at-half.ensures.0 c.write_inner-outs.ensures.outs_at

pub returns : goal.returns
returns c =
    let a = c.args in
    record {
      rows_after = rows_written c.requires c.size_at-half.result c.row_place-inner.result a.inputs.now a.rows.now
          c.put_pairs.new.rows c.write_inner-outs.new.rows refl c.size_at-half.ensures.0 c.row_place-inner.ensures
          c.put_pairs.ensures c.write_inner-outs.ensures.rows_after;
      outputs_after = wires-written c.requires c.size_at-half.result c.write_inner-outs.result a.inputs.now a.outputs.now _
          c.size_at-half.ensures.0 c.write_inner-outs.ensures.outs_at c.put_outs.ensures;
    }
