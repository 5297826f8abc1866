-- The parts of a level follow each other, and make up its rows.
use Rattle.std.proofs.Common.{arith}
use Rattle.block_sizes.proofs.SizesLaws.{power_small}
use Rattle.block_permutation_rows.proofs.HalvesLaws.{sized-at}
use Rattle.block_permutation_rows.proofs.level.level_parts.Goals as goal

pub returns : goal.returns
returns c =
    let z = sized-at c.args.n c.size_at-inputs.result c.requires.0 c.size_at-inputs.ensures.0 in
    record {
      half_is = omega arith;
      inputs_are = c.size_at-inputs.ensures.0;
      double = omega arith;
      some = omega arith;
      small = omega (arith, power_small c.args.n (omega arith));
      whole = z.whole;
      upper_at = omega arith;
      lower_at = omega arith;
      lower_inner_at = omega arith;
      outputs_at = omega arith;
      few = omega arith;
      upper_from = omega arith;
      lower_from = omega arith;
      output_from = omega arith;
      wires = omega arith;
    }
