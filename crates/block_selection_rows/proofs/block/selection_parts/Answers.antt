-- The chain follows the first P, and the second P the chain. P has few rows.
use Rattle.std.proofs.Common.{◌+◌, ◌-◌, ◌*◌, ◌^◌, ◌<◌, arith}
use Rattle.block_networks.specs.Selection.{whole_count, whole_wires}
use Rattle.block_selection_rows.proofs.BlockLaws.{wire_later}
use Rattle.block_selection_rows.proofs.block.selection_parts.Goals as goal

pub returns : goal.returns
unfolding whole_count whole_wires
returns c =
    let count = c.permutation_count-count.result in
    let next = c.args.next.0 in
    let size = c.requires.size.power in
    let e = c.permutation_count-count.ensures in
    let small : next < 2 ^ 32 = omega arith in
    let chain = wire_later c.requires small (2 * count) (omega (arith, e)) in
    let second = wire_later c.requires small (2 * count + (c.args.size - 1)) (omega (arith, e, size)) in
    record {
      chain_at = omega arith;
      second_at = omega arith;
      chain_from = omega arith;
      second_from = omega arith;
      whole = omega arith;
    }
