-- P's checks pass, so that its call writes P.
use Rattle.std.proofs.Common.{refl, ◌∙◌, arith}
use Rattle.block_write_checks.proofs.WriteChecksLaws.{write_done}
use Rattle.block_networks.specs.Permutation.{permutation_outs}
use Rattle.block_permutation_rows.proofs.WriteLaws.{length-outs}
use Rattle.block_sizes.specs.Sizes.{level_of}
use lib.ListN.{length}
use Rattle.block_selection_rows.proofs.ChainLaws.{over-all}
use Rattle.block_selection_rows.proofs.BlockLaws.{call-succeeds, filled-over}
use Rattle.block_selection_rows.proofs.block.write_network.Goals as goal

pub unwrap-requires : goal.unwrap-requires
unwrap-requires c = call-succeeds c.write_permutation.result c.write_permutation.ensures.answered (write_done _ _ _ _ _ c.requires.passes)

pub returns-clause-rows_after : goal.returns-clause-rows_after
returns-clause-rows_after c = filled-over _ _ _ _ c.write_permutation.ensures.rows (write_done _ _ _ _ _ c.requires.passes)

pub returns-clause-to_after : goal.returns-clause-to_after
returns-clause-to_after c =
    let from = c.args.from.now in
    let long = length-outs (length from) from c.args.next.0 c.requires.passes.size refl in
    filled-over _ _ _ _ c.write_permutation.ensures.outputs (write_done _ _ _ _ _ c.requires.passes)
    ∙ over-all (permutation_outs (level_of (length from)) from c.args.next.0) c.args.to.now (omega (arith, long, c.requires.places))
