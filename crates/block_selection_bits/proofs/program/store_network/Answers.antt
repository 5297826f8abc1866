-- P's checks pass, so that its call stores the bits.
use Rattle.std.proofs.Common.{◌∙◌}
use Rattle.block_selection_bits.proofs.PartsLaws.{network-done, network-stored}
use Rattle.block_selection_bits.proofs.program.store_network.Goals as goal

pub unwrap-requires : goal.unwrap-requires
unwrap-requires c = network-done c.program_permutation_at.result c.requires c.program_permutation_at.ensures.answered

pub returns : goal.returns
returns c = c.program_permutation_at.ensures.written ∙ network-stored c.args.program.now c.requires
