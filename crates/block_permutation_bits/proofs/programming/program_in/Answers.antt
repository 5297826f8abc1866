-- the loaded mapping's bits, stored in the part from the first bit's byte on, are the bits stored from the first bit on
use native.Mathlib.Omega.{arith}
use lib.ListN.{length}
use lib.Seq.{length-take-le}
use Rattle.block_bits.proofs.StoreLaws.{store_from_byte}
use Rattle.block_networks.specs.Wanted.{wanted_bits}
use Rattle.block_sizes.specs.Sizes.{level_of}
use Rattle.block_permutation_bits.proofs.ProgramLaws.{front-perm, front-stored, bits_fit}
use Rattle.block_permutation_bits.proofs.programming.program_in.Goals as goal

pub program_block-requires-clause-perm : goal.program_block-requires-clause-perm
program_block-requires-clause-perm g c = front-perm _ c.requires.size_is.1 c.load_mapping.ensures

pub program_block-requires-clause-level_bound : goal.program_block-requires-clause-level_bound
program_block-requires-clause-level_bound g c =
    bits_fit _ c.requires.size_is.0 (length-take-le _ _ (omega (arith, c.load_mapping.auto.perm))) (omega (arith, c.bit_place.ensures))

pub returns : goal.returns
returns g c =
    let a = c.args in
    store_from_byte a.program.now a.start (wanted_bits (level_of (length a.wanted.now)) a.wanted.now) c.bit_byte-byte.ensures c.bit_place.ensures
    (omega (arith, c.requires.n_bound)) (front-stored _ c.requires.size_is.1 c.load_mapping.ensures _ _ c.program_block.ensures)
