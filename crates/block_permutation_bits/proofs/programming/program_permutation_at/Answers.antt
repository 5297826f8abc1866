-- where no check fails, the inputs are wanted once and the bits fit
use mathlib.Core.Path.{◌∙◌}
use native.Mathlib.Omega.{arith}
use Rattle.block_networks.specs.Wanted.{wanted_bits}
use Rattle.block_sizes.specs.Sizes.{level_of}
use Rattle.block_program_checks.proofs.BitsLaws.{stored-done}
use Rattle.block_permutation_bits.proofs.ProgramLaws.{wanted-passes}
use Rattle.block_permutation_bits.proofs.programming.program_permutation_at.Goals as goal

pub program_wanted-requires-clause-size_is : goal.program_wanted-requires-clause-size_is
program_wanted-requires-clause-size_is c = let h = wanted-passes c.in_ok-check_permutation.ensures in (h.size_is, h.wanted_once)

pub program_wanted-requires-clause-n_bound : goal.program_wanted-requires-clause-n_bound
program_wanted-requires-clause-n_bound c = omega (arith, (wanted-passes c.in_ok-check_permutation.ensures).fits)

pub returns-clause-written : goal.returns-clause-written
returns-clause-written c =
    let a = c.args in
    let stored = rw (wanted-passes c.in_ok-check_permutation.ensures).sized at c.program_wanted.ensures in
    stored ∙ stored-done _ a.start (wanted_bits (level_of a.n) a.wanted.now) a.program.now c.in_ok-check_permutation.ensures
