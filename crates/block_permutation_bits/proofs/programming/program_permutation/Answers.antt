-- where no check fails, the inputs are wanted once, and the bits are stored in zeroed bytes
use mathlib.Core.Path.{sym, ap, ◌∙◌}
use native.Mathlib.Omega.{arith}
use lib.ListN.{length}
use Rattle.fault.proofs.BuffersLaws.{is-filled}
use Rattle.block_elements.specs.Bits.{bytes_for}
use Rattle.block_bits.proofs.StoreLaws.{store_cleared}
use Rattle.block_networks.specs.Wanted.{wanted_bits}
use Rattle.block_networks.proofs.WantedLaws.{length-wanted_bits}
use Rattle.block_sizes.specs.Sizes.{level_of}
use Rattle.block_program_checks.proofs.ChecksLaws.{fault-at}
use Rattle.block_permutation_bits.proofs.ProgramLaws.{wanted-passes}
use Rattle.block_permutation_bits.proofs.programming.program_permutation.Goals as goal

pub program_wanted-requires-clause-size_is : goal.program_wanted-requires-clause-size_is
program_wanted-requires-clause-size_is c = let h = wanted-passes c.in_ok-check_permutation.ensures in (h.size_is, h.wanted_once)

pub program_wanted-requires-clause-n_bound : goal.program_wanted-requires-clause-n_bound
program_wanted-requires-clause-n_bound c = omega (arith, (wanted-passes c.in_ok-check_permutation.ensures).fits, c.fill_bytes.auto.bytes)

pub returns-clause-written : goal.returns-clause-written
returns-clause-written c =
    let a = c.args in
    let h = wanted-passes c.in_ok-check_permutation.ensures in
    let fits = rw h.sized at h.fits in
    let stored = rw h.sized at c.program_wanted.ensures in
    let size = c.bytes_for.ensures ∙ ap bytes_for (c.permutation_count.ensures ∙ sym (length-wanted_bits (level_of a.n) a.wanted.now)) in
    is-filled _ _ _ _
    (store_cleared (wanted_bits (level_of a.n) a.wanted.now) a.program.now size (omega (arith, c.permutation_count.ensures, c.bytes_for.ensures, fits))
    c.fill_bytes.ensures stored)
    (c.in_ok-check_permutation.ensures ∙ fault-at a.n a.wanted.now (length a.program.now))
