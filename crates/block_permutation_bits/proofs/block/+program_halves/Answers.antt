-- a level and its halves are a block
use mathlib.Core.Path.{◌≡◌, ◌∙◌}
use Prim.Native.Nat.{◌/◌}
use native.Mathlib.Omega.{arith}
use lib.ListN.{length}
use lib.Seq.{length-take-le}
use Rattle.block_loops.proofs.LevelsLaws.{level_buffers}
use Rattle.block_permutation_bits.proofs.HalvesLaws.{halves-fit, half-room, fits_at, upper-mapped, lower-mapped, halves-stored}
use Rattle.block_permutation_bits.proofs.block.+program_halves.Goals as goal

pub overflow_add-at_lower : goal.overflow_add-at_lower
overflow_add-at_lower t c =
    let r = c.requires in
    omega (arith, (halves-fit r.block_buffers r.has_halves r.level_bound c.permutation_count-part.ensures).lower_fits)

pub program_level-requires-clause-level_buffers : goal.program_level-requires-clause-level_buffers
program_level-requires-clause-level_buffers t c =
    let r = c.requires in
    level_buffers _ r.block_buffers (halves-fit r.block_buffers r.has_halves r.level_bound c.permutation_count-part.ensures).some

pub program_level-requires-clause-last_bound : goal.program_level-requires-clause-last_bound
program_level-requires-clause-last_bound t c =
    let r = c.requires in
    (halves-fit r.block_buffers r.has_halves r.level_bound c.permutation_count-part.ensures).level_fits

pub program_halves-requires : goal.program_halves-requires
program_halves-requires t c =
    let r = c.requires in
    let h = halves-fit r.block_buffers r.has_halves r.level_bound c.permutation_count-part.ensures in
    let s = c.split_at_mut-upper.ensures in (
      omega (arith, s.front_len),
      (
        upper-mapped r.perm h c.program_level.ensures s.front,
        (
          half-room h s.front_len (length-take-le _ _ (omega arith)) (length-take-le _ _ (omega arith)),
          (fits_at _ s.front_len h.upper_fits, omega (arith, s.front_len)),
        ),
      ),
    )

pub program_halves-requires-then-perm-gt8 : goal.program_halves-requires-then-perm-gt8
program_halves-requires-then-perm-gt8 t c =
    let r = c.requires in
    let h = halves-fit r.block_buffers r.has_halves r.level_bound c.permutation_count-part.ensures in
    let s = c.split_at_mut-upper.ensures in
    let used = c.program_halves.auto in
    let size : length c.split_at_mut-upper.result.1.now ≡ length c.args.perm.now / 2 = omega (arith, s.back_len, h.sizes.even, c.program_level.auto.scratch) in (
      omega (arith, size),
      (
        lower-mapped r.perm h c.program_level.ensures s.back,
        (
          half-room h size (used.scratch ∙ length-take-le _ _ (omega arith)) (used.mark ∙ length-take-le _ _ (omega arith)),
          (fits_at _ size h.lower_fits, omega (arith, size)),
        ),
      ),
    )

pub invariant_of-program_four : goal.invariant_of-program_four
invariant_of-program_four t c =
    let r = c.requires in
    let h = halves-fit r.block_buffers r.has_halves r.level_bound c.permutation_count-part.ensures in
    record { one_to_one = upper-mapped r.perm h c.program_level.ensures c.split_at_mut-upper.ensures.front }

pub program_four-requires : goal.program_four-requires
program_four-requires t c =
    let r = c.requires in
    let h = halves-fit r.block_buffers r.has_halves r.level_bound c.permutation_count-part.ensures in
    c.split_at_mut-upper.ensures.front_len ∙ h.four c.if-perm-gt8.false

pub invariant_of-program_four-else-perm-gt8 : goal.invariant_of-program_four-else-perm-gt8
invariant_of-program_four-else-perm-gt8 t c =
    let r = c.requires in
    let h = halves-fit r.block_buffers r.has_halves r.level_bound c.permutation_count-part.ensures in
    record { one_to_one = lower-mapped r.perm h c.program_level.ensures c.split_at_mut-upper.ensures.back }

pub program_four-requires-else-perm-gt8 : goal.program_four-requires-else-perm-gt8
program_four-requires-else-perm-gt8 t c =
    let r = c.requires in
    let h = halves-fit r.block_buffers r.has_halves r.level_bound c.permutation_count-part.ensures in
    let four = h.four c.if-perm-gt8.false in
    omega (arith, c.split_at_mut-upper.ensures.back_len, h.sizes.even, c.program_level.auto.scratch)

pub returns-then-perm-gt8 : goal.returns-then-perm-gt8
returns-then-perm-gt8 t c =
    let r = c.requires in
    let h = halves-fit r.block_buffers r.has_halves r.level_bound c.permutation_count-part.ensures in
    let s = c.split_at_mut-upper.ensures in
    halves-stored r.perm h c.program_level.ensures s.front s.back c.permutation_count-part.ensures c.program_halves.ensures c.program_halves-then-perm-gt8.ensures
    record { each = λ i. (c.type_inv.program i).fits }

pub returns-else-perm-gt8 : goal.returns-else-perm-gt8
returns-else-perm-gt8 t c =
    let r = c.requires in
    let h = halves-fit r.block_buffers r.has_halves r.level_bound c.permutation_count-part.ensures in
    let s = c.split_at_mut-upper.ensures in
    halves-stored r.perm h c.program_level.ensures s.front s.back c.permutation_count-part.ensures c.program_four.ensures c.program_four-else-perm-gt8.ensures
    record { each = λ i. (c.type_inv.program i).fits }
