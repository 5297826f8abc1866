-- The inputs so far are distinct, and the marks say which they are.
use Rattle.std.proofs.Common.{◌≡◌, length}
use Rattle.block_program_checks.specs.Checks.{first_source, is_new, Marked}
use Rattle.block_program_checks.proofs.permutation.check_once_in.Given as goal

abbrev pub invariant-loop-input : goal.invariant-loop-input
invariant-loop-input g l = (first_source (is_new l.wanted) l.input-index ≡ 0) × (Marked l.wanted l.input-index l.came) × (length l.came ≡ g.row.N)
