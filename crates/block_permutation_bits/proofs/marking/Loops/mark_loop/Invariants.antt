-- the walk has come to o after j steps, is not back yet, and has marked what it passed
use Rattle.std.proofs.Common.{ℕ}
use Rattle.block_loops.proofs.MarkingLaws.{Walked}
use Rattle.block_permutation_bits.proofs.WalkLaws.{walk_left}
use Rattle.block_permutation_bits.proofs.marking.Loops.mark_loop.Given as goal

abbrev pub invariant-loop-o : goal.invariant-loop-o
invariant-loop-o l = (j : ℕ) × Walked l.self.inputs.now l.self.outputs.now l.i l.initial.mark l.mark l.o j

abbrev pub decreases-loop-o : goal.decreases-loop-o
decreases-loop-o l = walk_left l.self.inputs.now l.self.outputs.now l.i l.o
