use Rattle.block_permutation_rows.proofs.level.+write_inner.Given as goal

abbrev pub decreases-write_inner : goal.decreases-write_inner
decreases-write_inner l = l.n
