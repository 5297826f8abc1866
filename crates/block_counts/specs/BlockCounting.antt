-- Document 01, block library: the counts of P(N), N log N - N + 1 rows with a bit and two wires each, and of S(m, n); 2, and for S 4.
use Rattle.std.specs.Prelude.{ℕ, ◌*◌}
use Rattle.fault.specs.declared.Fault.{Fault}
use Rattle.fault.specs.Checks.{unless}
use Rattle.elements.specs.Elements.{CountOutcome, counts_unless}
use Rattle.block_networks.specs.Permutation.{permutation_count}
use Rattle.block_networks.specs.Selection.{selection_count, selection_wires}
use Rattle.block_sizes.specs.Sizes.{size_allowed, level_of, selection_sizes_fault}

abbrev pub permutation_counting : ℕ → CountOutcome
permutation_counting N =
    let rows : ℕ = permutation_count (level_of N) in
    counts_unless (unless (size_allowed N) Fault.Inputs) rows (2 * rows) rows

abbrev pub selection_counting : ℕ → ℕ → CountOutcome
selection_counting m n = counts_unless (selection_sizes_fault m n) (selection_count m n) (selection_wires m n) (selection_count m n)
