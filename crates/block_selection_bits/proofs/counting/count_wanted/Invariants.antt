use Rattle.block_networks.specs.Wanted.{mapping}
use Rattle.block_networks.specs.Selection.{wanting}
use Rattle.block_selection_bits.specs.Arrays.{PlacesHold}
use Rattle.block_selection_bits.proofs.counting.count_wanted.Given as goal

abbrev pub invariant-loop-input : goal.invariant-loop-input
invariant-loop-input l = PlacesHold (wanting (mapping l.wanted) l.input-index) l.counts
