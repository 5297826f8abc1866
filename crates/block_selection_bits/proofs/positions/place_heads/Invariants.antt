-- The first inputs have their heads.
use Rattle.std.proofs.Common.{◌≡◌}
use Rattle.lists.specs.Lists.{list_of}
use Rattle.fault.specs.Buffers.{over}
use Rattle.block_selection_bits.specs.Arrays.{PlacesHold, head_by, head_input}
use Rattle.block_selection_bits.proofs.positions.place_heads.Given as goal

abbrev pub invariant-loop-j : goal.invariant-loop-j
invariant-loop-j l = record {
  head_is : l.head ≡ head_by l.counts l.j;
  headed : l.heads ≡ over (list_of l.j (head_by l.counts)) l.fn.heads;
  listed : PlacesHold (head_input l.counts l.j) l.list;
}
