-- The first outputs have their positions, and each input's place in `heads` has that of its next copy. Past the wanted outputs each has its own.
use Rattle.std.proofs.Common.{◌≡◌, length}
use Rattle.fault.specs.Buffers.{over}
use Rattle.block_networks.specs.Wanted.{mapping, wanted_of}
use Rattle.block_networks.specs.Selection.{copy_of}
use Rattle.block_selection_bits.specs.Arrays.{NextCopies}
use Rattle.block_selection_bits.proofs.copies.list_copies.Given as goal

abbrev pub invariant-loop-o : goal.invariant-loop-o
invariant-loop-o l = record {
  copies : NextCopies l.wanted l.o l.heads;
  listed : l.list ≡ over (wanted_of l.o (copy_of (mapping l.wanted) (length l.wanted))) l.fn.list;
}

abbrev pub invariant-loop-own : goal.invariant-loop-own
invariant-loop-own l = l.list ≡ over (wanted_of l.own (copy_of (mapping l.wanted) (length l.wanted))) l.fn.list
