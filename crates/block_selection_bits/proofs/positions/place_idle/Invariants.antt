-- The first positions have their inputs, and the idle inputs go on at `from`.
use Rattle.std.proofs.Common.{◌≡◌, length}
use Rattle.lists.specs.Lists.{list_of}
use Rattle.fault.specs.Buffers.{over}
use Rattle.block_selection_bits.proofs.PositionsLaws.{Cursor, takers}
use Rattle.block_selection_bits.proofs.positions.place_idle.Given as goal

abbrev pub invariant-loop-p : goal.invariant-loop-p
invariant-loop-p l = record {
  cursor : Cursor l.counts (length l.counts) l.p l.from;
  listed : l.list ≡ over (list_of l.p (takers l.counts (length l.counts))) l.fn.list;
}
