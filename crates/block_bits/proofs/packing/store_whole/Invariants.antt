-- The bits of the first i bytes are stored.
use Rattle.std.proofs.Common.{◌≡◌}
use Rattle.lists.specs.Lists.{list_of}
use Rattle.block_elements.specs.Bits.{store_bits, bits_held}
use Rattle.block_bits.specs.Stores.{low_bit}
use Rattle.block_bits.proofs.packing.store_whole.Given as goal

abbrev pub invariant-loop-i : goal.invariant-loop-i
invariant-loop-i l = l.program ≡ store_bits l.initial.program 0 (list_of (bits_held l.i) (low_bit l.bits))
