-- The first wires are copied.
use Rattle.std.proofs.Common.{◌≡◌, get_or}
use Rattle.lists.specs.Lists.{list_of}
use Rattle.fault.specs.Buffers.{over}
use Rattle.block_rows.proofs.wires.copy_wires.Given as goal

abbrev pub invariant-loop-i : goal.invariant-loop-i
invariant-loop-i l = l.to ≡ over (list_of l.i (λ j. get_or l.from j 0)) l.fn.to
