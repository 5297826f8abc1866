-- The first entries are copied.
use Rattle.std.proofs.Common.{◌≡◌, get_or}
use Rattle.lists.specs.Lists.{list_of}
use Rattle.fault.specs.Buffers.{over}
use Rattle.series.proofs.copying.copy_entries.Given as goal

abbrev pub invariant-loop-i : goal.invariant-loop-i
invariant-loop-i l = l.to ≡ over (list_of l.i (λ j. get_or l.from j 0)) l.fn.to
