-- The first wires stand, and `wire` is the next.
use Rattle.std.proofs.Common.{◌≡◌, ◌+◌, ◌*◌, ◌%◌}
use Rattle.lists.specs.Lists.{list_of}
use Rattle.fault.specs.Buffers.{over}
use Rattle.elements.specs.Elements.{max_wires}
use Rattle.block_rows.proofs.wires.put_wires.Given as goal

abbrev pub invariant-loop-entry : goal.invariant-loop-entry
invariant-loop-entry l = record {
  next : l.wire ≡ (l.initial.wire + l.step * l.entry-index) % max_wires;
  stand : l.entry-items ≡ over (list_of l.entry-index (λ j. (l.initial.wire + l.step * j) % max_wires)) l.initial.entry-items;
}
