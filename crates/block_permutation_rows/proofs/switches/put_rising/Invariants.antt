-- The first rows stand, and `l` and `r` are the wires of the next.
use Rattle.std.proofs.Common.{◌≡◌, ◌+◌, ◌*◌}
use Rattle.fault.specs.Buffers.{over}
use Rattle.block_elements.specs.Rows.{flat}
use Rattle.block_permutation_rows.specs.Levels.{rising_rows}
use Rattle.block_permutation_rows.proofs.switches.put_rising.Given as goal

abbrev pub invariant-loop-i : goal.invariant-loop-i
invariant-loop-i l =
    (l.l ≡ l.left + l.fn.step * l.i) × (l.r ≡ l.right + l.fn.step * l.i) × (l.rows ≡ over (flat (rising_rows l.i l.left l.right l.fn.step)) l.fn.rows)
