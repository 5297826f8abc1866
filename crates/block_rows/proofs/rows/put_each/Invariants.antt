-- The first i rows stand.
use Rattle.std.proofs.Common.{◌≡◌, ℕ}
use Rattle.lists.specs.Lists.{list_of, Gives}
use Rattle.fault.specs.Buffers.{over}
use Rattle.elements.specs.Elements.{kind_number}
use Rattle.block_elements.specs.Rows.{flat, row_of}
use Rattle.block_rows.proofs.rows.put_each.Given as goal

abbrev pub invariant-loop-i : goal.invariant-loop-i
invariant-loop-i g l =
    (f : ℕ → ℕ × ℕ) → Gives (goal.F-post g l.wires) l.count f
    → l.rows ≡ over (flat (list_of l.i (λ i. row_of (kind_number l.kind) (f i).0 (f i).1))) l.initial.rows
