-- Line one is no longer than its words and six numbers.
use Prim.Native.Nat.{ℕ, ◌+◌, ◌*◌, ◌≤◌}
use native.Mathlib.Omega.{arith}
use lib.ListN.{length, length-append}
use Rattle.elements.specs.declared.Counts.{Counts}
use Rattle.console.specs.Text.{ascii, most_digits}
use Rattle.console.proofs.DecimalLaws.{named-long}
use Rattle.twintest.specs.CountsLine.{counts_line}

pub counts-long : (u k v : ℕ) (c : Counts) → length (counts_line u k v c) ≤ 28 + 6 * most_digits
unfolding ascii
counts-long u k v c =
    let inputs = named-long (ascii "u ") u in
    let gates = named-long (ascii " k ") k in
    let outputs = named-long (ascii " v ") v in
    let rows = named-long (ascii " rows ") c.rows in
    let wires = named-long (ascii " wires ") c.wires in
    let bits = named-long (ascii " bits ") c.bits in
    simp length-append (omega (arith, inputs, gates, outputs, rows, wires, bits))
