-- Output wire j is the entry j behind the rows: the first that is not made is refused.
use Rattle.std.proofs.Common.{◌≡◌, ◌∙◌, ℕ, ◌+◌, ◌-◌, ◌<◌, ◌≤◌, List, take, sym, ap, refl, arith, length, drop, get_or}
use Rattle.std.proofs.lemmas.List.{get_or-take, get_or-drop, length-take}
use native.Mathlib.Numerals.{add-one}
use borrow.Author.Tests.{lt-ltb, le-ltb}
use Rattle.fault.specs.declared.Fault.{Fault}
use Rattle.fault.specs.Checks.{unless, first_of}
use Rattle.fault.proofs.ChecksLaws.{next-passes, first-fails}
use Rattle.fabric_sizes.specs.Layout.{output_wire_at, rows_in, row_start, wires_in}
use Rattle.fabric_table_checks.specs.TableFault.{output_wire_fault}
use Rattle.fabric_table_checks.proofs.checking.check_outputs.Goals as goal

-- output wire j
wire-read : (table : List ℕ) (first j x : ℕ) → j < length (take (length table - first) (drop first table)) → first ≡ row_start (rows_in table)
    → x ≡ get_or (take (length table - first) (drop first table)) j 0 → x ≡ output_wire_at table j
wire-read table first j x h is e =
    e ∙ get_or-take (length table - first) (drop first table) j 0 (omega (arith, length-take (length table - first) (drop first table)))
    ∙ get_or-drop first table j 0 ∙ ap (λ n. get_or table (n + j) 0) is

pub loop-output-init : goal.loop-output-init
unfolding first_of
loop-output-init c = refl

pub returns-then-wires-from : goal.returns-then-wires-from
unfolding output_wire_fault
returns-then-wires-from c =
    let j = c.loop-output.output-index in
    let l : wires_in c.args.table.now ≤ output_wire_at c.args.table.now j = omega (arith, wire-read c.args.table.now _ j _ c.loop-output-test.true c.row_start-first.ensures.0 c.from.ensures) in
    let e = ap (λ t. unless t Fault.Fabric) (sym (le-ltb _ (wires_in c.args.table.now) l)) in
    first-fails _ _ j _ (omega arith) c.loop-output.invariant e (omega arith)

pub loop-output-preserved : goal.loop-output-preserved
unfolding output_wire_fault
loop-output-preserved c =
    let j = c.loop-output.output-index in
    let l : output_wire_at c.args.table.now j < wires_in c.args.table.now = omega (arith, wire-read c.args.table.now _ j _ c.loop-output-test.true c.row_start-first.ensures.0 c.from.ensures) in
    let e = ap (λ t. unless t Fault.Fabric) (lt-ltb _ (wires_in c.args.table.now) l) in
    rw (add-one j) (next-passes _ j c.loop-output.invariant e)
