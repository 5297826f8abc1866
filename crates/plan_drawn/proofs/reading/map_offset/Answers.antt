-- What a turn reads is gate i.
use Rattle.std.proofs.Common.{arith}
use Rattle.plan_drawn.proofs.OrderingLaws.{none-read, gate_read, refused_before, behind_read}
use Rattle.plan_drawn.proofs.reading.map_offset.Goals as goal

pub loop-i-init : goal.loop-i-init
loop-i-init c = none-read _ _ _

pub returns-in-Err : goal.returns-in-Err
returns-in-Err c =
    let counts = c.requires.counts in
    refused_before c.loop-i.invariant c.loop-i-test.true c.requires.gate counts.inputs counts.gates (rw c.from.ensures at c.gate_wire-bound.ensures)
    c.gate_wire.ensures c.in-Err.ensures

pub loop-i-preserved : goal.loop-i-preserved
loop-i-preserved c =
    let counts = c.requires.counts in
    gate_read c.loop-i.invariant c.loop-i-test.true c.requires.gate counts.inputs counts.gates (rw c.from.ensures at c.gate_wire-bound.ensures)
    c.gate_wire.ensures c.in-Ok.ensures

pub returns : goal.returns
returns c = behind_read c.loop-i.invariant (omega arith)
