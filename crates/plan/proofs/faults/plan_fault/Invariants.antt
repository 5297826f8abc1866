-- The first gates have no fault and their uses are counted; then the first outputs likewise.
use Rattle.std.proofs.Common.{◌≡◌}
use Rattle.plan.specs.Faults.{gates_fault, outputs_fault}
use Rattle.plan.specs.Counting.{UsesCounted}
use Rattle.plan.proofs.faults.plan_fault.Given as goal

abbrev pub invariant-loop-i : goal.invariant-loop-i
invariant-loop-i l = (gates_fault l.fn.plan l.i ≡ 0) × UsesCounted l.i 0 l.fn.plan.gates l.fn.plan.outputs l.counted

abbrev pub invariant-loop-wire : goal.invariant-loop-wire
invariant-loop-wire l =
    (outputs_fault l.fn.plan l.wire-index ≡ 0) × UsesCounted l.fn.plan.gate_count l.wire-index l.fn.plan.gates l.fn.plan.outputs l.counted
