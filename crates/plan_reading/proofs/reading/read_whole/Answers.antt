-- Each answer is what is read of the file so far, with what is read of the next item.
use Rattle.std.proofs.Common.{◌∙◌, ap, refl, arith}
use Rattle.plan.proofs.UsesLaws.{places_le}
use Rattle.plan_fields.specs.Parsing.{pure, followed}
use Rattle.plan_fields.specs.Answers.{refusal}
use Rattle.plan.specs.Record.{wire}
use Rattle.plan_reading.specs.PlanFile.{parsed_outcome}
use Rattle.plan_reading.proofs.PartsLaws.{no-plan, no-header, header-read, gate-read, gate-refused, output-read, output-refused, tail-refused, all-read}
use Rattle.plan_reading.proofs.reading.read_whole.Goals as goal

pub returns-in_err-counts : goal.returns-in_err-counts
returns-in_err-counts c = no-plan _ _ c.from_residual.ensures.1 (no-header _ _ c.in_err-counts.ensures)

-- K has 16 bits
pub overflow_cast-plan : goal.overflow_cast-plan
overflow_cast-plan c =
    let k = places_le (rw c.from.ensures at c.ceil_power.ensures) c.in_ok-counts.counts.within.gates in omega arith

pub loop-i-init : goal.loop-i-init
loop-i-init c = header-read _ _ c.in_ok-counts.ensures
    (record { inputs = refl; gates = refl; outputs = refl; places = rw c.from.ensures at c.ceil_power.ensures })
    (ap (λ p. p.gates) c.zero-plan.ensures) (ap (λ p. p.outputs) c.zero-plan.ensures) (ap (λ p. p.uses) c.zero-plan.ensures)

pub returns-in_err-gate : goal.returns-in_err-gate
returns-in_err-gate c =
    no-plan _ _ c.from_residual-in_err-gate.ensures.1
    (gate-refused _ _ c.loop-i.invariant (omega arith) c.operand_bound.ensures c.gate_wire-own.ensures c.in_err-gate.ensures)

pub loop-i-preserved : goal.loop-i-preserved
loop-i-preserved c =
    rw c.count_operands.ensures
    (gate-read _ _ c.loop-i.invariant (omega arith) c.operand_bound.ensures c.gate_wire-own.ensures c.in_ok-gate.ensures)

pub returns-in_err-wire : goal.returns-in_err-wire
returns-in_err-wire c =
    no-plan _ _ c.from_residual-in_err-wire.ensures.1
    (output-refused _ _ c.loop-j.invariant (omega arith) (ap (followed (λ w. pure (wire w)) c.args.file.now) c.in_err-wire.ensures))

pub loop-j-preserved : goal.loop-j-preserved
loop-j-preserved c =
    rw c.count_use.ensures
    (output-read _ _ c.loop-j.invariant (omega arith) (ap (followed (λ w. pure (wire w)) c.args.file.now) c.in_ok-wire.ensures))

pub returns-in_err-at_end : goal.returns-in_err-at_end
returns-in_err-at_end c =
    no-plan _ _ c.from_residual-in_err-at_end.ensures.1
    (ap refusal c.in_err-at_end.ensures.1 ∙ tail-refused _ _ c.loop-j.invariant (omega arith) c.in_err-at_end.ensures.0)

pub returns : goal.returns
returns c = ap parsed_outcome (all-read _ _ c.loop-j.invariant (omega arith) c.in_ok-at_end.ensures)
