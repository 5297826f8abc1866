-- What a turn stores is the output, or the gate, that the drawing's plan has there.
use Rattle.std.proofs.Common.{ap, refl, zero-le, arith}
use Rattle.plan.proofs.UsesLaws.{places_le}
use Rattle.plan_drawn.proofs.OrderingLaws.{drawn-at, ordered_output, gate_of_lem, none_ordered, output_ordered, gate_ordered, all_ordered}
use Rattle.plan_drawn.proofs.taking.Taking.order_gates.Goals as goal

-- K has 16 bits
pub overflow_cast-plan : goal.overflow_cast-plan
overflow_cast-plan c =
    let k = places_le (rw c.from.ensures at c.ceil_power.ensures) c.args.self.now.within.counts.gates in omega arith

pub loop-j-init : goal.loop-j-init
loop-j-init c =
    none_ordered (record { inputs = refl; gates = refl; outputs = refl; places = rw c.from.ensures at c.ceil_power.ensures })
    (ap (λ p. p.gates) c.zero-plan.ensures) (ap (λ p. p.outputs) c.zero-plan.ensures) (ap (λ p. p.uses) c.zero-plan.ensures)

pub loop-j-preserved : goal.loop-j-preserved
loop-j-preserved c =
    let within = c.args.self.now.within in
    rw c.count_use.ensures
    (output_ordered c.loop-j.invariant within.counts zero-le (omega arith)
    (ordered_output within c.requires c.loop-j.j (omega arith) c.renumber-wire.ensures))

pub overflow_sub-gate : goal.overflow_sub-gate
overflow_sub-gate c = omega (arith, (drawn-at c.args.self.now.within c.requires c.loop-p.p (omega arith)).some)

pub bounds-drawing-from : goal.bounds-drawing-from
bounds-drawing-from c = omega (arith, (drawn-at c.args.self.now.within c.requires c.loop-p.p (omega arith)).low, c.args.self.now.within.counts.gates)

pub renumber-requires : goal.renumber-requires
renumber-requires c =
    rw c.from-in-loop-p.ensures
    (omega (arith, (drawn-at c.args.self.now.within c.requires c.loop-p.p (omega arith)).held.first, c.requires.numbered.held.wires))

pub renumber-requires-in-loop-p : goal.renumber-requires-in-loop-p
renumber-requires-in-loop-p c =
    rw c.from-in-loop-p.ensures
    (omega (arith, (drawn-at c.args.self.now.within c.requires c.loop-p.p (omega arith)).held.second, c.requires.numbered.held.wires))

pub loop-p-preserved : goal.loop-p-preserved
loop-p-preserved c =
    let within = c.args.self.now.within in
    rw c.count_operands.ensures
    (gate_ordered c.loop-p.invariant within.counts within.counts.outputs (omega arith)
    (rw c.from-in-loop-p.ensures
    (gate_of_lem within c.requires (drawn-at within c.requires c.loop-p.p (omega arith))
    (rw c.from-in-loop-p.ensures at c.renumber.ensures) (rw c.from-in-loop-p.ensures at c.renumber-in-loop-p.ensures))))

pub returns : goal.returns
returns c = all_ordered c.loop-p.invariant c.args.self.now.within.counts (omega arith) refl
