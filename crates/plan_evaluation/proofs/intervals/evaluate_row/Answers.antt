-- The fresh entries and the state stand on the inputs' wires, each gate's bit comes behind them, and the outputs name what stands there.
use Rattle.std.proofs.Common.{◌≡◌, ◌++◌, get_or, refl, ap, ◌∙◌, arith, rules, get_or-take, length-take}
use Rattle.lists.specs.Lists.{list_of}
use Rattle.lists.proofs.ListsLaws.{length-list_of}
use Rattle.fault.proofs.BuffersLaws.{list-step}
use Rattle.plan.specs.Record.{zero_gate, output_at}
use Rattle.plan.proofs.FaultsLaws.{accepted-output}
use Rattle.plan_evaluation.specs.Evaluation.{value_on, plan_wires, named_by, gate_bit, plan_outputs}
use Rattle.plan_evaluation.proofs.GatesLaws.{put-row, gate-stands, gate-on-wires, outputs-on-wires, whole-over}
use Rattle.plan_evaluation.proofs.intervals.evaluate_row.Goals as goal

pub loop-i-init : goal.loop-i-init
unfolding plan_wires
loop-i-init c =
    let e = put-row c.args.fresh.now c.args.state.now c.args.wires.now c.from-inputs.result (omega arith) in
    let fresh = c.copy_entries.ensures.whole (search rules) in
    let state = c.copy_entries-2.ensures.whole (search rules) in
    rw (fresh, state) e

pub put_gate-requires : goal.put_gate-requires
put_gate-requires c =
    let p = c.args.plan.now in
    let i = c.loop-i.i in
    let stands = gate-stands p (c.args.fresh.now ++ c.args.state.now) c.requires.within.evaluable c.args.wires.now (omega arith) i c.loop-i.wires c.loop-i.invariant (omega (arith, length-take c.from.result p.gates)) in
    rw (get_or-take c.from.result p.gates i zero_gate (omega (arith, length-take c.from.result p.gates)), c.from-inputs.ensures) stands

pub loop-i-preserved : goal.loop-i-preserved
loop-i-preserved c =
    let p = c.args.plan.now in
    let i = c.loop-i.i in
    let more = gate-on-wires p (c.args.fresh.now ++ c.args.state.now) c.requires.within.evaluable c.args.wires.now (omega arith) i c.loop-i.wires c.loop-i.invariant (omega (arith, length-take c.from.result p.gates)) in
    let g = get_or-take c.from.result p.gates i zero_gate (omega (arith, length-take c.from.result p.gates)) in
    c.put_gate.ensures ∙ rw (g, c.from-inputs.ensures) more

pub loop-j-init : goal.loop-j-init
unfolding list_of
loop-j-init c = refl

pub place_of-requires : goal.place_of-requires
place_of-requires c = omega (arith, (accepted-output c.args.plan.now c.requires.within.evaluable.accepted c.loop-j.j (omega arith)).above)

pub bounds-wires-place_of : goal.bounds-wires-place_of
bounds-wires-place_of c = omega (arith, (accepted-output c.args.plan.now c.requires.within.evaluable.accepted c.loop-j.j (omega arith)).up_to)

pub loop-j-preserved : goal.loop-j-preserved
loop-j-preserved c = list-step c.args.results.now c.loop-j.j (λ j. value_on 0 c.loop-i.wires (output_at c.args.plan.now j)) c.loop-j.invariant (ap (λ n. get_or c.loop-i.wires n 0) c.place_of.ensures) (omega arith)

pub returns : goal.returns
returns c =
    let p = c.args.plan.now in
    let row = c.args.fresh.now ++ c.args.state.now in
    let gates : c.loop-i.i ≡ p.gate_count = omega (arith, length-take c.from.result p.gates) in
    let outputs : c.loop-j.j ≡ p.output_count = omega arith in
    let named : named_by 0 p c.loop-i.wires p.output_count ≡ plan_outputs 0 gate_bit p row =
    outputs-on-wires p row c.requires.within.evaluable c.args.wires.now (omega arith) c.loop-i.wires (rw gates at c.loop-i.invariant) in
    let size = length-list_of p.output_count (λ j. value_on 0 c.loop-i.wires (output_at p j)) in
    rw outputs at c.loop-j.invariant ∙ whole-over _ c.args.results.now (omega arith) ∙ named
