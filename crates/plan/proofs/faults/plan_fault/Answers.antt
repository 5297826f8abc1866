-- The counts, the gates, the outputs, the figures, each asked where those before it pass.
use Rattle.std.proofs.Common.{◌≡◌, ℕ, suc, ◌+◌, ◌%◌, ◌<◌, ◌≤◌, List, length, get_or, take, sym, refl, ap, ◌∙◌, ap₂, subst, add-one, arith, get_or-take, length-take}
use Rattle.fault.specs.Number.{fault_number}
use Rattle.fault.specs.declared.Fault.{Fault}
use Rattle.fault.specs.Checks.{first_of}
use Rattle.fault.proofs.ChecksLaws.{next-passes, first-fails, number-positive, ◌then◌, stop}
use Rattle.plan.specs.declared.record.Plan.{Plan}
use Rattle.plan.specs.Record.{word_numbers, wire, max_inputs, max_gates, max_plan_wires, zero_gate, gate_at, output_at, gate_wire, counted_uses}
use Rattle.plan.specs.Faults.{counts_fault, gates_fault, gate_fault, outputs_fault, output_fault, figures_fault, tally_fault, plan_fault}
use Rattle.plan.specs.Rules.{source_allowed}
use Rattle.plan.specs.Counting.{UsesCounted}
use Rattle.plan.proofs.RecordLaws.{wire-fits}
use Rattle.plan.proofs.UsesLaws.{none-counted, gate-counted, output-counted}
use Rattle.plan.proofs.FaultsLaws.{exits, figures_same}
use Rattle.plan.proofs.faults.plan_fault.Goals as goal

-- a place before the end of a front of a list has what the list has there
front-at : {A : Type 0} (n : ℕ) (l : List A) (i : ℕ) (d : A) → i < length (take n l) → (i < n) × (get_or (take n l) i d ≡ get_or l i d)
front-at n l i d h = let low : i < n = omega (arith, length-take n l) in (low, get_or-take n l i d low)

-- what a turn asks is the fault of gate i, whose own wire has 16 bits
gate-i : (p : Plan) (u n i own : ℕ) → own ≡ gate_wire u i % word_numbers → u ≡ p.inputs → u ≤ max_inputs → n ≤ max_gates
    → i < length (take n p.gates) → gate_fault own (get_or (take n p.gates) i zero_gate) ≡ gate_fault (gate_wire p.inputs i) (gate_at p i)
gate-i p u n i own e q few m h =
    let (low, g) = front-at n p.gates i zero_gate h in
    ap₂ gate_fault (e ∙ wire-fits few (omega arith) ∙ ap (λ v. gate_wire v i) q) g

-- what a turn asks is the fault of output j
output-j : (p : Plan) (u k n j : ℕ) → u ≡ p.inputs → k ≡ p.gate_count → j < length (take n p.outputs)
    → source_allowed u k (get_or (take n p.outputs) j (wire 0)).0 ≡ source_allowed p.inputs p.gate_count (output_at p j).0
output-j p u k n j eu ek h = let (low, o) = front-at n p.outputs j (wire 0) h in rw (eu, ek, o)

-- the figures that are compared with the counted ones
tally-is : (p : Plan) (u k : ℕ) (counted : List ℕ) → u ≡ p.inputs → k ≡ p.gate_count → u + k ≤ max_plan_wires
    → UsesCounted p.gate_count p.output_count p.gates p.outputs counted
    → figures_fault u k p.gate_places p.uses (λ i. get_or counted i 0) ≡ tally_fault p
tally-is p u k counted eu ek few uses =
    figures_same u k p.gate_places p.uses _ (counted_uses p) (λ i l. uses.each i (omega arith))
    ∙ ap₂ (λ v g. figures_fault v g p.gate_places p.uses (counted_uses p)) eu ek

pub returns-in_err-counts : goal.returns-in_err-counts
unfolding plan_fault
returns-in_err-counts c =
    let e : fault_number c.in_err-counts.field-0.0 ≡ counts_fault c.args.plan.inputs c.args.plan.gate_count c.args.plan.output_count =
    rw (c.from.ensures, c.from-2.ensures, c.from-3.ensures) at c.in_err-counts.ensures.answered in
    exits c.from_residual.result _ c.from_residual.ensures.1 (stop c.in_err-counts.field-0.0 _ e)

pub loop-i-init : goal.loop-i-init
unfolding first_of
loop-i-init c = (refl, none-counted _ _)

pub returns-in_err-gate_fault : goal.returns-in_err-gate_fault
unfolding plan_fault
returns-in_err-gate_fault c =
    let within = c.in_ok-counts.counts.within in
    let told = c.in_ok-counts.ensures.counts in
    let p = c.args.plan in
    let f = c.in_err-gate_fault.field-0.0 in
    let i = c.loop-i.i in
    let counts : 0 ≡ counts_fault p.inputs p.gate_count p.output_count =
    rw (c.from.ensures, c.from-2.ensures, c.from-3.ensures) at c.in_ok-counts.ensures.answered in
    let low = front-at c.from-4.result p.gates i zero_gate c.loop-i-test.true in
    let e = c.in_err-gate_fault.ensures ∙ gate-i p _ _ i _ c.gate_wire.ensures (told.0 ∙ c.from.ensures) within.inputs (omega arith) c.loop-i-test.true in
    exits c.from_residual-in_err-gate_fault.result _ c.from_residual-in_err-gate_fault.ensures.1
    (counts then stop f _ (first-fails _ p.gate_count i _ (omega arith) c.loop-i.invariant.0 e (number-positive f)))

pub loop-i-preserved : goal.loop-i-preserved
loop-i-preserved c =
    let within = c.in_ok-counts.counts.within in
    let told = c.in_ok-counts.ensures.counts in
    let p = c.args.plan in
    let i = c.loop-i.i in
    let (low, g) = front-at c.from-4.result p.gates i zero_gate c.loop-i-test.true in
    let e = c.in_ok-gate_fault.ensures ∙ gate-i p _ _ i _ c.gate_wire.ensures (told.0 ∙ c.from.ensures) within.inputs (omega arith) c.loop-i-test.true in
    let more = gate-counted c.loop-i.invariant.1 (omega arith) (omega arith) (sym g) in (
      rw (add-one i) (next-passes _ i c.loop-i.invariant.0 (sym e)),
      rw (add-one i) (subst (UsesCounted (suc i) 0 _ _) (sym c.count_operands.ensures) more),
    )

pub loop-wire-init : goal.loop-wire-init
unfolding first_of
loop-wire-init c =
    let told = c.in_ok-counts.ensures.counts in
    let p = c.args.plan in
    let all : c.loop-i.i ≡ p.gate_count = omega (arith, length-take c.from-4.result p.gates) in
    (refl, subst (λ n. UsesCounted n 0 p.gates p.outputs c.loop-i.counted) all c.loop-i.invariant.1)

pub returns-then-not-source_allowed : goal.returns-then-not-source_allowed
unfolding plan_fault output_fault
returns-then-not-source_allowed c =
    let told = c.in_ok-counts.ensures.counts in
    let p = c.args.plan in
    let counts : 0 ≡ counts_fault p.inputs p.gate_count p.output_count =
    rw (c.from.ensures, c.from-2.ensures, c.from-3.ensures) at c.in_ok-counts.ensures.answered in
    let all : c.loop-i.i ≡ p.gate_count = omega (arith, length-take c.from-4.result p.gates) in
    let gates : 0 ≡ gates_fault p p.gate_count = sym (rw all at c.loop-i.invariant.0) in
    let j = c.loop-wire.wire-index in
    let (low, o) = front-at c.from-5.result p.outputs j (wire 0) c.loop-wire-test.true in
    let e : 9 ≡ output_fault p.inputs p.gate_count (output_at p j).0 =
    rw (sym (c.if-not-source_allowed.ensures ∙ output-j p _ _ _ j (told.0 ∙ c.from.ensures) (told.1 ∙ c.from-2.ensures) c.loop-wire-test.true)) in
    counts then gates then stop Fault.Source _ (first-fails _ p.output_count j _ (omega arith) c.loop-wire.invariant.0 e (omega arith))

pub loop-wire-preserved : goal.loop-wire-preserved
unfolding output_fault
loop-wire-preserved c =
    let within = c.in_ok-counts.counts.within in
    let told = c.in_ok-counts.ensures.counts in
    let p = c.args.plan in
    let j = c.loop-wire.wire-index in
    let (low, o) = front-at c.from-5.result p.outputs j (wire 0) c.loop-wire-test.true in
    let e : 0 ≡ output_fault p.inputs p.gate_count (output_at p j).0 =
    rw (sym (c.if-not-source_allowed.ensures ∙ output-j p _ _ _ j (told.0 ∙ c.from.ensures) (told.1 ∙ c.from-2.ensures) c.loop-wire-test.true)) in
    let more = output-counted c.loop-wire.invariant.1 (omega arith) (omega arith) (sym o) in (
      rw (add-one j) (next-passes _ j c.loop-wire.invariant.0 (sym e)),
      rw (add-one j) (subst (UsesCounted _ (suc j) _ _) (sym c.count_use.ensures) more),
    )

pub returns : goal.returns
unfolding plan_fault
returns c =
    let within = c.in_ok-counts.counts.within in
    let told = c.in_ok-counts.ensures.counts in
    let p = c.args.plan in
    let counts : 0 ≡ counts_fault p.inputs p.gate_count p.output_count =
    rw (c.from.ensures, c.from-2.ensures, c.from-3.ensures) at c.in_ok-counts.ensures.answered in
    let all : c.loop-i.i ≡ p.gate_count = omega (arith, length-take c.from-4.result p.gates) in
    let gates : 0 ≡ gates_fault p p.gate_count = sym (rw all at c.loop-i.invariant.0) in
    let every : c.loop-wire.wire-index ≡ p.output_count = omega (arith, length-take c.from-5.result p.outputs) in
    let outputs : 0 ≡ outputs_fault p p.output_count = sym (rw every at c.loop-wire.invariant.0) in
    let counted = rw every at c.loop-wire.invariant.1 in
    counts then gates then outputs
    then (c.tally_fault.ensures ∙ tally-is p _ _ _ (told.0 ∙ c.from.ensures) (told.1 ∙ c.from-2.ensures) (omega arith) counted)
