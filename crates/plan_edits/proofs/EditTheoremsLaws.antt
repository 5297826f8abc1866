-- An edit that is done leaves its plan within its bounds, with figures that are the counted ones: so it is accepted, and only that place has changed.
-- Plans that agree have the same faults; what an edit makes of them has equal gates and outputs, which are counted alike.
use mathlib.Core.Path.{◌≡◌, refl, sym, ap, ◌∙◌}
use mathlib.Core.List.{List}
use Prim.Native.Nat.{ℕ, zero, suc, ◌-◌, ◌<◌, ◌≤◌}
use native.Mathlib.Omega.{arith}
use lib.ListN.{length, get_or, set, length-set}
use lib.Seq.{get_or-set_same, get_or-set_other, length-sets}
use Rattle.lists.specs.Lists.{list_of}
use Rattle.lists.proofs.ListsLaws.{set-each, set_alike, get_d_sets, get_or_sets_past}
use Rattle.powers.specs.Powers.{ceil_power}
use Rattle.plan.specs.declared.record.Gate.{Gate}
use Rattle.plan.specs.declared.record.Plan.{Plan}
use Rattle.plan.specs.declared.record.PlanWire.{PlanWire}
use Rattle.plan.specs.Record.{max_gates, max_plan_wires, wire, zero_gate, gate_at, output_at, gate_wire, counted_uses, stored_uses, wire_count, Agree}
use Rattle.plan.specs.Faults.{Accepted, GateWithin, OutputWithin, PlanWithin, Tallied}
use Rattle.plan.proofs.UsesLaws.{uses-above}
use Rattle.plan.proofs.FaultsLaws.{accepted_bounds, accepted-counts}
use Rattle.plan.proofs.AgreeLaws.{counted_alike, same-fault}
use Rattle.plan.proofs.TallyLaws.{uses-add_up}
use Rattle.plan_edits.specs.Edits.{replace_gate_fault, append_gate_fault, replace_output_fault, settled, with_gate_at, with_output_at, edit_outcome, gate_replaced, gate_appended, output_replaced}
use Rattle.plan_edits.proofs.EditsLaws.{can_replace_gate, can_append_gate, can_replace_output}
use Rattle.plan_edits.specs.EditTheorems.{HasPlaces, Settled, EditIs, EditsRight, EditsRightTheorem, SameEdit, SameEdits, SameEditsTheorem}

-- ---- figures that are settled

-- they are the counted ones
settled-tallied : (p : Plan) → length p.uses ≡ max_plan_wires → wire_count p ≤ max_plan_wires → Tallied (settled p)
settled-tallied p room few = record {
  places = refl;
  uses = λ i l. get_d_sets p.uses (counted_uses p) (wire_count p) i 0 l (omega arith);
}

-- the wires of a plan within its bounds have places
wires-few : {p : Plan} → PlanWithin p → wire_count p ≤ max_plan_wires
wires-few w = let c = w.counts in omega arith

-- the plan m that an edit made of p, its figures settled
settles : (p m : Plan) → m.uses ≡ p.uses → HasPlaces m → PlanWithin m → Settled p (settled m)
settles p m e has w = record {
  accepted = accepted;
  tallied = tallied;
  sum = uses-add_up (settled m) accepted;
  past = λ i l. get_or_sets_past m.uses (counted_uses m) (wire_count m) i 0 l ∙ ap (λ (uses : List ℕ). get_or uses i 0) e;
  has-places = record {
    gates = has.gates;
    outputs = has.outputs;
    uses = length-sets m.uses 0 (list_of (wire_count m) (counted_uses m)) ∙ has.uses;
  };
}
  where
    tallied : Tallied (settled m)
    tallied = settled-tallied m has.uses (wires-few w)

    accepted : Accepted (settled m)
    accepted = (accepted_bounds (settled m)).1 (record { counts = w.counts; gate = w.gate; output = w.output }, tallied)

-- ---- what an edit that is done has passed

-- k gates with g at place i: a gate of p is replaced, or one more stands behind them
record GateFits (p : Plan) (k i : ℕ) (g : Gate) : Type 0 where
  accepted : Accepted p
  few : k ≤ max_gates
  more : p.gate_count ≤ k
  place : i < k
  rest : (j : ℕ) → j < k → (j ≡ i → ⊥) → j < p.gate_count
  gate : GateWithin (gate_wire p.inputs i) g

-- o at place j of the outputs
record OutputFits (p : Plan) (j : ℕ) (o : PlanWire) : Type 0 where
  accepted : Accepted p
  place : j < p.output_count
  output : OutputWithin p.inputs p.gate_count o.0

-- by the checks of each edit
replace_fits : (p : Plan) (number : ℕ) (g : Gate) → replace_gate_fault p number g ≡ 0 → GateFits p p.gate_count (number - 1) g
replace_fits p number g e =
    let can = can_replace_gate p number g (sym e) in
    let c = accepted-counts p can.accepted in
    record { accepted = can.accepted; few = c.gates; more = omega arith; place = can.low; rest = λ j l f. l; gate = can.gate }

append-fits : (p : Plan) (g : Gate) → append_gate_fault p g ≡ 0 → GateFits p (suc p.gate_count) p.gate_count g
append-fits p g e =
    let can = can_append_gate p g (sym e) in
    record { accepted = can.accepted; few = can.room; more = omega arith; place = omega arith; rest = λ j l f. omega arith; gate = can.gate }

output-fits : (p : Plan) (number : ℕ) (o : PlanWire) → replace_output_fault p number o ≡ 0 → OutputFits p (number - 1) o
output-fits p number o e =
    let can = can_replace_output p number o (sym e) in
    record { accepted = can.accepted; place = can.low; output = can.output }

-- ---- what it made

-- of a gate: g stands at place i, the others as they were
record GateMade (p : Plan) (i : ℕ) (g : Gate) (q : Plan) : Type 0 where
  gate : gate_at q i ≡ g
  others : (j : ℕ) → (j ≡ i → ⊥) → gate_at q j ≡ gate_at p j
  settled : Settled p q

-- an edit whose checks gave n
edit_is : {p : Plan} {Right : Plan → Type 0} (n : ℕ) (made : Plan) → (n ≡ 0 → Right made) → EditIs p Right (edit_outcome n made p)
edit_is zero made right = record { refused = λ f. absurd (f refl); done = right }
edit_is (suc n) made right = record { refused = λ f. refl; done = λ e. absurd (omega arith) }

module _ (p : Plan) (has : HasPlaces p) where
  -- the place is one of the record's
  gate-room : {k i : ℕ} {g : Gate} → GateFits p k i g → i < length p.gates
  gate-room fits = omega arith

  -- k gates with g at place i, figures settled
  gate-made : {k i : ℕ} {g : Gate} → GateFits p k i g → GateMade p i g (settled (with_gate_at k i g p))
  gate-made {k} {i} {g} fits = record {
    gate = get_or-set_same p.gates i g zero_gate (gate-room fits);
    others = λ j f. get_or-set_other p.gates i j g zero_gate f;
    settled = settles p (with_gate_at k i g p) refl places within;
  }
    where
      places : HasPlaces (with_gate_at k i g p)
      places = record { gates = length-set p.gates i g ∙ has.gates; outputs = has.outputs; uses = has.uses }

      within : PlanWithin (with_gate_at k i g p)
      within =
          let old = ((accepted_bounds p).0 fits.accepted).0 in
          let c = old.counts in
          record {
            counts = record {
              some_inputs = c.some_inputs;
              inputs = c.inputs;
              some_gates = omega arith;
              gates = fits.few;
              some_outputs = c.some_outputs;
              outputs = c.outputs;
            };
            gate = λ j l.
                set-each (λ j h. GateWithin (gate_wire p.inputs j) h) p.gates i g zero_gate (gate-room fits) fits.gate j
                (λ f. old.gate j (fits.rest j l f));
            output = λ j l. let o = old.output j l in record { above = o.above; up_to = omega arith };
          }

  -- nothing names the wire of a gate behind the others
  new-unnamed : {g : Gate} → GateFits p (suc p.gate_count) p.gate_count g
      → stored_uses (settled (with_gate_at (suc p.gate_count) p.gate_count g p)) (wire_count p) ≡ 0
  new-unnamed {g} fits =
      let q = with_gate_at (suc p.gate_count) p.gate_count g p in
      let done = (gate-made fits).settled in
      let old = ((accepted_bounds p).0 fits.accepted).0 in
      let new = ((accepted_bounds (settled q)).0 done.accepted).0 in
      done.tallied.uses (wire_count p) (omega arith)
      ∙ uses-above (suc p.gate_count) p.output_count q.gates p.outputs (suc (wire_count p))
      (λ i l. let h = new.gate i l in (omega arith, omega arith))
      (λ j l. let o = old.output j l in omega arith)

  -- the same of an output
  output-room : {j : ℕ} {o : PlanWire} → OutputFits p j o → j < length p.outputs
  output-room fits = let c = ((accepted_bounds p).0 fits.accepted).0.counts in omega arith

  output-made : {j : ℕ} {o : PlanWire} → OutputFits p j o → Settled p (settled (with_output_at j o p))
  output-made {j} {o} fits =
      let old = ((accepted_bounds p).0 fits.accepted).0 in
      settles p (with_output_at j o p) refl
      (record { gates = has.gates; outputs = length-set p.outputs j o ∙ has.outputs; uses = has.uses })
      (record {
        counts = old.counts;
        gate = old.gate;
        output = λ i l.
            set-each (λ _ h. OutputWithin p.inputs p.gate_count h.0) p.outputs j o (wire 0) (output-room fits) fits.output i
            (λ f. old.output i l);
      })

  -- what each edit says
  edits : EditsRight p
  unfolding gate_replaced gate_appended output_replaced
  edits = record {
    replace_gate = λ number g. edit_is (replace_gate_fault p number g) _ (λ e.
        let made = gate-made (replace_fits p number g e) in
        record {
          inputs = refl;
          gate-count = refl;
          output-count = refl;
          outputs = refl;
          gate = made.gate;
          others = made.others;
          settled = made.settled;
        });
    append-gate = λ g. edit_is (append_gate_fault p g) _ (λ e.
        let fits = append-fits p g e in
        let made = gate-made fits in
        record {
          inputs = refl;
          gate-count = refl;
          output-count = refl;
          outputs = refl;
          gate = made.gate;
          others = made.others;
          unnamed = new-unnamed fits;
          settled = made.settled;
        });
    replace_output = λ number o. edit_is (replace_output_fault p number o) _ (λ e.
        let fits = output-fits p number o e in
        record {
          inputs = refl;
          gate-count = refl;
          output-count = refl;
          gates = refl;
          output = get_or-set_same p.outputs (number - 1) o (wire 0) (output-room fits);
          others = λ j f. get_or-set_other p.outputs (number - 1) j o (wire 0) f;
          settled = output-made fits;
        });
  }

pub edits-right : EditsRightTheorem
edits-right = edits

-- ---- plans that agree

-- equal gates and outputs: where the figures are settled, the plans agree
settled-agree : (p q : Plan) → p.inputs ≡ q.inputs → p.gate_count ≡ q.gate_count → p.output_count ≡ q.output_count
    → ((i : ℕ) → i < p.gate_count → gate_at p i ≡ gate_at q i) → ((j : ℕ) → j < p.output_count → output_at p j ≡ output_at q j)
    → Tallied (settled p) → Tallied (settled q) → Agree (settled p) (settled q)
settled-agree p q eu ek ev gate output tp tq = record {
  inputs = eu;
  gates = ek;
  outputs = ev;
  gate = gate;
  output = output;
  places = ap ceil_power ek;
  uses = λ i l. tp.uses i l ∙ counted_alike p q ek ev gate output i ∙ sym (tq.uses i (omega arith));
}

-- edits whose checks gave equal numbers
same_edit : {p q made other : Plan} (n m : ℕ) → n ≡ m → Agree p q → (n ≡ 0 → m ≡ 0 → Agree made other)
    → SameEdit (edit_outcome n made p) (edit_outcome m other q)
same_edit zero zero e same done = record { number = e; agree = done refl refl }
same_edit (suc n) (suc m) e same done = record { number = e; agree = same }
same_edit zero (suc m) e same done = absurd (omega arith)
same_edit (suc n) zero e same done = absurd (omega arith)

module _ (p q : Plan) (hp : HasPlaces p) (hq : HasPlaces q) (same : Agree p q) where
  -- what the edits make of them agrees
  gate_agrees : {k i m j : ℕ} {g : Gate} → GateFits p k i g → GateFits q m j g → k ≡ m → i ≡ j
      → Agree (settled (with_gate_at k i g p)) (settled (with_gate_at m j g q))
  gate_agrees {k} {i} {m} {j} {g} a b ek ei =
      settled-agree (with_gate_at k i g p) (with_gate_at m j g q) same.inputs ek same.outputs
      (λ n l.
      let room = rw (← ei) at (gate-room q hq b) in
      set_alike p.gates q.gates i g zero_gate (gate-room p hp a) room n (λ f. same.gate n (a.rest n l f))
      ∙ ap (λ (j : ℕ). get_or (set q.gates j g) n zero_gate) ei)
      same.output (gate-made p hp a).settled.tallied (gate-made q hq b).settled.tallied

  output_agrees : {j : ℕ} {o : PlanWire} → OutputFits p j o → OutputFits q j o → Agree (settled (with_output_at j o p)) (settled (with_output_at j o q))
  output_agrees {j} {o} a b =
      settled-agree (with_output_at j o p) (with_output_at j o q) same.inputs same.gates same.outputs same.gate
      (λ n l. set_alike p.outputs q.outputs j o (wire 0) (output-room p hp a) (output-room q hq b) n (λ f. same.output n l))
      (output-made p hp a).tallied (output-made q hq b).tallied

  -- and their faults are the same
  same_replace : (number : ℕ) (g : Gate) → replace_gate_fault p number g ≡ replace_gate_fault q number g
  unfolding replace_gate_fault
  same_replace number g = cc (same-fault p q same)

  same-append : (g : Gate) → append_gate_fault p g ≡ append_gate_fault q g
  unfolding append_gate_fault
  same-append g = cc (same-fault p q same)

  same-output : (number : ℕ) (o : PlanWire) → replace_output_fault p number o ≡ replace_output_fault q number o
  unfolding replace_output_fault
  same-output number o = cc (same-fault p q same)

  edits-agree : SameEdits p q
  unfolding gate_replaced gate_appended output_replaced
  edits-agree = record {
    replace_gate = λ number g. same_edit _ _ (same_replace number g) same
        (λ a b. gate_agrees (replace_fits p number g a) (replace_fits q number g b) same.gates refl);
    append-gate = λ g. same_edit _ _ (same-append g) same
        (λ a b. gate_agrees (append-fits p g a) (append-fits q g b) (ap suc same.gates) same.gates);
    replace_output = λ number o. same_edit _ _ (same-output number o) same
        (λ a b. output_agrees (output-fits p number o a) (output-fits q number o b));
  }

pub same-edits : SameEditsTheorem
same-edits = edits-agree
