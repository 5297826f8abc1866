-- Laws of the edits. Dropping what goes leaves an array that lacks what comes, and counting that settles it: at each of the plan's wires stand its counted
-- uses, past them what stood there. An appended gate's own wire has no uses yet, since nothing names it.
use mathlib.Core.Path.{◌≡◌, refl, sym, ap, ap₂, ◌∙◌}
use mathlib.Core.List.{List}
use Prim.Native.Nat.{ℕ, zero, suc, ◌+◌, ◌-◌, ◌%◌, ◌<◌, ◌≤◌}
use native.Mathlib.Omega.{arith}
use native.Mathlib.Decide.{ℕ_discrete, dec_lt}
use borrow.Author.Tests.{eq-eqb, ne_eqb}
use mir.Val.{Val}
use denote.Laws.{Is}
use denote.Struct.Declared.{row}
use lib.Dec.{eqb}
use lib.ListN.{length, get_or, set, length-set}
use lib.Seq.{length-sets, get_or-set_same, get_or-set_other, ext_get_or}
use Rattle.std.specs.Prelude.{Result, IsErrAnd}
use Rattle.std.proofs.lemmas.Result.{err_from_is_err_and}
use Rattle.lists.specs.Lists.{list_of}
use Rattle.lists.specs.Counting.{one_if}
use Rattle.lists.proofs.ListsLaws.{get_d_sets, get_or_sets_past}
use Rattle.fault.specs.declared.Fault.{Fault}
use Rattle.fault.specs.Number.{fault_number}
use Rattle.fault.specs.Checks.{and_then}
use Rattle.fault.proofs.ChecksLaws.{number-positive, unless-zero, and_then-zero}
use Rattle.plan.specs.declared.record.Gate.{Gate}
use Rattle.plan.specs.declared.record.Plan.{Plan}
use Rattle.plan.specs.declared.record.PlanWire.{PlanWire}
use Rattle.plan.specs.Record.{word_numbers, max_gates, max_outputs, max_plan_wires, zero_gate, gate_at, output_at, gate_wire, counted_uses, stored_uses, wire_count}
use Rattle.plan.specs.Rules.{count_allowed}
use Rattle.plan.specs.Faults.{plan_fault, gate_fault, Accepted, CountsWithin, GateWithin, OutputWithin}
use Rattle.plan.specs.Counting.{with_use, with_operands}
use Rattle.plan.specs.contracts.record.Plan as Plan-type
use Rattle.plan.proofs.RecordLaws.{wire-fits}
use Rattle.plan.proofs.RulesLaws.{count_bounds}
use Rattle.plan.proofs.UsesLaws.{uses-gate, uses_le, uses-same, uses-gate-set, uses-output-set, gate-named, output-named, length_use, use_at, use_other}
use Rattle.plan.proofs.FaultsLaws.{gate-within, output-within, accepted-counts, accepted-gate, accepted-output, accepted-tallied}
use Rattle.plan.proofs.TallyLaws.{unnamed}
use Rattle.plan_edits.specs.Edits.{place_fault, replace_gate_fault, append_gate_fault, replace_output_fault, settled, with_gate_at, with_output_at, EditOutcome, edit_outcome}
use Rattle.plan_edits.specs.Answers.{edited_outcome}
use Rattle.plan_edits.specs.EditTheorems.{HasPlaces}
use Rattle.plan_edits.specs.Uncounting.{without_use, without_operands}

-- ---- the record

-- an array that is a record's field has its length, so a record that a function is given has all its places
pub has-places : (p : Plan) {vs : List Val} → Is (row Plan-type.the_type) p vs → HasPlaces p
has-places p is = let fields = is.1.1.1.1.1 in record { gates = fields.0.1.0.1; outputs = fields.1.0.1.0.1; uses = fields.1.1.1.0.1.0.1 }

-- ---- the checks

-- a number without fault 18 is a place's
pub placed : {count number : ℕ} → place_fault count number ≡ 0 → (1 ≤ number) × (number ≤ count)
unfolding place_fault
placed {count} {number} e = (count_bounds count number).0 ((unless-zero (count_allowed count number) Fault.Place).0 e)

-- the own wire of a gate of an accepted plan, or of one behind its last, as code computes it
pub own_fault : (p : Plan) (at own : ℕ) (g : Gate) → 0 ≡ plan_fault p → at ≤ p.gate_count → own ≡ gate_wire p.inputs at % word_numbers
    → gate_fault own g ≡ gate_fault (gate_wire p.inputs at) g
own_fault p at own g e few is =
    let counts = accepted-counts p (sym e) in
    ap (λ w. gate_fault w g) (is ∙ wire-fits counts.inputs (omega (arith, counts.gates)))

-- what holds where no check of an edit fails; a place counts from 0, a number from 1
pub record CanReplaceGate (p : Plan) (number : ℕ) (g : Gate) : Type 0 where
  pub accepted : Accepted p
  pub some : 1 ≤ number
  pub low : number - 1 < p.gate_count
  pub in_gates : number - 1 < max_gates
  pub gate : GateWithin (gate_wire p.inputs (number - 1)) g

pub record CanAppendGate (p : Plan) (g : Gate) : Type 0 where
  pub accepted : Accepted p
  pub room : suc p.gate_count ≤ max_gates
  pub in_uses : wire_count p < max_plan_wires
  pub gate : GateWithin (gate_wire p.inputs p.gate_count) g

pub record CanReplaceOutput (p : Plan) (number : ℕ) (o : PlanWire) : Type 0 where
  pub accepted : Accepted p
  pub some : 1 ≤ number
  pub low : number - 1 < p.output_count
  pub in_outputs : number - 1 < max_outputs
  pub output : OutputWithin p.inputs p.gate_count o.0

-- three checks pass
three_pass : {a b c : ℕ} → 0 ≡ and_then a (and_then b c) → (a ≡ 0) × (b ≡ 0) × (c ≡ 0)
three_pass {a} {b} {c} e = let (x, r) = (and_then-zero a (and_then b c)).0 (sym e) in let (y, z) = (and_then-zero b c).0 r in (x, y, z)

pub can_replace_gate : (p : Plan) (number : ℕ) (g : Gate) → 0 ≡ replace_gate_fault p number g → CanReplaceGate p number g
unfolding replace_gate_fault
can_replace_gate p number g e =
    let (a, b, c) = three_pass e in
    let (some, up_to) = placed b in
    let counts = accepted-counts p a in
    record { accepted = a; some = some; low = omega arith; in_gates = omega arith; gate = (gate-within _ g).0 c }

pub can_append_gate : (p : Plan) (g : Gate) → 0 ≡ append_gate_fault p g → CanAppendGate p g
unfolding append_gate_fault
can_append_gate p g e =
    let (a, b, c) = three_pass e in
    let k = suc p.gate_count in
    let (some, room) = (count_bounds max_gates k).0 ((unless-zero (count_allowed max_gates k) Fault.Gates).0 b) in
    let counts = accepted-counts p a in
    record { accepted = a; room = room; in_uses = omega arith; gate = (gate-within _ g).0 c }

pub can_replace_output : (p : Plan) (number : ℕ) (o : PlanWire) → 0 ≡ replace_output_fault p number o → CanReplaceOutput p number o
unfolding replace_output_fault
can_replace_output p number o e =
    let (a, b, c) = three_pass e in
    let (some, up_to) = placed b in
    let counts = accepted-counts p a in
    record { accepted = a; some = some; low = omega arith; in_outputs = omega arith; output = (output-within _ _ o.0).0 c }

-- ---- arrays that lack uses

-- in a plan within its limits, at each of its wires the array has the counted uses but the lacking ones, and past them what the plan has
pub record Lacks (p : Plan) (lacking : ℕ → ℕ) (made : List ℕ) : Type 0 where
  pub counts : CountsWithin p.inputs p.gate_count p.output_count
  pub full : length p.uses ≡ max_plan_wires
  pub all : length made ≡ max_plan_wires
  pub each : (i : ℕ) → i < wire_count p → get_or made i 0 + lacking i ≡ counted_uses p i
  pub past : (i : ℕ) → wire_count p ≤ i → get_or made i 0 ≡ stored_uses p i

-- the uses of wire i + 1 by one place that names w, by a gate
abbrev place_uses : ℕ → ℕ → ℕ
place_uses w i = one_if (eqb w (suc i))

abbrev gate_uses : Gate → ℕ → ℕ
gate_uses g i = place_uses g.first.0 i + place_uses g.second.0 i

-- one use less of wire w: what that asks, and leaves
pub record Drops (p : Plan) (lacking : ℕ → ℕ) (made : List ℕ) (w : ℕ) : Type 0 where
  pub asked : (1 ≤ w) × (w ≤ max_plan_wires) × (1 ≤ get_or made (w - 1) 0)
  pub left : Lacks p (λ i. lacking i + place_uses w i) (without_use w made)

drops : {p : Plan} {lacking : ℕ → ℕ} {made : List ℕ} (w : ℕ) → 1 ≤ w → w ≤ wire_count p → ((i : ℕ) → lacking i + place_uses w i ≤ counted_uses p i)
    → Lacks p lacking made → Drops p lacking made w
unfolding without_use
drops {p} {lacking} {made} w some low enough lacks =
    let few : wire_count p ≤ max_plan_wires = omega (arith, lacks.counts.inputs, lacks.counts.gates) in
    let one = rw (eq-eqb w (suc (w - 1)) (omega arith)) at (enough (w - 1)) in
    record {
      asked = (some, omega arith, omega (arith, one, lacks.each (w - 1) (omega arith)));
      left = record {
        counts = lacks.counts;
        full = lacks.full;
        all = length-set made (w - 1) _ ∙ lacks.all;
        each = λ i l. elim (ℕ_discrete w (suc i)) [
          | yes e ↦
              let here : w - 1 ≡ i = omega arith in
              let less = get_or-set_same made i (get_or made i 0 - 1) 0 (omega (arith, lacks.all)) in
              rw (here, less, eq-eqb w (suc i) e) (omega (arith, lacks.each i l, rw (eq-eqb w (suc i) e) at (enough i)))
          | no d ↦
              let same = get_or-set_other made (w - 1) i (get_or made (w - 1) 0 - 1) 0 (λ e. absurd (d (omega arith))) in
              rw (same, ne_eqb w (suc i) d) (omega (arith, lacks.each i l))
        ];
        past = λ i h. get_or-set_other made (w - 1) i (get_or made (w - 1) 0 - 1) 0 (λ e. absurd (omega arith)) ∙ lacks.past i h;
      };
    }

-- one use more of a wire of which one is lacking
use_counted : {p : Plan} {lacking : ℕ → ℕ} {made : List ℕ} (less : ℕ → ℕ) (w : ℕ) → w ≤ wire_count p → ((i : ℕ) → lacking i ≡ less i + place_uses w i)
    → Lacks p lacking made → Lacks p less (with_use w made)
use_counted {p} {lacking} {made} less w low one lacks = record {
  counts = lacks.counts;
  full = lacks.full;
  all = length_use w made ∙ lacks.all;
  each = λ i l.
      let few = uses_le p.gates p.outputs (suc i) p.gate_count p.output_count in
      let more = use_at w made i lacks.all (omega (arith, lacks.counts.inputs, lacks.counts.gates))
      (omega (arith, lacks.each i l, few, lacks.counts.gates, lacks.counts.outputs)) in
      omega (arith, lacks.each i l, more, one i);
  past = λ i h. use_other w made i (λ e. absurd (omega arith)) ∙ lacks.past i h;
}

-- the plan with these gates and outputs, and what the array lacks of its uses
abbrev with_parts : List Gate → List PlanWire → Plan → Plan
with_parts gs os p = record {
  inputs = p.inputs;
  gate_count = p.gate_count;
  output_count = p.output_count;
  gates = gs;
  outputs = os;
  gate_places = p.gate_places;
  uses = p.uses;
}

exchanged : {p : Plan} {lacking less : ℕ → ℕ} {made : List ℕ} (gs : List Gate) (os : List PlanWire)
    → ((i : ℕ) → counted_uses (with_parts gs os p) i + lacking i ≡ counted_uses p i + less i) → Lacks p lacking made → Lacks (with_parts gs os p) less made
exchanged gs os e lacks = record {
  counts = lacks.counts;
  full = lacks.full;
  all = lacks.all;
  each = λ i l. omega (arith, lacks.each i l, e i);
  past = lacks.past;
}

-- nothing is lacking
none_lacks : {p : Plan} {made : List ℕ} → Lacks p (λ _. 0) made → made ≡ (settled p).uses
none_lacks {p} {made} lacks =
    ext_get_or 0 made _ (lacks.all ∙ sym lacks.full ∙ sym (length-sets p.uses 0 (list_of (wire_count p) (counted_uses p)))) λ i l.
    elim (dec_lt i (wire_count p)) [
      | yes low ↦
          let here : get_or made i 0 ≡ counted_uses p i = omega (arith, lacks.each i low) in
          here ∙ sym (get_d_sets p.uses (counted_uses p) (wire_count p) i 0 low (omega (arith, lacks.all, lacks.full)))
      | no high ↦ lacks.past i (omega arith) ∙ sym (get_or_sets_past p.uses (counted_uses p) (wire_count p) i 0 (omega arith))
    ]

-- a gate is within wider bounds
wider : {a b : ℕ} {g : Gate} → a ≤ b → GateWithin a g → GateWithin b g
wider h w = record {
  some_first = w.some_first;
  first = omega (arith, w.first);
  some_second = w.some_second;
  second = omega (arith, w.second);
  table = w.table;
}

-- the output that is wire w is counted, a gate is
output-settles : {p : Plan} {made : List ℕ} (w : ℕ) → w ≤ wire_count p → Lacks p (place_uses w) made → with_use w made ≡ (settled p).uses
output-settles w low lacks = none_lacks (use_counted (λ _. 0) w low (λ i. omega arith) lacks)

gate-settles : {p : Plan} {made : List ℕ} (g : Gate) → GateWithin (suc (wire_count p)) g → Lacks p (gate_uses g) made → with_operands g made ≡ (settled p).uses
unfolding with_operands
gate-settles g within lacks =
    output-settles g.second.0 (omega (arith, within.second))
    (use_counted (place_uses g.second.0) g.first.0 (omega (arith, within.first)) (λ i. omega arith) lacks)

-- ---- the edits

module _ (p : Plan) (places : HasPlaces p) (accepted : Accepted p) where
  counts : CountsWithin p.inputs p.gate_count p.output_count
  counts = accepted-counts p accepted

  as_counted : Lacks p (λ _. 0) p.uses
  as_counted = record {
    counts = counts;
    full = places.uses;
    all = places.uses;
    each = λ i l. omega (arith, (accepted-tallied p accepted).uses i l);
    past = λ i h. refl;
  }

  -- the gate at a place is dropped, and another takes it
  module _ (at : ℕ) (low : at < p.gate_count) where
    abbrev old : Gate
    old = gate_at p at

    old-within : GateWithin (gate_wire p.inputs at) old
    old-within = accepted-gate p accepted at low

    old-counted : (i : ℕ) → gate_uses old i ≤ counted_uses p i
    old-counted i = gate-named p.gates p.outputs (suc i) p.gate_count p.output_count at low

    pub first-drops : Drops p (λ _. 0) p.uses old.first.0
    first-drops = drops old.first.0 old-within.some_first (omega (arith, old-within.first)) (λ i. omega (arith, old-counted i)) as_counted

    pub second-drops : Drops p (λ i. 0 + place_uses old.first.0 i) (without_use old.first.0 p.uses) old.second.0
    second-drops =
        drops old.second.0 old-within.some_second (omega (arith, old-within.second)) (λ i. omega (arith, old-counted i)) first-drops.left

    gate_lacks : (g : Gate) → Lacks (with_gate_at p.gate_count at g p) (gate_uses g) (without_operands old p.uses)
    unfolding without_operands
    gate_lacks g =
        let room : at < length p.gates = omega (arith, places.gates, counts.gates) in
        exchanged (set p.gates at g) p.outputs
        (λ i. omega (arith, uses-gate-set p.gates p.outputs (suc i) p.gate_count p.output_count at g low room)) second-drops.left

    pub gate-replaced : (g : Gate) → GateWithin (gate_wire p.inputs at) g
        → with_operands g (without_operands old p.uses) ≡ (settled (with_gate_at p.gate_count at g p)).uses
    gate-replaced g within = gate-settles g (wider (omega arith) within) (gate_lacks g)

  -- a gate more
  module _ (room : suc p.gate_count ≤ max_gates) (g : Gate) where
    abbrev more : Plan
    more = with_gate_at (suc p.gate_count) p.gate_count g p

    -- it adds what it names
    more-counted : (i : ℕ) → counted_uses more i ≡ counted_uses p i + gate_uses g i
    more-counted i =
        let k = p.gate_count in
        let v = p.output_count in
        let same = uses-same k v more.gates p.gates p.outputs p.outputs (suc i)
        (λ j l. get_or-set_other p.gates k j g zero_gate (λ e. absurd (omega arith))) (λ j l. refl) in
        let here = get_or-set_same p.gates k g zero_gate (omega (arith, places.gates)) in
        omega (arith, same, rw here at (uses-gate more.gates p.outputs (suc i) k v))

    more_lacks : Lacks more (gate_uses g) (set p.uses (wire_count p) 0)
    more_lacks = let c = counts in let n = wire_count p in record {
      counts = record {
        some_inputs = c.some_inputs;
        inputs = c.inputs;
        some_gates = omega arith;
        gates = room;
        some_outputs = c.some_outputs;
        outputs = c.outputs;
      };
      full = places.uses;
      all = length-set p.uses n 0 ∙ places.uses;
      each = λ i l. elim (ℕ_discrete i n) [
        | yes e ↦
            let none = get_or-set_same p.uses i 0 0 (omega (arith, places.uses, c.inputs)) in
            rw (← e, none) (omega (arith, more-counted i, unnamed p accepted i (omega arith)))
        | no d ↦
            rw (get_or-set_other p.uses n i 0 0 d) (omega (arith, more-counted i, (accepted-tallied p accepted).uses i (omega arith)))
      ];
      past = λ i h. get_or-set_other p.uses n i 0 0 (λ e. absurd (omega arith));
    }

    pub gate-appended : GateWithin (gate_wire p.inputs p.gate_count) g → with_operands g (set p.uses (wire_count p) 0) ≡ (settled more).uses
    gate-appended within = gate-settles g (wider (omega arith) within) more_lacks

  -- the output at a place is dropped, and another takes it
  module _ (at : ℕ) (low : at < p.output_count) where
    abbrev old-wire : ℕ
    old-wire = (output_at p at).0

    old-output : (i : ℕ) → place_uses old-wire i ≤ counted_uses p i
    old-output i = output-named p.gates p.outputs (suc i) p.gate_count p.output_count at low

    pub output-drops : Drops p (λ _. 0) p.uses old-wire
    output-drops =
        let within = accepted-output p accepted at low in
        drops old-wire (omega (arith, within.above)) within.up_to (λ i. omega (arith, old-output i)) as_counted

    output_lacks : (o : PlanWire) → Lacks (with_output_at at o p) (place_uses o.0) (without_use old-wire p.uses)
    output_lacks o =
        let room : at < length p.outputs = omega (arith, places.outputs, counts.outputs) in
        exchanged p.gates (set p.outputs at o)
        (λ i. omega (arith, uses-output-set p.gates p.outputs (suc i) p.gate_count p.output_count at o low room)) output-drops.left

    pub output-replaced : (o : PlanWire) → OutputWithin p.inputs p.gate_count o.0
        → with_use o.0 (without_use old-wire p.uses) ≡ (settled (with_output_at at o p)).uses
    output-replaced o within = output-settles o.0 within.up_to (output_lacks o)

-- ---- what an edit says

-- the plan with this K and these uses
abbrev with_figures : Plan → ℕ → List ℕ → Plan
with_figures p places uses = record {
  inputs = p.inputs;
  gate_count = p.gate_count;
  output_count = p.output_count;
  gates = p.gates;
  outputs = p.outputs;
  gate_places = places;
  uses = uses;
}

-- this number with this plan
abbrev outcome : ℕ → Plan → EditOutcome
outcome n p = record { number = n; plan = p }

-- a check refused with f: the plan as it went in
pub edit_exits : {n : ℕ} (made p : Plan) (r : Result Plan Fault) (f : Fault) → IsErrAnd r (λ x. x ≡ f) → fault_number f ≡ n
    → edited_outcome p r ≡ edit_outcome n made p
edit_exits {n = zero} made p r f h e = absurd (omega (arith, number-positive f))
edit_exits {n = suc n} made p r f h e = let (x, is, same) = err_from_is_err_and r h in rw (is, same) (ap (λ m. outcome m p) e)

-- no check failed, and K and the uses are settled
pub edit_done : {n : ℕ} (q p : Plan) (places : ℕ) (uses : List ℕ) → 0 ≡ n → places ≡ (settled q).gate_places → uses ≡ (settled q).uses
    → outcome 0 (with_figures q places uses) ≡ edit_outcome n (settled q) p
edit_done q p places uses e h i = rw (← e) (ap₂ (λ a b. outcome 0 (with_figures q a b)) h i)
