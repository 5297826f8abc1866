-- Laws of the lists over which gates are taken, and of the plan of a drawing: where all gates are taken, every wire has the number that the plan gives it.
use mathlib.Core.Path.{◌≡◌, refl, sym, ap, ap₂, ◌∙◌}
use mathlib.Core.Bool.{true}
use mathlib.Core.List.{List, [], ◌∷◌, ◌++◌}
use Rattle.std.specs.Prelude.{Some, None}
use Prim.Native.Nat.{ℕ, zero-le, suc, ◌+◌, ◌%◌, ◌-◌, ◌≤◌, ◌<◌}
use native.Mathlib.Decide.{dec_le}
use native.Mathlib.Numerals.{add-one}
use native.Mathlib.Omega.{arith}
use borrow.Author.Tests.{eq-eqb, ne_eqb, le-leb, lt-leb}
use lib.ListN.{length, get_or, set, drop, replicate, length-replicate, length-append, length-drop, get_or-append}
use lib.Seq.{get_or-append-add, get_or-drop}
use Rattle.lists.specs.Lists.{list_of}
use Rattle.lists.proofs.ListsLaws.{length-list_of, get_or-list_of}
use Rattle.lists.proofs.CountingLaws.{both_ways, not_fails, nth_lowest}
use Rattle.fault.specs.declared.Fault.{Fault}
use Rattle.fault.specs.Buffers.{over}
use Rattle.plan.specs.declared.record.Gate.{Gate}
use Rattle.plan.specs.declared.record.Plan.{Plan}
use Rattle.plan.specs.declared.record.PlanWire.{PlanWire}
use Rattle.plan.specs.Record.{word_numbers, max_inputs, max_gates, max_outputs, max_plan_wires, zero_gate, zero_plan, wire, gate_wire, places, gate_at, output_at}
use Rattle.plan.proofs.RecordLaws.{wire-fits, places-more, length-places, get_or-places}
use Rattle.plan.specs.Faults.{CountsWithin, GateWithin}
use Rattle.plan.specs.Counting.{with_use, with_operands, UsesCounted}
use Rattle.plan.proofs.UsesLaws.{none-counted, stored-gate, stored-output}
use Rattle.plan_reading.proofs.PartsLaws.{HasCounts, plan-held}
use native.Mathlib.Nat.{le_of_lt}
use Rattle.plan_fields.specs.Parsing.{Parsed, got, refused, refuse, in_order}
use Rattle.plan_fields.specs.Fields.{gate_step_within}
use Rattle.plan_fields.proofs.ParsingLaws.{item-got, item_refused, still_refused}
use Rattle.plan_reading.specs.PlanFile.{header_bytes, gate_steps}
use Rattle.plan_order.specs.Order.{TakenInOrder}
use Rattle.plan_order.specs.Drawing.{drawn_first, drawn_second, drawn_order, drawn_left, renumbered, renumbered_gate, ordered_plan, drawn_numbers, DrawingWithin, Orderable}
use Rattle.plan_order.proofs.OrderLaws.{order_theorem, all-taken, taken-all}
use Rattle.plan_drawn.specs.DrawnFile.{cursor_behind, map_offset, no_cycle}
use Rattle.plan_drawn.specs.Taking.{numbers_of, Started, OrderTaken}
use Rattle.plan_drawn.proofs.TakingLaws.{not_not, number-input, number-taken, number-none}

-- one place more of a list that is given place by place
pub places-step : {A : Type 0} (n : ℕ) (none : A) (f : ℕ → A) {l : List A} (i : ℕ) {x : A} → l ≡ places n none (list_of i f) → x ≡ f i → i < n
    → set l i x ≡ places n none (list_of (i + 1) f)
unfolding list_of
places-step n none f {l} i {x} held e room =
    ap₂ (λ (m : List _) y. set m i y) held e ∙ places-more n none (list_of i f) (f i) i (length-list_of i f) room
    ∙ rw (add-one i)

-- the plan's gate at a place, and its output
abbrev pub gate_placed : Plan → ℕ → Gate
gate_placed d p = renumbered_gate d (gate_at d (get_or (drawn_order d) p 0))

abbrev pub output_placed : Plan → ℕ → PlanWire
output_placed d j = wire (renumbered d (output_at d j).0)

-- ---- once the gates are taken

module _ {d : Plan} (within : DrawingWithin d) {numbers drawn : List ℕ} where
  -- the lowest gate is left over: 15 at its map byte
  pub cycle_found : {low : ℕ} → OrderTaken d (Some low) numbers drawn → (s : List ℕ) (at : ℕ)
      → no_cycle d s at ≡ refuse Fault.Ring (map_offset d.inputs d.gate_count low s)
  unfolding no_cycle
  cycle_found {low} taken s at =
      let left = taken.left in
      let same : drawn_left d ≡ low = nth_lowest _ d.gate_count low left.low left.passes (λ i l. left.none.each i zero-le l) in
      let few : length (drawn_order d) ≡ d.gate_count → ⊥ = λ e.
      both_ways (all-taken d.inputs d.gate_count (drawn_first d) (drawn_second d) d.gate_count e low left.low) (not_fails left.passes) in
      rw (ne_eqb (length (drawn_order d)) d.gate_count few, same)

  -- no gate is: the drawing has an order, the list of drawn numbers is its own, and every wire has the number that the plan gives it
  module _ (taken : OrderTaken d None numbers drawn) where
    pub orderable : Orderable d
    orderable = record {
      within = within;
      all = taken-all d.inputs d.gate_count (drawn_first d) (drawn_second d) d.gate_count (λ g l. not_not (taken.left.each g zero-le l));
    }

    pub all_listed : drawn ≡ drawn_numbers d
    all_listed = taken.listed ∙ ap (λ n. places max_gates 0 (list_of n (λ p. suc (get_or (drawn_order d) p 0)))) orderable.all

    pub no_cycle-found : (s : List ℕ) (at : ℕ) → no_cycle d s at ≡ got d at
    unfolding no_cycle
    no_cycle-found s at = rw (eq-eqb (length (drawn_order d)) d.gate_count orderable.all)

    in_order_lem : TakenInOrder d.inputs d.gate_count (drawn_first d) (drawn_second d)
    in_order_lem = order_theorem d.inputs d.gate_count (drawn_first d) (drawn_second d) orderable.all

    -- the drawn gate at a place, by the list of drawn numbers
    pub record DrawnAt (p : ℕ) : Type 0 where
      pub some : 1 ≤ get_or drawn p 0
      pub here : get_or drawn p 0 - 1 ≡ get_or (drawn_order d) p 0
      pub low : get_or drawn p 0 - 1 < d.gate_count
      pub held : GateWithin (suc (d.inputs + d.gate_count)) (gate_at d (get_or drawn p 0 - 1))

    pub drawn-at : (p : ℕ) → p < d.gate_count → DrawnAt p
    drawn-at p l =
        let n : get_or drawn p 0 ≡ suc (get_or (drawn_order d) p 0) =
        ap (λ (m : List ℕ). get_or m p 0) all_listed ∙ get_or-places max_gates 0 (list_of d.gate_count (λ p. suc (get_or (drawn_order d) p 0))) p
        ∙ get_or-list_of d.gate_count (λ p. suc (get_or (drawn_order d) p 0)) p 0 l in
        let low : get_or drawn p 0 - 1 < d.gate_count = omega (arith, in_order_lem.below p l) in
        record { some = omega arith; here = omega arith; low = low; held = within.gate _ low }

    number_of : (w : ℕ) → w ≤ d.inputs + d.gate_count → get_or numbers w 0 ≡ renumbered d w
    unfolding renumbered
    number_of w l = taken.numbered.each w l ∙ elim (dec_le w d.inputs) [
      | yes h ↦ number-input d.inputs (drawn_order d) w h ∙ rw (le-leb w d.inputs h)
      | no f ↦
          let above : d.inputs < w = omega arith in
          number-taken d.inputs (drawn_order d) w above (in_order_lem.every (w - suc d.inputs) (omega arith)) ∙ rw (lt-leb w d.inputs above)
    ]

    -- a wire by its number
    wire_of_lem : (w : ℕ) {x : PlanWire} → w ≤ d.inputs + d.gate_count → x.0 ≡ get_or numbers w 0 → x ≡ wire (renumbered d w)
    wire_of_lem w l e = ap wire (e ∙ number_of w l)

    -- an output, and the gate at a place, by their numbers
    pub ordered_output : (j : ℕ) {x : PlanWire} → j < d.output_count → x.0 ≡ get_or numbers (output_at d j).0 0 → x ≡ output_placed d j
    ordered_output j l e = wire_of_lem (output_at d j).0 (within.output j l).up_to e

    pub gate_of_lem : {p : ℕ} (at : DrawnAt p) {x y : PlanWire}
        → x.0 ≡ get_or numbers (gate_at d (get_or drawn p 0 - 1)).first.0 0
        → y.0 ≡ get_or numbers (gate_at d (get_or drawn p 0 - 1)).second.0 0
        → ◌≡◌ {A = Gate} (record { first = x; second = y; table = (gate_at d (get_or drawn p 0 - 1)).table }) (gate_placed d p)
    gate_of_lem {p} at {x} {y} e f =
        let g = gate_at d (get_or drawn p 0 - 1) in
        ap₂ (λ a b. record { first = a; second = b; table = g.table })
        (wire_of_lem g.first.0 (omega (arith, at.held.first)) e) (wire_of_lem g.second.0 (omega (arith, at.held.second)) f)
        ∙ ap (λ h. renumbered_gate d (gate_at d h)) at.here

-- ---- the plan of a drawing

-- i gates and j outputs stand in the plan, and their uses are counted
pub record OrderedSoFar (d : Plan) (i j : ℕ) (p : Plan) : Type 0 where
  pub counts : HasCounts d.inputs d.gate_count d.output_count p
  pub gates : p.gates ≡ places max_gates zero_gate (list_of i (gate_placed d))
  pub outputs : p.outputs ≡ places max_outputs (wire 0) (list_of j (output_placed d))
  pub uses : UsesCounted i j p.gates p.outputs p.uses

-- none does
pub none_ordered : {d p : Plan} → HasCounts d.inputs d.gate_count d.output_count p → p.gates ≡ zero_plan.gates → p.outputs ≡ zero_plan.outputs
    → p.uses ≡ zero_plan.uses → OrderedSoFar d 0 0 p
unfolding places list_of
none_ordered {p = p} counts gs os us = record { counts = counts; gates = gs; outputs = os; uses = rw us (none-counted p.gates p.outputs) }

module _ {d : Plan} {i j : ℕ} {p : Plan} (r : OrderedSoFar d i j p) (counts : CountsWithin d.inputs d.gate_count d.output_count) where
  -- one output more
  pub output_ordered : {o : PlanWire} → i ≤ max_gates → j < d.output_count → o ≡ output_placed d j
      → OrderedSoFar d i (j + 1) (record p { outputs = set p.outputs j o; uses = with_use o.0 p.uses })
  output_ordered {o} few l e =
      let room : j < max_outputs = omega (arith, counts.outputs) in
      let held : length p.outputs ≡ max_outputs = ap length r.outputs ∙ length-places max_outputs (wire 0) _ (omega (arith, length-list_of j (output_placed d))) in
      record {
        counts = record { inputs = r.counts.inputs; gates = r.counts.gates; outputs = r.counts.outputs; places = r.counts.places };
        gates = r.gates;
        outputs = places-step max_outputs (wire 0) (output_placed d) j r.outputs e room;
        uses = rw (add-one j) (stored-output r.uses few (le_of_lt room) o (omega arith));
      }

  -- one gate more
  pub gate_ordered : {g : Gate} → j ≤ max_outputs → i < d.gate_count → g ≡ gate_placed d i
      → OrderedSoFar d (i + 1) j (record p { gates = set p.gates i g; uses = with_operands g p.uses })
  gate_ordered {g} few l e =
      let room : i < max_gates = omega (arith, counts.gates) in
      let held : length p.gates ≡ max_gates = ap length r.gates ∙ length-places max_gates zero_gate _ (omega (arith, length-list_of i (gate_placed d))) in
      record {
        counts = record { inputs = r.counts.inputs; gates = r.counts.gates; outputs = r.counts.outputs; places = r.counts.places };
        gates = places-step max_gates zero_gate (gate_placed d) i r.gates e room;
        outputs = r.outputs;
        uses = rw (add-one i) (stored-gate r.uses (le_of_lt room) few g (omega arith));
      }

  -- all of them: the plan of the drawing
  pub all_ordered : i ≡ d.gate_count → j ≡ d.output_count → p ≡ ordered_plan d
  all_ordered e f =
      plan-held _ _ r.counts (rw e at r.gates) (rw f at r.outputs) (rw (e, f) at r.uses)

-- ---- reading gates again

-- the first i gates of a drawing's file are read, behind the header, up to the cursor
pub record GatesRead (u k i : ℕ) (s : List ℕ) (at : ℕ) : Type 0 where
  pub gates : List Gate
  pub parsed : gate_steps true u k i s header_bytes ≡ got gates at

-- none is
pub none-read : (u k : ℕ) (s : List ℕ) → GatesRead u k 0 s header_bytes
unfolding in_order
none-read u k s = record { gates = []; parsed = refl }

module _ {u k i : ℕ} {s : List ℕ} {at : ℕ} (read : GatesRead u k i s at) where
  -- what is read of gate i, before a gate g
  module _ {g bound own : ℕ} (low : i < g) (some : g ≤ k) (inputs : u ≤ max_inputs) (gates : k ≤ max_gates) (b : bound ≡ gate_wire u k % word_numbers)
      (w : own ≡ gate_wire u i % word_numbers) where
    is_item : {o : Parsed Gate} → o ≡ gate_step_within bound own s at → gate_step_within (gate_wire u k) (gate_wire u i) s at ≡ o
    is_item e = sym (e ∙ ap₂ (λ m n. gate_step_within m n s at) (b ∙ wire-fits inputs gates) (w ∙ wire-fits inputs (omega arith)))

    -- one gate more is read
    pub gate_read : {x : Gate} {next : ℕ} → got x next ≡ gate_step_within bound own s at → GatesRead u k (i + 1) s next
    gate_read {x} e = record { gates = read.gates ++ (x ∷ []); parsed = rw (add-one i) (item-got _ _ _ i _ _ _ _ read.parsed (is_item e)) }

    -- gate i is refused: that is where gate g stands too
    pub refused_before : {n o : ℕ} → refused n o ≡ gate_step_within bound own s at → o ≡ map_offset u k g s
    unfolding map_offset
    refused_before e = ap cursor_behind (sym (still_refused _ _ _ _ _ _ _ low (item_refused _ _ _ i _ _ _ _ read.parsed (is_item e))))

  -- all gates before gate i are read
  pub behind_read : {g : ℕ} → i ≡ g → at ≡ map_offset u k g s
  unfolding map_offset
  behind_read e = rw (← e, read.parsed)

-- ---- the lists over which gates are taken

-- what was written over a list's front
written_at : (n : ℕ) (f : ℕ → ℕ) (old : List ℕ) {l : List ℕ} → l ≡ over (list_of n f) old → (i : ℕ) → i < n → get_or l i 0 ≡ f i
written_at n f old e i h =
    ap (λ (m : List ℕ). get_or m i 0) e ∙ get_or-append (list_of n f) _ 0 i (rw (length-list_of n f) h) ∙ get_or-list_of n f i 0 h

-- what stands behind it
written_behind : (n : ℕ) (f : ℕ → ℕ) (old : List ℕ) {l : List ℕ} → l ≡ over (list_of n f) old → (i : ℕ) → n ≤ i → get_or l i 0 ≡ get_or old i 0
written_behind n f old e i h =
    let X = list_of n f in
    let size = length-list_of n f in
    let place : i ≡ length X + (i - n) = omega (arith, size) in
    ap (λ (m : List ℕ). get_or m i 0) e ∙ ap (λ (j : ℕ). get_or (over X old) j 0) place ∙ get_or-append-add X (drop (length X) old) (i - n) 0
    ∙ get_or-drop (length X) old (i - n) 0 ∙ ap (λ (j : ℕ). get_or old j 0) (sym place)

-- no gate is taken: inputs alone have numbers
abbrev no_numbers : List ℕ
no_numbers = replicate (suc max_plan_wires) 0

nothing_at : (w : ℕ) → get_or no_numbers w 0 ≡ 0
unfolding places
nothing_at = get_or-places (suc max_plan_wires) 0 []

nothing_listed : replicate max_gates 0 ≡ numbers_of []
unfolding places list_of
nothing_listed = refl

pub started : {d : Plan} {numbers : List ℕ} → DrawingWithin d → numbers ≡ over (list_of (suc d.inputs) (λ w. w)) (replicate (suc max_plan_wires) 0)
    → Started d numbers (replicate max_gates 0)
started {d} {numbers} within e =
    let u = d.inputs in
    let X = list_of (suc u) (λ (w : ℕ). w) in
    let size = length-list_of (suc u) (λ (w : ℕ). w) in
    let counts = within.counts in
    record {
      numbered = record {
        held = record {
          inputs = counts.inputs;
          gates = counts.gates;
          wires = omega (arith, ap length e, length-append X (drop (length X) no_numbers), size, length-drop (length X) no_numbers, length-replicate {A = ℕ} (suc max_plan_wires) 0);
        };
        each = λ w l. elim (dec_le w u) [
          | yes h ↦ written_at (suc u) (λ w. w) no_numbers e w (omega arith) ∙ sym (number-input u [] w h)
          | no f ↦ written_behind (suc u) (λ w. w) no_numbers e w (omega arith) ∙ nothing_at w ∙ sym (number-none u w (omega arith))
        ];
      };
      listed = nothing_listed;
    }
