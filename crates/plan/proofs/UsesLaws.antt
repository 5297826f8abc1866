-- Laws of uses: one gate or one output more, or another one; equal gates and outputs; a wire that nothing names; and counting them in an array.
use Rattle.std.proofs.Common.{◌≡◌, ℕ, suc, ◌+◌, ◌-◌, ◌*◌, ◌%◌, ◌<◌, ◌≤◌, Bool, false, eqb, List, length, get_or, set, replicate, sym, refl, ap, ◌∙◌, inl, inr, mod-eq_of_lt, arith, length-set, get_or-set_other, get_or-set_same, ext_get_or, eq-eqb, ne_eqb}
use native.Mathlib.Decide.{ℕ_discrete}
use lib.ListN.{length-replicate, get_or-replicate}
use Rattle.lists.specs.Lists.{list_of}
use Rattle.lists.specs.Counting.{one_if, count_of}
use Rattle.lists.proofs.ListsLaws.{length-list_of, get_or-list_of}
use Rattle.lists.proofs.CountingLaws.{passed, count_le, count-one, count_ext, count_changed, none_passes, one_lt}
use Rattle.powers.specs.Powers.{ceil_power}
use Rattle.powers.proofs.PowersLaws.{smallest}
use Rattle.plan.specs.declared.record.Gate.{Gate}
use Rattle.plan.specs.declared.record.PlanWire.{PlanWire}
use Rattle.plan.specs.Record.{word_numbers, max_gates, max_outputs, max_plan_wires, wire, zero_gate, uses_of}
use Rattle.plan.specs.Rules.{count_allowed}
use Rattle.plan.specs.Counting.{with_use, with_operands, UsesCounted}
use Rattle.plan.proofs.RulesLaws.{count_bounds}

-- whether a gate's operand, or an output, names wire w
abbrev first-names : List Gate → ℕ → ℕ → Bool
first-names gs w i = eqb (get_or gs i zero_gate).first.0 w

abbrev second-names : List Gate → ℕ → ℕ → Bool
second-names gs w i = eqb (get_or gs i zero_gate).second.0 w

abbrev output-names : List PlanWire → ℕ → ℕ → Bool
output-names os w j = eqb (get_or os j (wire 0)).0 w

-- ---- uses

module _ (gs : List Gate) (os : List PlanWire) (w : ℕ) where
  -- by one gate more, by one output more
  pub uses-gate : (k v : ℕ) → uses_of (suc k) v gs os w ≡ uses_of k v gs os w + one_if (first-names gs w k) + one_if (second-names gs w k)
  unfolding uses_of count_of
  uses-gate k v = omega arith

  pub uses-output : (k v : ℕ) → uses_of k (suc v) gs os w ≡ uses_of k v gs os w + one_if (output-names os w v)
  unfolding uses_of count_of
  uses-output k v = omega arith

  -- no more than there are operand places and outputs
  pub uses_le : (k v : ℕ) → uses_of k v gs os w ≤ 2 * k + v
  unfolding uses_of
  uses_le k v = omega (arith, count_le (first-names gs w) k, count_le (second-names gs w) k, count_le (output-names os w) v)

  -- what a gate names, and what an output names, is counted
  pub gate-named : (k v at : ℕ) → at < k → one_if (first-names gs w at) + one_if (second-names gs w at) ≤ uses_of k v gs os w
  unfolding uses_of
  gate-named k v at l = omega (arith, count-one (first-names gs w) k at l, count-one (second-names gs w) k at l)

  pub output-named : (k v at : ℕ) → at < v → one_if (output-names os w at) ≤ uses_of k v gs os w
  unfolding uses_of
  output-named k v at l = omega (arith, count-one (output-names os w) v at l)

  -- another gate at a place, another output
  pub uses-gate-set : (k v at : ℕ) (g : Gate) → at < k → at < length gs
      → uses_of k v (set gs at g) os w + (one_if (first-names gs w at) + one_if (second-names gs w at))
      ≡ uses_of k v gs os w + (one_if (eqb g.first.0 w) + one_if (eqb g.second.0 w))
  unfolding uses_of
  uses-gate-set k v at g l room =
      let here = get_or-set_same gs at g zero_gate room in
      let a = count_changed (first-names (set gs at g) w) (first-names gs w) k at l
      (λ i d. ap (λ h. eqb h.first.0 w) (get_or-set_other gs at i g zero_gate d)) in
      let b = count_changed (second-names (set gs at g) w) (second-names gs w) k at l
      (λ i d. ap (λ h. eqb h.second.0 w) (get_or-set_other gs at i g zero_gate d)) in
      omega (arith, rw here at a, rw here at b)

  pub uses-output-set : (k v at : ℕ) (o : PlanWire) → at < v → at < length os
      → uses_of k v gs (set os at o) w + one_if (output-names os w at) ≡ uses_of k v gs os w + one_if (eqb o.0 w)
  unfolding uses_of
  uses-output-set k v at o l room =
      let here = get_or-set_same os at o (wire 0) room in
      let a = count_changed (output-names (set os at o) w) (output-names os w) v at l
      (λ j d. ap (λ h. eqb h.0 w) (get_or-set_other os at j o (wire 0) d)) in
      omega (arith, rw here at a)

-- gates and outputs that are equal up to their counts
pub uses-same : (k v : ℕ) (gs hs : List Gate) (os ps : List PlanWire) (w : ℕ) → ((i : ℕ) → i < k → get_or gs i zero_gate ≡ get_or hs i zero_gate)
    → ((j : ℕ) → j < v → get_or os j (wire 0) ≡ get_or ps j (wire 0)) → uses_of k v gs os w ≡ uses_of k v hs ps w
unfolding uses_of
uses-same k v gs hs os ps w gates outputs =
    let a = count_ext (first-names gs w) (first-names hs w) k (λ i l. ap (λ g. eqb g.first.0 w) (gates i l)) in
    let b = count_ext (second-names gs w) (second-names hs w) k (λ i l. ap (λ g. eqb g.second.0 w) (gates i l)) in
    let c = count_ext (output-names os w) (output-names ps w) v (λ j l. ap (λ o. eqb o.0 w) (outputs j l)) in
    omega (arith, a, b, c)

-- a wire above all that gates and outputs name
pub uses-above : (k v : ℕ) (gs : List Gate) (os : List PlanWire) (w : ℕ)
    → ((i : ℕ) → i < k → ((get_or gs i zero_gate).first.0 < w) × ((get_or gs i zero_gate).second.0 < w))
    → ((j : ℕ) → j < v → (get_or os j (wire 0)).0 < w) → uses_of k v gs os w ≡ 0
unfolding uses_of
uses-above k v gs os w operands outputs =
    let a = none_passes (first-names gs w) k (λ i l. ne_eqb _ w (λ e. absurd (omega (arith, (operands i l).0)))) in
    let b = none_passes (second-names gs w) k (λ i l. ne_eqb _ w (λ e. absurd (omega (arith, (operands i l).1)))) in
    let c = none_passes (output-names os w) v (λ j l. ne_eqb _ w (λ e. absurd (omega (arith, outputs j l)))) in
    omega (arith, a, b, c)

-- K of a plan's gates has 16 bits
pub places_le : {k places : ℕ} → places ≡ ceil_power k → k ≤ max_gates → places ≤ max_gates
places_le {k} e few = omega (arith, smallest k 8 few)

-- ---- counting in an array

-- a wire that has a place, and one that has none
pub use_placed : (w : ℕ) (uses : List ℕ) → 1 ≤ w → w ≤ max_plan_wires → with_use w uses ≡ set uses (w - 1) ((get_or uses (w - 1) 0 + 1) % word_numbers)
unfolding with_use
use_placed w uses some few = rw ((count_bounds max_plan_wires w).1 (some, few))

pub use_none : (w : ℕ) (uses : List ℕ) → count_allowed max_plan_wires w ≡ false → with_use w uses ≡ uses
unfolding with_use
use_none w uses e = rw e

pub length_use : (w : ℕ) (uses : List ℕ) → length (with_use w uses) ≡ length uses
unfolding with_use
length_use w uses = elim (passed (count_allowed max_plan_wires w)) [
  | inl t ↦ rw t (length-set uses (w - 1) _)
  | inr f ↦ rw f
]

-- the uses of another wire
pub use_other : (w : ℕ) (uses : List ℕ) (i : ℕ) → (w ≡ suc i → ⊥) → get_or (with_use w uses) i 0 ≡ get_or uses i 0
use_other w uses i d = elim (passed (count_allowed max_plan_wires w)) [
  | inl t ↦
      let (some, few) = (count_bounds max_plan_wires w).0 t in
      ap (λ (m : List ℕ). get_or m i 0) (use_placed w uses some few) ∙ get_or-set_other uses (w - 1) i _ 0 (λ e. absurd (d (omega arith)))
  | inr n ↦ rw (use_none w uses n)
]

-- one use more of wire w, as far as numbers go
pub use_at : (w : ℕ) (uses : List ℕ) (i : ℕ) → length uses ≡ max_plan_wires → i < max_plan_wires → get_or uses i 0 + 1 < word_numbers
    → get_or (with_use w uses) i 0 ≡ get_or uses i 0 + one_if (eqb w (suc i))
use_at w uses i size l small = elim (ℕ_discrete w (suc i)) [
  | yes e ↦
      let here : w - 1 ≡ i = omega arith in
      rw (eq-eqb w (suc i) e, use_placed w uses (omega arith) (omega arith), here)
      (get_or-set_same uses i ((get_or uses i 0 + 1) % word_numbers) 0 (omega arith) ∙ mod-eq_of_lt small)
  | no d ↦ rw (ne_eqb w (suc i) d) (use_other w uses i d ∙ omega arith)
]

-- nothing is counted
pub none-counted : (gs : List Gate) (os : List PlanWire) → UsesCounted 0 0 gs os (replicate max_plan_wires 0)
unfolding uses_of count_of
none-counted gs os = record { all = length-replicate {A = ℕ} max_plan_wires 0; each = λ i l. get_or-replicate max_plan_wires i 0 0 l }

module _ {k v : ℕ} {gs : List Gate} {os : List PlanWire} {uses : List ℕ} (counted : UsesCounted k v gs os uses) where
  -- the same gates and outputs up to the counts
  pub counted_same : {hs : List Gate} {ps : List PlanWire} → ((i : ℕ) → i < k → get_or gs i zero_gate ≡ get_or hs i zero_gate)
      → ((j : ℕ) → j < v → get_or os j (wire 0) ≡ get_or ps j (wire 0)) → UsesCounted k v hs ps uses
  counted_same {hs} {ps} gates outputs = record {
    all = counted.all;
    each = λ i l. counted.each i l ∙ uses-same k v gs hs os ps (suc i) gates outputs;
  }

  module _ (few : k ≤ max_gates) (fewer : v ≤ max_outputs) where
    small : (i : ℕ) → i < max_plan_wires → get_or uses i 0 + 2 < word_numbers
    small i l = omega (arith, counted.each i l, uses_le gs os (suc i) k v)

    -- a gate more
    pub gate-counted : {g : Gate} → get_or gs k zero_gate ≡ g → UsesCounted (suc k) v gs os (with_operands g uses)
    unfolding with_operands
    gate-counted {g} e = record {
      all = length_use g.second.0 (with_use g.first.0 uses) ∙ length_use g.first.0 uses ∙ counted.all;
      each = λ i l.
          let once : get_or (with_use g.first.0 uses) i 0 ≡ get_or uses i 0 + one_if (eqb g.first.0 (suc i)) =
          use_at g.first.0 uses i counted.all l (omega (arith, small i l)) in
          let one = one_lt (eqb g.first.0 (suc i)) in
          let twice = use_at g.second.0 (with_use g.first.0 uses) i (length_use g.first.0 uses ∙ counted.all) l
          (omega (arith, small i l, once, one)) in
          let more = rw e at (uses-gate gs os (suc i) k v) in
          omega (arith, once, twice, more, counted.each i l);
    }

    -- an output more
    pub output-counted : {o : PlanWire} → get_or os v (wire 0) ≡ o → UsesCounted k (suc v) gs os (with_use o.0 uses)
    output-counted {o} e = record {
      all = length_use o.0 uses ∙ counted.all;
      each = λ i l.
          let once = use_at o.0 uses i counted.all l (omega (arith, small i l)) in
          let more = rw e at (uses-output gs os (suc i) k v) in
          omega (arith, once, more, counted.each i l);
    }

  -- the array is the list of all uses
  pub counted-list : uses ≡ list_of max_plan_wires (λ i. uses_of k v gs os (suc i))
  counted-list =
      ext_get_or 0 uses _ (counted.all ∙ sym (length-list_of max_plan_wires _)) λ i l.
      let h : i < max_plan_wires = omega (arith, counted.all) in
      counted.each i h ∙ sym (get_or-list_of max_plan_wires (λ i. uses_of k v gs os (suc i)) i 0 h)

-- a gate more that is stored at its place, and an output
module _ {k v : ℕ} {gs : List Gate} {os : List PlanWire} {uses : List ℕ} (counted : UsesCounted k v gs os uses) (few : k ≤ max_gates) (fewer : v ≤ max_outputs) where
  pub stored-gate : (g : Gate) → k < length gs → UsesCounted (suc k) v (set gs k g) os (with_operands g uses)
  stored-gate g room =
      gate-counted (counted_same counted {hs = set gs k g} {ps = os} (λ i l. sym (get_or-set_other gs k i g zero_gate (λ e. absurd (omega arith)))) (λ j _. refl))
      few fewer (get_or-set_same gs k g zero_gate room)

  pub stored-output : (o : PlanWire) → v < length os → UsesCounted k (suc v) gs (set os v o) (with_use o.0 uses)
  stored-output o room =
      output-counted (counted_same counted {hs = gs} {ps = set os v o} (λ i _. refl) (λ j l. sym (get_or-set_other os v j o (wire 0) (λ e. absurd (omega arith)))))
      few fewer (get_or-set_same os v o (wire 0) room)
