-- A plan is accepted exactly if its counts, each of its gates and each of its outputs are allowed and its figures are the counted ones: each check of the
-- plan's faults is replaced by what it tests. Then that as bounds, both ways.
use Rattle.std.proofs.Common.{◌≡◌, ℕ, zero, suc, ◌+◌, ◌<◌, ◌≤◌, Bool, true, not, eqb, ◌↔◌, List, length, get_or, take, sym, refl, ap, ◌∙◌, subst, ap₂, inl, inr, arith, eqb-true, eq-eqb, ne_eqb, ext_get_or, length-take, get_or-take}
use Rattle.std.specs.Prelude.{Result, IsErrAnd}
use Rattle.std.proofs.lemmas.Result.{err_from_is_err_and}
use Rattle.std.proofs.lemmas.Bool.Decides.{Decides-eqb}
use Rattle.std.proofs.lemmas.Slice.Eq.{slice_eq-Decides}
use Rattle.std.specs.Cmp.Lexicographic.{pointwise}
use native.Mathlib.Decide.{ℕ_discrete}
use Rattle.lists.proofs.CountingLaws.{passed, both_ways}
use Rattle.fault.specs.declared.Fault.{Fault}
use Rattle.fault.specs.Number.{fault_number, answer_number}
use Rattle.fault.specs.Checks.{unless, and_then, first_of}
use Rattle.fault.proofs.ChecksLaws.{eqb_iff, unless-zero, and_then-zero, first_of-zero, stop}
use Rattle.lists.proofs.ListsLaws.{get_or-list_of}
use Rattle.powers.specs.Powers.{ceil_power}
use Rattle.plan.specs.declared.record.Gate.{Gate}
use Rattle.plan.specs.declared.record.Plan.{Plan}
use Rattle.plan.specs.declared.record.PlanWire.{PlanWire}
use Rattle.plan.specs.Record.{max_inputs, max_gates, max_outputs, max_plan_wires, wire, zero_gate, gate_at, output_at, gate_wire, uses_of, counted_uses, plan_of}
use Rattle.plan.specs.Rules.{count_allowed, operand_allowed, table_allowed, source_allowed}
use Rattle.plan.specs.Faults.{counts_fault, gate_fault, output_fault, gates_fault, outputs_fault, figures_fault, tally_fault, plan_fault, Accepted, CountsWithin, GateWithin, OutputWithin, PlanWithin, Tallied}
use Rattle.plan.proofs.RecordLaws.{get_or-places}
use Rattle.plan.proofs.UsesLaws.{uses-same}
use Rattle.plan.proofs.RulesLaws.{count_bounds, operand_bounds, table-bound, source_bounds}

-- what an exit of `?` answers is the number of the fault that it took
pub exits : {A : Type 0} (r : Result A Fault) (f : Fault) {n : ℕ} → IsErrAnd r (λ x. x ≡ f) → fault_number f ≡ n → answer_number r ≡ n
exits r f h e = let (x, is, same) = err_from_is_err_and r h in rw (is, same) e

-- the gate whose own wire is `own` has allowed operands and an allowed table
pub record AllowedGate (own : ℕ) (g : Gate) : Type 0 where
  pub first : operand_allowed own g.first.0 ≡ true
  pub second : operand_allowed own g.second.0 ≡ true
  pub table : table_allowed g.table ≡ true

-- every part of the plan is allowed
pub record AllowedPlan (p : Plan) : Type 0 where
  pub inputs : count_allowed max_inputs p.inputs ≡ true
  pub gates : count_allowed max_gates p.gate_count ≡ true
  pub outputs : count_allowed max_outputs p.output_count ≡ true
  pub gate : (i : ℕ) → i < p.gate_count → AllowedGate (gate_wire p.inputs i) (gate_at p i)
  pub output : (j : ℕ) → j < p.output_count → source_allowed p.inputs p.gate_count (output_at p j).0 ≡ true
  pub tallied : Tallied p

-- a gate gives no fault exactly if it is allowed
gate-faultless : (own : ℕ) (g : Gate) → (gate_fault own g ≡ 0) ↔ AllowedGate own g
unfolding gate_fault
gate-faultless own g =
    simp (and_then-zero, unless-zero)
    (λ h. record { first = h.0; second = h.1.0; table = h.1.1 }, λ a. (a.first, (a.second, a.table)))

-- figures give no fault exactly if they are the counted ones
figures_faultless : (u k stored : ℕ) (uses : List ℕ) (counted : ℕ → ℕ)
    → (figures_fault u k stored uses counted ≡ 0) ↔ ((stored ≡ ceil_power k) × ((i : ℕ) → i < u + k → get_or uses i 0 ≡ counted i))
unfolding figures_fault
figures_faultless u k stored uses counted = simp (and_then-zero, unless-zero, first_of-zero, eqb_iff) (λ h. h, λ h. h)

-- equal checks have an equal first failing one
pub first_of-same : (f g : ℕ → ℕ) (n : ℕ) → ((i : ℕ) → i < n → f i ≡ g i) → first_of f n ≡ first_of g n
unfolding first_of
first_of-same f g zero h = refl
first_of-same f g (suc n) h = ap₂ and_then (first_of-same f g n (λ i l. h i (omega arith))) (h n (omega arith))

-- tests that are made in order give their one fault where not all of them pass
pub tests-refused : (test : ℕ → Bool) (f : Fault) (n : ℕ) → (first_of (λ i. unless (test i) f) n ≡ 0 → ⊥)
    → fault_number f ≡ first_of (λ i. unless (test i) f) n
unfolding first_of
tests-refused test f zero d = absurd (d refl)
tests-refused test f (suc n) d =
    let earlier = tests-refused test f n in
    elim (ℕ_discrete (first_of (λ i. unless (test i) f) n) 0) [
      | no e ↦ stop f _ (earlier e)
      | yes e ↦ elim (passed (test n)) [ inl t ↦ absurd (d (rw (e, t))) | inr t ↦ rw (e, t) ]
    ]

-- figures that are not all the counted ones give 17
pub figures-refused : (u k stored : ℕ) (uses : List ℕ) (counted : ℕ → ℕ)
    → ((stored ≡ ceil_power k) × ((i : ℕ) → i < u + k → get_or uses i 0 ≡ counted i) → ⊥)
    → fault_number Fault.Tally ≡ figures_fault u k stored uses counted
unfolding figures_fault
figures-refused u k stored uses counted d = elim (ℕ_discrete stored (ceil_power k)) [
  | no e ↦ stop {a = unless (eqb stored (ceil_power k)) Fault.Tally} Fault.Tally _ (rw (ne_eqb stored (ceil_power k) e))
  | yes e ↦
      rw (eq-eqb stored (ceil_power k) e)
      (tests-refused (λ i. eqb (get_or uses i 0) (counted i)) Fault.Tally (u + k)
      (λ z. d (e, λ i l. eqb-true _ _ ((unless-zero _ Fault.Tally).0 ((first_of-zero _ (u + k)).0 z i l)))))
]

-- two arrays have an equal front exactly if the entries there are equal
fronts-equal : (n : ℕ) (a b : List ℕ) → n ≤ length a → n ≤ length b → (take n a ≡ take n b) ↔ ((i : ℕ) → i < n → get_or a i 0 ≡ get_or b i 0)
fronts-equal n a b la lb = (
  λ e i l. sym (get_or-take n a i 0 l) ∙ ap (λ (s : List ℕ). get_or s i 0) e ∙ get_or-take n b i 0 l,
  λ h.
      ext_get_or 0 (take n a) (take n b) (simp length-take (omega arith)) λ i l.
      let m : i < n = omega (arith, length-take n a) in
      get_or-take n a i 0 m ∙ h i m ∙ sym (get_or-take n b i 0 m),
)

-- the stored K is the counted one: whether the uses differ decides
pub figures-compared : (u k stored : ℕ) (uses counted : List ℕ) (differ : Bool) → stored ≡ ceil_power k → u + k ≤ length uses → u + k ≤ length counted
    → differ ≡ not (pointwise eqb (take (u + k) uses) (take (u + k) counted))
    → unless (not differ) Fault.Tally ≡ figures_fault u k stored uses (λ i. get_or counted i 0)
figures-compared u k stored uses counted differ e lu lc s =
    let test = pointwise eqb (take (u + k) uses) (take (u + k) counted) in
    let decides = slice_eq-Decides Decides-eqb (take (u + k) uses) (take (u + k) counted) test refl in
    let fronts = fronts-equal (u + k) uses counted lu lc in
    elim (passed test) [
      | inl t ↦ rw (s, t) (sym ((figures_faultless u k stored uses _).1 (e, fronts.0 (decides.0 t))))
      | inr t ↦ rw (s, t) (figures-refused u k stored uses _ (λ h. absurd (both_ways (decides.1 (fronts.1 h.1)) t)))
    ]

-- uses that are counted otherwise, and alike
pub figures_same : (u k stored : ℕ) (uses : List ℕ) (counted others : ℕ → ℕ) → ((i : ℕ) → i < u + k → counted i ≡ others i)
    → figures_fault u k stored uses counted ≡ figures_fault u k stored uses others
unfolding figures_fault
figures_same u k stored uses counted others e =
    ap (and_then (unless (eqb stored (ceil_power k)) Fault.Tally))
    (first_of-same _ _ (u + k) (λ i l. ap (λ n. unless (eqb (get_or uses i 0) n) Fault.Tally) (e i l)))

pub tally-faultless : (p : Plan) → (tally_fault p ≡ 0) ↔ Tallied p
tally-faultless p = (
  λ e. let h = (figures_faultless _ _ _ p.uses (counted_uses p)).0 e in record { places = h.0; uses = h.1 },
  λ t. (figures_faultless _ _ _ p.uses (counted_uses p)).1 (t.places, t.uses),
)

-- a plan is accepted exactly if every part of it is allowed
pub accepted-allowed : (p : Plan) → Accepted p ↔ AllowedPlan p
unfolding plan_fault counts_fault output_fault
accepted-allowed p =
    simp (and_then-zero, unless-zero, first_of-zero, gate-faultless, tally-faultless) (
      λ h. record { inputs = h.0.0; gates = h.0.1.0; outputs = h.0.1.1; gate = h.1.0; output = h.1.1.0; tallied = h.1.1.1 },
      λ a. ((a.inputs, (a.gates, a.outputs)), (a.gate, (a.output, a.tallied))),
    )

-- the record of counts, gates and outputs holds its figures
pub tallied_of : (u k v : ℕ) (gs : List Gate) (os : List PlanWire) → u + k ≤ max_plan_wires → Tallied (plan_of u k v gs os)
tallied_of u k v gs os few = record {
  places = refl;
  uses = λ i l.
      get_or-list_of max_plan_wires (λ i. uses_of k v gs os (suc i)) i 0 (omega arith)
      ∙ sym (uses-same k v _ gs _ os (suc i) (λ j _. get_or-places max_gates zero_gate gs j) (λ j _. get_or-places max_outputs (wire 0) os j));
}

-- and so does one that is equal to such a record
pub held-tallied : {p : Plan} (gs : List Gate) (os : List PlanWire) → p ≡ plan_of p.inputs p.gate_count p.output_count gs os
    → CountsWithin p.inputs p.gate_count p.output_count → Tallied p
held-tallied {p} gs os e c = subst Tallied (sym e) (tallied_of p.inputs p.gate_count p.output_count gs os (omega (arith, c.inputs, c.gates)))

-- allowed counts are within their limits
pub counts_in : (u k v : ℕ) → count_allowed max_inputs u ≡ true → count_allowed max_gates k ≡ true → count_allowed max_outputs v ≡ true
    → CountsWithin u k v
counts_in u k v a b c =
    let (u₁, u₂) = (count_bounds max_inputs u).0 a in
    let (k₁, k₂) = (count_bounds max_gates k).0 b in
    let (v₁, v₂) = (count_bounds max_outputs v).0 c in
    record { some_inputs = u₁; inputs = u₂; some_gates = k₁; gates = k₂; some_outputs = v₁; outputs = v₂ }

-- counts, a gate and an output give no fault exactly if they are within their bounds
pub counts-faultless : (u k v : ℕ) → (counts_fault u k v ≡ 0) ↔ CountsWithin u k v
unfolding counts_fault
counts-faultless u k v = simp (and_then-zero, unless-zero) (
  λ h. counts_in u k v h.0 h.1.0 h.1.1,
  λ w. (
    (count_bounds max_inputs u).1 (w.some_inputs, w.inputs),
    ((count_bounds max_gates k).1 (w.some_gates, w.gates), (count_bounds max_outputs v).1 (w.some_outputs, w.outputs)),
  ),
)

pub gate-within : (own : ℕ) (g : Gate) → (gate_fault own g ≡ 0) ↔ GateWithin own g
unfolding gate_fault
gate-within own g = simp (and_then-zero, unless-zero, operand_bounds, table-bound) (
  λ h. record { some_first = h.0.0; first = h.0.1; some_second = h.1.0.0; second = h.1.0.1; table = h.1.1 },
  λ w. ((w.some_first, w.first), ((w.some_second, w.second), w.table)),
)

pub output-within : (u k w : ℕ) → (output_fault u k w ≡ 0) ↔ OutputWithin u k w
unfolding output_fault
output-within u k w =
    simp (unless-zero, source_bounds) (λ h. record { above = omega arith; up_to = h.1 }, λ o. (omega arith, o.up_to))

-- counts without a fault are within their limits
pub counts-within : (u k v : ℕ) → counts_fault u k v ≡ 0 → CountsWithin u k v
counts-within u k v = (counts-faultless u k v).0

module _ (p : Plan) where
  -- the counts, the gates and the outputs give no fault exactly if the plan is within its bounds
  pub within-faultless : ((counts_fault p.inputs p.gate_count p.output_count ≡ 0)
      × ((gates_fault p p.gate_count ≡ 0) × (outputs_fault p p.output_count ≡ 0))) ↔ PlanWithin p
  within-faultless = simp (counts-faultless, first_of-zero, gate-within, output-within)
      (λ h. record { counts = h.0; gate = h.1.0; output = h.1.1 }, λ w. (w.counts, (w.gate, w.output)))

  -- a plan is accepted exactly if it is within its bounds and its figures are the counted ones
  pub accepted_bounds : Accepted p ↔ (PlanWithin p × Tallied p)
  unfolding plan_fault
  accepted_bounds = simp (and_then-zero, tally-faultless) (
    λ (counts, (gates, (outputs, t))). (within-faultless.0 (counts, (gates, outputs)), t),
    λ (w, t). let (counts, (gates, outputs)) = within-faultless.1 w in (counts, (gates, (outputs, t))),
  )

  module _ (accepted : Accepted p) where
    -- the counts of an accepted plan
    pub accepted-counts : CountsWithin p.inputs p.gate_count p.output_count
    accepted-counts = (accepted_bounds.0 accepted).0.counts

    -- its gates
    pub accepted-gate : (i : ℕ) → i < p.gate_count → GateWithin (gate_wire p.inputs i) (gate_at p i)
    accepted-gate = (accepted_bounds.0 accepted).0.gate

    -- its outputs
    pub accepted-output : (j : ℕ) → j < p.output_count → OutputWithin p.inputs p.gate_count (output_at p j).0
    accepted-output = (accepted_bounds.0 accepted).0.output

    -- its figures
    pub accepted-tallied : Tallied p
    accepted-tallied = (accepted_bounds.0 accepted).1
