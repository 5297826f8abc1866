-- Each operand place and each output of an accepted plan names just one of its wires, so the counted uses add up to their number, 2k + v.
-- Checks before the figures give no number above 9, so 17 is given exactly where they pass and a figure differs; counting finds the first that does.
use Rattle.std.proofs.Common.{◌≡◌, ◌≢◌, ◌⊎◌, inl, inr, ℕ, zero, suc, ◌+◌, ◌*◌, ◌<◌, ◌≤◌, Bool, eqb, ◌↔◌, List, get_or, sym, ◌∙◌, arith, lit≤}
use native.Mathlib.Decide.{ℕ_discrete}
use Rattle.lists.specs.Counting.{count_of, sum_of}
use Rattle.lists.proofs.CountingLaws.{count-named, sum_ext, sum-add, sum_classes}
use Rattle.powers.specs.Powers.{ceil_power}
use Rattle.fault.specs.declared.Fault.{Fault}
use Rattle.fault.specs.Number.{fault_number}
use Rattle.fault.specs.Checks.{unless, and_then}
use Rattle.fault.proofs.ChecksLaws.{unless_le, and_then_le, first_of_le, and_then_later}
use Rattle.plan.specs.declared.record.Gate.{Gate}
use Rattle.plan.specs.declared.record.Plan.{Plan}
use Rattle.plan.specs.declared.record.PlanWire.{PlanWire}
use Rattle.plan.specs.Record.{max_inputs, max_gates, max_outputs, wire, zero_gate, gate_at, output_at, gate_wire, uses_of, counted_uses, stored_uses, wire_count}
use Rattle.plan.specs.Rules.{count_allowed, operand_allowed, table_allowed, source_allowed}
use Rattle.plan.specs.Faults.{counts_fault, gate_fault, output_fault, tally_fault, plan_fault, Accepted, PlanWithin}
use Rattle.plan.specs.TallyTheorems.{UsesAddUp, FigureDiffers, places_differ, uses_differ, TallyTheorem}
use Rattle.plan.proofs.UsesLaws.{uses-above}
use Rattle.plan.proofs.FaultsLaws.{figures-refused, tally-faultless, within-faultless, accepted_bounds, accepted-gate, accepted-output}

-- nothing names a wire past those of an accepted plan
pub unnamed : (p : Plan) → Accepted p → (i : ℕ) → wire_count p ≤ i → counted_uses p i ≡ 0
unnamed p ok i h =
    uses-above p.gate_count p.output_count p.gates p.outputs (suc i)
    (λ j l. let w = accepted-gate p ok j l in (omega (arith, w.first), omega (arith, w.second)))
    (λ j l. omega (arith, (accepted-output p ok j l).up_to))

-- ---- the sum

-- n numbers of 1 to m: how often each of these is named adds up to n
named-sum : (name : ℕ → ℕ) (n m : ℕ) → ((i : ℕ) → i < n → (1 ≤ name i) × (name i ≤ m)) → sum_of (λ w. count_of (λ i. eqb (name i) (suc w)) n) m ≡ n
named-sum name n m within =
    sum_classes (λ i w. eqb (name i) (suc w)) n m (λ i l. let h = within i l in count-named (name i) m h.0 h.1)

-- uses of m wires by gates and outputs that name no others
uses-sum : (k v : ℕ) (gs : List Gate) (os : List PlanWire) (m : ℕ)
    → ((i : ℕ) → i < k → (1 ≤ (get_or gs i zero_gate).first.0) × ((get_or gs i zero_gate).first.0 ≤ m))
    → ((i : ℕ) → i < k → (1 ≤ (get_or gs i zero_gate).second.0) × ((get_or gs i zero_gate).second.0 ≤ m))
    → ((j : ℕ) → j < v → (1 ≤ (get_or os j (wire 0)).0) × ((get_or os j (wire 0)).0 ≤ m))
    → sum_of (λ i. uses_of k v gs os (suc i)) m ≡ 2 * k + v
unfolding uses_of
uses-sum k v gs os m firsts seconds outputs =
    let a = named-sum (λ i. (get_or gs i zero_gate).first.0) k m firsts in
    let b = named-sum (λ i. (get_or gs i zero_gate).second.0) k m seconds in
    let c = named-sum (λ j. (get_or os j (wire 0)).0) v m outputs in
    simp sum-add (omega arith)

pub uses-add_up : UsesAddUp
uses-add_up p accepted =
    let (within, tallied) = (accepted_bounds p).0 accepted in
    sum_ext (stored_uses p) (counted_uses p) (wire_count p) tallied.uses
    ∙ uses-sum p.gate_count p.output_count p.gates p.outputs (wire_count p)
    (λ i l. let g = within.gate i l in (g.some_first, omega arith))
    (λ i l. let g = within.gate i l in (g.some_second, omega arith))
    (λ j l. let o = within.output j l in (omega arith, o.up_to))

-- ---- 17

-- the checks before the figures give no number above 9
early : (a b c : Bool) (f g h : Fault) → fault_number f ≤ 9 → fault_number g ≤ 9 → fault_number h ≤ 9
    → and_then (unless a f) (and_then (unless b g) (unless c h)) ≤ 9
early a b c f g h l m n = and_then_le (unless_le a f l) (and_then_le (unless_le b g m) (unless_le c h n))

counts-early : (u k v : ℕ) → counts_fault u k v ≤ 9
unfolding counts_fault
counts-early u k v =
    early (count_allowed max_inputs u) (count_allowed max_gates k) (count_allowed max_outputs v) Fault.Inputs Fault.Gates Fault.Outputs
    (lit≤ tt) (lit≤ tt) (lit≤ tt)

gate-early : (own : ℕ) (g : Gate) → gate_fault own g ≤ 9
unfolding gate_fault
gate-early own g =
    early (operand_allowed own g.first.0) (operand_allowed own g.second.0) (table_allowed g.table) Fault.Operand Fault.Operand Fault.Table
    (lit≤ tt) (lit≤ tt) (lit≤ tt)

output-early : (u k w : ℕ) → output_fault u k w ≤ 9
unfolding output_fault
output-early u k w = unless_le (source_allowed u k w) Fault.Source (lit≤ tt)

-- so three of them pass where a check behind them gives 17
behind : (a b c t : ℕ) → a ≤ 9 → b ≤ 9 → c ≤ 9 → (and_then a (and_then b (and_then c t)) ≡ 17) ↔ (((a ≡ 0) × ((b ≡ 0) × (c ≡ 0))) × (t ≡ 17))
behind a b c t la lb lc =
    let ha : a < 17 = omega arith in
    let hb : b < 17 = omega arith in
    let hc : c < 17 = omega arith in
    simp and_then_later (λ h. ((h.0, (h.1.0, h.1.1.0)), h.1.1.1), λ h. (h.0.0, (h.0.1.0, (h.0.1.1, h.1))))

-- of n numbers and n others some differ, or each is the other
some-differ : (f g : ℕ → ℕ) (n : ℕ) → ((i : ℕ) × ((i < n) × (f i ≢ g i))) ⊎ ((i : ℕ) → i < n → f i ≡ g i)
some-differ f g zero = inr (λ i l. absurd (omega arith))
some-differ f g (suc n) = elim (some-differ f g n) [
  | inl (i, (l, d)) ↦ inl (i, (omega arith, d))
  | inr same ↦ elim (ℕ_discrete (f n) (g n)) [
    | no d ↦ inl (n, (omega arith, d))
    | yes e ↦ inr (λ i l. elim (ℕ_discrete i n) [ yes q ↦ rw q e | no d ↦ same i (omega arith) ])
  ]
]

module _ (p : Plan) where
  -- 17 is given exactly where some figure differs
  differs-from : tally_fault p ≡ 17 → FigureDiffers p
  differs-from t = elim (ℕ_discrete p.gate_places (ceil_power p.gate_count)) [
    | no d ↦ places_differ d
    | yes e ↦ elim (some-differ (stored_uses p) (counted_uses p) (wire_count p)) [
      | inl (i, (l, d)) ↦ uses_differ i l d
      | inr same ↦ let none = (tally-faultless p).1 (record { places = e; uses = same }) in absurd (omega arith)
    ]
  ]

  differs-to : FigureDiffers p → tally_fault p ≡ 17
  differs-to (places_differ d) = sym (figures-refused _ _ _ p.uses (counted_uses p) (λ h. d h.0))
  differs-to (uses_differ i l d) = sym (figures-refused _ _ _ p.uses (counted_uses p) (λ h. d (h.1 i l)))

  -- and, of a plan, where it is also within its bounds
  tally-last : (plan_fault p ≡ 17) ↔ (PlanWithin p × FigureDiffers p)
  unfolding plan_fault
  tally-last =
      let (from, to) = behind _ _ _ (tally_fault p) (counts-early p.inputs p.gate_count p.output_count)
      (first_of_le _ (λ i. gate-early (gate_wire p.inputs i) (gate_at p i)) p.gate_count)
      (first_of_le _ (λ j. output-early p.inputs p.gate_count (output_at p j).0) p.output_count) in
      let (within, faultless) = within-faultless p in
      (λ e. let (h, t) = from e in (within h, differs-from t), λ h. to (faultless h.0, differs-to h.1))

pub tally-exactly : TallyTheorem
tally-exactly p = record { tally = tally-last p; accepted = accepted_bounds p }
