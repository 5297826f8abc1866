-- A gate of the order draws from inputs and from gates at earlier places, so that renumbered it draws from smaller wires: the plan is accepted. Read
-- back by drawn numbers, the plan's wires fit the drawing; and place by place they are the only bits that do.
use mathlib.Core.Path.{◌≡◌, refl, sym, ap, subst, ◌∙◌}
use mathlib.Core.Logic.{inl, inr}
use mathlib.Core.Bool.{true}
use mathlib.Core.List.{List, [], ◌∷◌}
use Prim.Native.Nat.{ℕ, zero, suc, ◌+◌, ◌-◌, ◌≤◌, ◌<◌}
use native.Mathlib.Decide.{ℕ_discrete, dec_le}
use native.Mathlib.Omega.{arith}
use borrow.Author.Tests.{eqb-true, le-leb, lt-leb}
use lib.Dec.{eqb}
use lib.ListN.{length, get_or, take}
use Rattle.lists.specs.Lists.{list_of}
use Rattle.lists.proofs.ListsLaws.{get_or-list_of}
use Rattle.lists.proofs.CountingLaws.{passed, both_ways}
use Rattle.plan.specs.declared.record.Plan.{Plan}
use Rattle.plan.specs.Record.{max_gates, max_outputs, wire, zero_gate, gate_at, output_at, gate_wire}
use Rattle.plan.proofs.RecordLaws.{get_or-places}
use Rattle.plan.specs.Faults.{GateWithin}
use Rattle.plan.proofs.FaultsLaws.{tallied_of, accepted_bounds}
use Rattle.plan_evaluation_checks.specs.EvaluationChecks.{contact_fault}
use Rattle.plan_evaluation_checks.proofs.EvaluationChecksLaws.{row-length, row-bit}
use Rattle.plan_evaluation.specs.Evaluation.{plan_wires, gate_bit, wire_bit}
use Rattle.plan_evaluation.proofs.EvaluationLaws.{wires_stay, wire-bit, gate-bit}
use Rattle.plan_order.specs.Order.{has, supplied, TakenInOrder}
use Rattle.plan_order.specs.Drawing.{place_in, drawn_first, drawn_second, drawn_order, renumbered, renumbered_gate, ordered_plan, Orderable, OrderedRight, Fits, GivesTheSame, OrderedPlanTheorem, DrawingTheorem}
use Rattle.plan_order.proofs.OrderLaws.{ready-parts, order_theorem}

-- ---- places in a list

-- what stands in the list stands at its place
place-holds : (L : List ℕ) (g : ℕ) → has L g ≡ true → (get_or L (place_in L g) 0 ≡ g) × (place_in L g < length L)
unfolding has place_in
place-holds [] g e = absurd (both_ways e refl)
place-holds (x ∷ xs) g e = elim (passed (eqb x g)) [
  | inl t ↦ rw t (eqb-true x g t, omega arith)
  | inr f ↦ let rest = place-holds xs g (rw f at e) in rw f (rest.0, omega (arith, rest.1))
]

-- what stands among the first p has a place below p
place-before : (L : List ℕ) (p g : ℕ) → has (take p L) g ≡ true → place_in L g < p
unfolding has place_in
place-before L zero g e = absurd (both_ways e refl)
place-before [] (suc p) g e = absurd (both_ways e refl)
place-before (x ∷ xs) (suc p) g e = elim (passed (eqb x g)) [
  | inl t ↦ rw t (omega arith)
  | inr f ↦ rw f (omega (arith, place-before xs p g (rw f at e)))
]

module _ (d : Plan) (orderable : Orderable d) where
  abbrev u : ℕ
  u = d.inputs

  abbrev k : ℕ
  k = d.gate_count

  abbrev v : ℕ
  v = d.output_count

  abbrev O : List ℕ
  O = drawn_order d

  abbrev P : Plan
  P = ordered_plan d

  in_order_lem : TakenInOrder u k (drawn_first d) (drawn_second d)
  in_order_lem = order_theorem u k (drawn_first d) (drawn_second d) orderable.all

  -- drawn gate g stands at its place
  pub record Stands (g : ℕ) : Type 0 where
    pub here : get_or O (place_in O g) 0 ≡ g
    pub low : place_in O g < k

  pub stands : (g : ℕ) → g < k → Stands g
  stands g l = let h = place-holds O g (in_order_lem.every g l) in record { here = h.0; low = omega (arith, h.1, orderable.all) }

  -- ---- wires renumbered

  pub input-number : (w : ℕ) → w ≤ u → renumbered d w ≡ w
  unfolding renumbered
  input-number w l = rw (le-leb w u l)

  pub gate-number : (w : ℕ) → u < w → renumbered d w ≡ gate_wire u (place_in O (w - suc u))
  unfolding renumbered
  gate-number w l = rw (lt-leb w u l)

  -- a wire that the first p gates of the order supply: an input, or a gate at an earlier place
  data Supply (p w : ℕ) : Type 0 where
    an_input : w ≤ u → Supply p w
    a_gate : u < w → place_in O (w - suc u) < p → Supply p w

  supply : (p w : ℕ) → supplied u k (drawn_first d) (drawn_second d) (take p O) w ≡ true → Supply p w
  unfolding supplied
  supply p w e = elim (dec_le w u) [
    | yes l ↦ an_input l
    | no f ↦ a_gate (omega arith) (place-before O p (w - suc u) (rw (lt-leb w u (omega arith)) at e))
  ]

  -- the operands of the gate at place p
  record Operands (p : ℕ) : Type 0 where
    first : Supply p (drawn_first d (get_or O p 0))
    second : Supply p (drawn_second d (get_or O p 0))

  operands_of : (p : ℕ) → p < k → Operands p
  operands_of p l =
      let parts = ready-parts u k (drawn_first d) (drawn_second d) (take p O) (get_or O p 0) (in_order_lem.fed p l) in
      record { first = supply p _ parts.1; second = supply p _ parts.2 }

  -- renumbered they are smaller than the gate's own wire
  smaller-wire : (p w : ℕ) → 1 ≤ w → Supply p w → (1 ≤ renumbered d w) × (renumbered d w < gate_wire u p)
  smaller-wire p w l (an_input h) = rw (input-number w h) (l, omega arith)
  smaller-wire p w l (a_gate h m) = rw (gate-number w h) (omega arith, omega arith)

  -- ---- the plan's gates and outputs

  gate-at : (p : ℕ) → p < k → gate_at P p ≡ renumbered_gate d (gate_at d (get_or O p 0))
  gate-at p l = get_or-places max_gates zero_gate (list_of k _) p ∙ get_or-list_of k _ p zero_gate l

  output-at : (j : ℕ) → j < v → output_at P j ≡ wire (renumbered d (output_at d j).0)
  output-at j l = get_or-places max_outputs (wire 0) (list_of v _) j ∙ get_or-list_of v _ j (wire 0) l

  gate-within : (p : ℕ) → p < k → GateWithin (gate_wire u p) (gate_at P p)
  gate-within p l =
      let g = get_or O p 0 in
      let w = orderable.within.gate g (in_order_lem.below p l) in
      let o = operands_of p l in
      let a = smaller-wire p (drawn_first d g) w.some_first o.first in
      let b = smaller-wire p (drawn_second d g) w.some_second o.second in
      rw (gate-at p l) (record { some_first = a.0; first = a.1; some_second = b.0; second = b.1; table = w.table })

  ordered-right : OrderedRight d
  ordered-right = record {
    accepted = (accepted_bounds P).1 (
      record {
        counts = orderable.within.counts;
        gate = gate-within;
        output = λ j l.
            let w = orderable.within.output j l in
            let s = stands ((output_at d j).0 - suc u) (omega (arith, w.above, w.up_to)) in
            rw (output-at j l, gate-number (output_at d j).0 w.above) (record { above = omega arith; up_to = omega (arith, s.low) });
      },
      let c = orderable.within.counts in tallied_of u k v _ _ (omega (arith, c.inputs, c.gates)),
    );
    gate = gate-at;
    output = output-at;
  }

  -- ---- the bits of the wires

  module _ (row : List ℕ) (contacts : contact_fault u row ≡ 0) where
    -- an input's wire has its entry of the row
    input-bit : (i : ℕ) → i < u → wire_bit P row (suc i) ≡ get_or row i 0
    unfolding plan_wires
    input-bit i l =
        let e : suc i - 1 ≡ i = omega arith in
        rw e (wires_stay 0 gate_bit P row 0 k i (omega arith) (omega (arith, row-length u row contacts)))

    -- read back by drawn numbers they fit the drawing
    abbrev drawn_bit : ℕ → ℕ
    drawn_bit w = wire_bit P row (renumbered d w)

    fit : Fits d row drawn_bit
    fit = record {
      inputs = λ i l. rw (input-number (suc i) l) (input-bit i l);
      gates = λ g l.
          let s = stands g l in
          let e : gate_wire u g - suc u ≡ g = omega arith in
          rw (gate-number (gate_wire u g) (omega arith), e)
          (gate-bit P row ordered-right.accepted contacts (place_in O g) s.low ∙ rw (gate-at (place_in O g) s.low, s.here));
    }

    -- and are the only bits that do
    module _ (other : ℕ → ℕ) (F : Fits d row other) where
      abbrev Same : ℕ → Type 0
      Same w = other w ≡ drawn_bit w

      same-input : (w : ℕ) → 1 ≤ w → w ≤ u → Same w
      same-input zero l h = absurd (omega arith)
      same-input (suc i) l h = F.inputs i h ∙ sym (fit.inputs i h)

      -- where the gates at the first n places have the same bits, so has what they supply
      same-supplied : (n w : ℕ) → ((p : ℕ) → p < n → Same (gate_wire u (get_or O p 0))) → 1 ≤ w → w ≤ u + k → Supply n w → Same w
      same-supplied n w before l h (an_input i) = same-input w l i
      same-supplied n w before l h (a_gate a m) =
          let s = stands (w - suc u) (omega arith) in
          let e : gate_wire u (w - suc u) ≡ w = omega arith in
          subst Same (ap (gate_wire u) s.here ∙ e) (before (place_in O (w - suc u)) m)

      same-places : (n : ℕ) → n ≤ k → (p : ℕ) → p < n → Same (gate_wire u (get_or O p 0))
      same-places zero l p h = absurd (omega arith)
      same-places (suc n) l p h = elim (ℕ_discrete p n) [
        | no f ↦ same-places n (omega arith) p (omega arith)
        | yes e ↦
            let before = same-places n (omega arith) in
            let g = get_or O n 0 in
            let low = in_order_lem.below n l in
            let w = orderable.within.gate g low in
            let o = operands_of n l in
            let a = same-supplied n (drawn_first d g) before w.some_first (omega (arith, w.first)) o.first in
            let b = same-supplied n (drawn_second d g) before w.some_second (omega (arith, w.second)) o.second in
            rw e (F.gates g low ∙ rw (a, b) (sym (fit.gates g low)))
      ]

      same-wire : (w : ℕ) → 1 ≤ w → w ≤ u + k → Same w
      same-wire w l h = elim (dec_le w u) [
        | yes i ↦ same-input w l i
        | no f ↦ let s = stands (w - suc u) (omega arith) in same-supplied k w (same-places k (omega arith)) l h (a_gate (omega arith) s.low)
      ]

    gives_the_same : GivesTheSame d row
    gives_the_same = record {
      bit = drawn_bit;
      is_bit = λ w. wire-bit P row (row-bit u row contacts) k (renumbered d w - 1);
      fits = fit;
      only = same-wire;
      outputs = λ j l. get_or-list_of v (λ j. wire_bit P row (output_at P j).0) j 0 l ∙ ap (λ (w : _). wire_bit P row w.0) (output-at j l);
    }

pub ordered-plan : OrderedPlanTheorem
ordered-plan = ordered-right

pub drawing_theorem : DrawingTheorem
drawing_theorem d row orderable contacts = gives_the_same d orderable row contacts
