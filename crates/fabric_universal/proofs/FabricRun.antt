-- The fabric's promise, over values of any type and any gate action: with an accepted plan's bits its output wires carry the plan's outputs, and
-- its g-th gate row sees the plan's gate g. S(u, 2K) brings the inputs to the pins, U(K) computes the gates, S(K, v) brings them to the outputs.
use mathlib.Core.Path.{◌≡◌, sym, ap, ◌∙◌}
use mathlib.Core.List.{List, ◌∷◌, ◌++◌, append_assoc, append-nil}
use Prim.Native.Nat.{ℕ, suc, ◌+◌, ◌-◌, ◌^◌, ◌≤◌, ◌<◌}
use native.Mathlib.Nat.{add-zero, zero-add}
use native.Mathlib.Decide.{dec_le}
use native.Mathlib.Omega.{arith}
use borrow.Author.Tests.{le-leb, lt-leb}
use lib.ListN.{length, get_or}
use Rattle.lists.specs.Lists.{list_of}
use Rattle.lists.proofs.ListsLaws.{length-list_of, get_or-list_of, list_of_ext}
use Rattle.powers.proofs.PowersLaws.{ceil_log-fits}
use Rattle.blocks.specs.Elements.{Row, makes, total, State, on, run, Delivered}
use Rattle.blocks.proofs.ElementsLaws.{run-append, run_keeps, run-wires}
use Rattle.blocks.specs.Networks.{mapping, Selected, selection_rows, selection_wires, selection_bits}
use Rattle.blocks.proofs.NetworksLaws.{selection-totals, selected-at, selected_lt}
use Rattle.blocks.proofs.PromisesLaws.{selection-block-delivers}
use Rattle.plan.specs.declared.record.Plan.{Plan}
use Rattle.plan.specs.Record.{output_at}
use Rattle.plan.specs.Faults.{Accepted}
use Rattle.plan.proofs.FaultsLaws.{accepted-counts, accepted-output}
use Rattle.plan_evaluation.specs.Evaluation.{plan_wires, plan_outputs}
use Rattle.fabric_universal.specs.Selector.{pin_count, selection}
use Rattle.fabric_universal.specs.Universal.{universal_rows, universal_wires, wire_of, universal_bits}
use Rattle.fabric_universal.specs.Fabric.{gate_level, input_wires, fabric_pins, universal_next, fabric_output_next, gate_outs, fabric_rows, fabric_outs, fabric_wires}
use Rattle.fabric_universal.specs.Fabric.{plan_gates, wanted_input, wanted_inputs, wanted_outputs, plan_bits}
use Rattle.fabric_universal.proofs.Views.{View, views}
use Rattle.fabric_universal.proofs.ViewsLaws.{views-append, views-none}
use Rattle.fabric_universal.proofs.SelectorLaws.{selection-shape, selection_keeps}
use Rattle.fabric_universal.proofs.UniversalRun.{gate_view, Starts, Computes, universal_computes}
use Rattle.fabric_universal.proofs.FabricLaws.{get_or-input_wires, inputs-below, fabric_wires_lem, pins-fed, gates-below, length-input_wires}
use Rattle.fabric_universal.proofs.PlanValues.{operand-within, act_of, plan_value, value-own, value-input, plan_values}
use Rattle.fabric_universal.proofs.UniversalLaws.{length-universal_outs}

-- ---- what the two selection networks are programmed for

input-within : (u w : ℕ) → 1 ≤ u → 1 ≤ w → (1 ≤ wanted_input u w) × (wanted_input u w ≤ u)
unfolding wanted_input
input-within u w hu hw = elim (dec_le w u) [ yes l ↦ rw (le-leb w u l) (hw, l) | no l ↦ rw (lt-leb w u (omega arith)) (omega arith, hu) ]

input-own : (u w : ℕ) → w ≤ u → wanted_input u w ≡ w
unfolding wanted_input
input-own u w l = rw (le-leb w u l)

module _ (p : Plan) (accepted : Accepted p) where
  length-wanted_inputs : length (wanted_inputs p) ≡ pin_count (gate_level p.gate_count)
  unfolding wanted_inputs
  length-wanted_inputs = length-list_of (pin_count (gate_level p.gate_count)) _

  wanted_inputs-at : (q : ℕ) → q < pin_count (gate_level p.gate_count)
      → get_or (wanted_inputs p) q 0 ≡ wanted_input p.inputs ((plan_gates p).operand q)
  unfolding wanted_inputs
  wanted_inputs-at q l = get_or-list_of (pin_count (gate_level p.gate_count)) _ q 0 l

  pub inputs-selected : Selected p.inputs (pin_count (gate_level p.gate_count)) (wanted_inputs p)
  inputs-selected =
      let within : (q : ℕ) → (1 ≤ wanted_input p.inputs ((plan_gates p).operand q)) × (wanted_input p.inputs ((plan_gates p).operand q) ≤ p.inputs)
      = λ q. input-within p.inputs ((plan_gates p).operand q) (accepted-counts p accepted).some_inputs (operand-within p accepted q).low in
      record {
        size = length-wanted_inputs;
        low = λ q l. rw (wanted_inputs-at q l) (within q).0;
        high = λ q l. rw (wanted_inputs-at q l) (within q).1;
      }

  length-wanted_outputs : length (wanted_outputs p) ≡ p.output_count
  unfolding wanted_outputs
  length-wanted_outputs = length-list_of p.output_count _

  wanted_outputs-at : (j : ℕ) → j < p.output_count → get_or (wanted_outputs p) j 0 ≡ (output_at p j).0 - p.inputs
  unfolding wanted_outputs
  wanted_outputs-at j l = get_or-list_of p.output_count _ j 0 l

  pub outputs-selected : Selected (2 ^ gate_level p.gate_count) p.output_count (wanted_outputs p)
  outputs-selected = record {
    size = length-wanted_outputs;
    low = λ j l. rw (wanted_outputs-at j l) (omega (arith, (accepted-output p accepted j l).above));
    high = λ j l. rw (wanted_outputs-at j l) (omega (arith, (accepted-output p accepted j l).up_to, ceil_log-fits p.gate_count));
  }

  -- a pin whose operand is an input wants it, counted from 0
  wants-input : (q : ℕ) → q < pin_count (gate_level p.gate_count) → (plan_gates p).operand q ≤ p.inputs
      → suc (mapping (wanted_inputs p) q) ≡ (plan_gates p).operand q
  wants-input q l h = selected-at inputs-selected q l ∙ wanted_inputs-at q l ∙ input-own p.inputs ((plan_gates p).operand q) h

  -- an output wants the gate that it names
  wants-output : (j : ℕ) → j < p.output_count → wire_of (plan_gates p) (mapping (wanted_outputs p) j) ≡ (output_at p j).0
  wants-output j l = omega (arith, selected-at outputs-selected j l, wanted_outputs-at j l, (accepted-output p accepted j l).above)

-- ---- the statement

-- before the first row: the values on wire 0 and on the inputs, and the program bits
abbrev pub fabric_start : {A : Type 0} → A → List A → List ℕ → State A
fabric_start zeroValue row bits = record { wires = zeroValue ∷ row; bits = bits; gates = 0 }

-- a run of the fabric's rows from s to t, which sees these views, gives the plan's outputs: output wire j carries what plan output j names, the
-- g-th gate row sees gate g of the plan, or a spare one, and the bits `rest` are left
pub record FabricComputes {A : Type 0} (none : A) (gate : ℕ → List ℕ → List A → A) (p : Plan) (row : List A) (s t : State A) (seen : List (View A))
    (rest : List ℕ) : Type 0 where
  pub given : list_of p.output_count (λ j. on none t (get_or (fabric_outs p.inputs p.gate_count p.output_count) j 0))
      ≡ plan_outputs none (act_of gate) p row
  pub sees : seen ≡ list_of (2 ^ gate_level p.gate_count) (gate_view (plan_gates p) (plan_value none gate p row))
  pub kept : (w : ℕ) → w < length s.wires → on none t w ≡ on none s w
  pub wires : length t.wires ≡ fabric_wires p.inputs p.gate_count p.output_count
  pub bits : t.bits ≡ rest
  pub gates : t.gates ≡ 2 ^ gate_level p.gate_count

-- ---- the run

module _ {A : Type 0} (none : A) (gate : ℕ → List ℕ → List A → A) (p : Plan) (accepted : Accepted p) where
  module _ (zeroValue : A) (row : List A) (rest : List ℕ) (size : length row ≡ p.inputs) where
    abbrev u : ℕ
    u = p.inputs

    abbrev k : ℕ
    k = p.gate_count

    abbrev v : ℕ
    v = p.output_count

    abbrev n : ℕ
    n = gate_level k

    -- the parts: S(u, 2K), U(K), S(K, v)
    abbrev pin_rows : List Row
    pin_rows = selection_rows u (pin_count n) (input_wires u) (suc u)

    abbrev gate_rows : List Row
    gate_rows = universal_rows selection n (fabric_pins u k) (universal_next u k)

    abbrev output_rows : List Row
    output_rows = selection_rows (2 ^ n) v (gate_outs u k) (fabric_output_next u k)

    -- the program of S(K, v), and what comes after that of S(u, 2K)
    abbrev output_program : List ℕ
    output_program = selection_bits (2 ^ n) v (wanted_outputs p) ++ rest

    abbrev gate_program : List ℕ
    gate_program = universal_bits selection (plan_gates p) n 0 ++ output_program

    -- the states before and after the parts
    abbrev start : State A
    start = fabric_start zeroValue row (plan_bits p ++ rest)

    abbrev pins_done : State A
    pins_done = run none gate pin_rows start

    abbrev gates_done : State A
    gates_done = run none gate gate_rows pins_done

    abbrev outputs_done : State A
    outputs_done = run none gate output_rows gates_done

    bits-parts : plan_bits p ++ rest ≡ selection_bits u (pin_count n) (wanted_inputs p) ++ gate_program
    unfolding plan_bits
    bits-parts = simp append_assoc

    run-parts : run none gate (fabric_rows u k v) start ≡ outputs_done
    unfolding fabric_rows
    run-parts = run-append none gate pin_rows _ start ∙ run-append none gate gate_rows output_rows pins_done

    -- S(u, 2K)
    pins_brought : Delivered none (pin_count n) (mapping (wanted_inputs p)) (input_wires u) (fabric_pins u k) start pins_done
        (selection_wires u (pin_count n)) gate_program
    pins_brought =
        (selection-block-delivers none gate u (pin_count n)).delivers (inputs-selected p accepted) (input_wires u) (suc u) start gate_program
        (length-input_wires u) (omega arith) (inputs-below u) (ap suc size) bits-parts

    -- a pin whose operand is an input carries that input's value
    pin_carries : (q : ℕ) → q < pin_count n → (plan_gates p).operand q ≤ u
        → on none pins_done (get_or (fabric_pins u k) q 0) ≡ plan_value none gate p row ((plan_gates p).operand q)
    pin_carries q l h =
        let i : ℕ = mapping (wanted_inputs p) q in
        let e : suc i ≡ (plan_gates p).operand q = wants-input p accepted q l h in
        let d : suc i - 1 ≡ i = omega arith in
        let input = value-input none gate p row size (suc i) (omega arith) (omega arith) ∙ ap (λ x. get_or row x none) d in
        pins_brought.carried q l ∙ ap (on none start) (get_or-input_wires u i (omega arith)) ∙ sym input ∙ ap (plan_value none gate p row) e

    pins-made : length pins_done.wires ≡ universal_next u k
    pins-made = pins_brought.wires ∙ ap (λ w. suc w + selection_wires u (pin_count n)) size

    gates-start : Starts none gate selection (plan_gates p) (plan_value none gate p row) n 0 (fabric_pins u k) (universal_next u k) pins_done output_program
    gates-start = record {
      some = omega arith;
      fed = pins-fed u k v;
      made = pins-made;
      number = pins_brought.gates;
      bits = pins_brought.bits;
      carried = λ i l h. rw (zero-add i) (pin_carries i l (rw (zero-add i, add-zero u) at h));
    }

    -- U(K)
    gates-computed : Computes none gate selection (plan_gates p) (plan_value none gate p row) n 0 (universal_next u k) pins_done gates_done
        (views none gate gate_rows pins_done) output_program
    gates-computed =
        universal_computes none gate selection selection-shape (selection_keeps none gate) (plan_gates p) (plan_value none gate p row)
        (plan_values none gate p row size accepted) n 0 (fabric_pins u k) (universal_next u k) pins_done output_program gates-start

    gates-made : length gates_done.wires ≡ fabric_output_next u k
    gates-made = gates-computed.wires ∙ ap (λ w. w + universal_wires selection n) pins-made

    -- S(K, v)
    outputs_brought : Delivered none v (mapping (wanted_outputs p)) (gate_outs u k) (fabric_outs u k v) gates_done outputs_done
        (selection_wires (2 ^ n) v) rest
    unfolding fabric_outs
    outputs_brought =
        (selection-block-delivers none gate (2 ^ n) v).delivers (outputs-selected p accepted) (gate_outs u k) (fabric_output_next u k) gates_done rest
        (length-universal_outs selection n (universal_next u k)) (omega arith) (gates-below u k v) gates-made gates-computed.bits

    output_carries : (j : ℕ) → j < v
        → on none outputs_done (get_or (fabric_outs u k v) j 0) ≡ get_or (plan_wires none (act_of gate) p row k) ((output_at p j).0 - 1) none
    output_carries j l =
        let g : ℕ = mapping (wanted_outputs p) j in
        let e = wants-output p accepted j l in
        outputs_brought.carried j l ∙ gates-computed.carried g (selected_lt (outputs-selected p accepted) j l)
        ∙ ap (plan_value none gate p row) (ap (wire_of (plan_gates p)) (zero-add g) ∙ e)
        ∙ value-own none gate p row (output_at p j).0 (accepted-output p accepted j l).up_to

    views-parts : views none gate (fabric_rows u k v) start ≡ views none gate gate_rows pins_done
    unfolding fabric_rows
    views-parts =
        views-append none gate pin_rows _ start
        ∙ rw (views-none none gate pin_rows start (selection-totals u (pin_count n) (input_wires u) (suc u)).gates)
        (views-append none gate gate_rows output_rows pins_done
        ∙ rw (views-none none gate output_rows gates_done (selection-totals (2 ^ n) v (gate_outs u k) (fabric_output_next u k)).gates)
        (append-nil (views none gate gate_rows pins_done)))

    -- for every accepted plan the fabric of its counts computes the plan
    pub fabric_computes : FabricComputes none gate p row start (run none gate (fabric_rows u k v) start) (views none gate (fabric_rows u k v) start) rest
    fabric_computes = record {
      given = rw run-parts (list_of_ext v _ _ output_carries);
      sees = views-parts ∙ gates-computed.sees ∙ list_of_ext (2 ^ n) _ _ (λ g l. ap (gate_view (plan_gates p) (plan_value none gate p row)) (zero-add g));
      kept = λ w l. run_keeps none gate _ start w none l;
      wires = run-wires none gate _ start ∙ ap (λ m. suc m + total makes (fabric_rows u k v)) size ∙ fabric_wires_lem u k v;
      bits = rw run-parts outputs_brought.bits;
      gates = rw run-parts (outputs_brought.gates ∙ gates-computed.gates ∙ zero-add (2 ^ n));
    }
