-- The gates of an accepted plan on the array of its wires' bits, one by one behind a row of its inputs, and what the outputs name of them.
use mathlib.Core.Path.{◌≡◌, refl, sym, ap, ◌∙◌}
use mathlib.Core.List.{List, ◌++◌, append_assoc, append-nil}
use Prim.Native.Nat.{ℕ, ◌+◌, ◌-◌, ◌<◌, ◌≤◌}
use native.Mathlib.Omega.{arith}
use native.Mathlib.Numerals.{add-one}
use borrow.Rule.Slice.PartMut.{put_mid}
use lib.ListN.{length, get_or, set, drop, drop_of_length-le, length-append, get_or-append}
use lib.Seq.{take_at, drop_at, drop-drop}
use Rattle.lists.proofs.ListsLaws.{list_of_ext}
use Rattle.fault.specs.Buffers.{over}
use Rattle.fault.proofs.BuffersLaws.{over-more}
use Rattle.fault.proofs.PartsLaws.{length_over}
use Rattle.plan.specs.declared.record.Plan.{Plan}
use Rattle.plan.specs.Record.{max_plan_wires, gate_at, output_at}
use Rattle.plan.proofs.FaultsLaws.{accepted-counts, accepted-gate, accepted-output}
use Rattle.plan_evaluation_checks.specs.EvaluationChecks.{Evaluable}
use Rattle.plan_evaluation_checks.proofs.EvaluationChecksLaws.{row-length, row-bit}
use Rattle.plan_evaluation.specs.Evaluation.{value_on, plan_wires, named_by, plan_outputs, table_bit, gate_bit}
use Rattle.plan_evaluation.specs.GateStands.{GateStands}
use Rattle.plan_evaluation.proofs.EvaluationLaws.{length-plan_wires, wire-bit}

module _ (p : Plan) (row : List ℕ) (e : Evaluable p row) (old : List ℕ) (room : max_plan_wires ≤ length old) where
  -- the wires of the first i gates
  abbrev ws : ℕ → List ℕ
  ws i = plan_wires 0 gate_bit p row i

  so_many : (i : ℕ) → length (ws i) ≡ p.inputs + i
  so_many i = length-plan_wires 0 gate_bit p row i ∙ ap (λ n. n + i) (row-length p.inputs row e.contacts)

  module _ (i : ℕ) (wires : List ℕ) (held : wires ≡ over (ws i) old) where
    on-wire : (n : ℕ) → n < p.inputs + i → get_or wires n 0 ≡ get_or (ws i) n 0
    on-wire n l = ap (λ b. get_or b n 0) held ∙ get_or-append (ws i) _ 0 n (rw (so_many i) l)

    -- gate i stands behind the first i
    pub gate-stands : i < p.gate_count → GateStands (gate_at p i) (p.inputs + i) wires
    gate-stands l =
        let c = accepted-counts p e.accepted in
        let g = accepted-gate p e.accepted i l in
        let size = ap length held ∙ length_over (ws i) old (omega (arith, so_many i)) in
        record {
          some_first = g.some_first;
          first = omega arith;
          some_second = g.some_second;
          second = omega arith;
          room = omega arith;
          bit = λ n m. rw (on-wire n m) (wire-bit p row (row-bit p.inputs row e.contacts) i n);
        }

    -- and its bit goes to its own wire
    pub gate-on-wires : i < p.gate_count
        → set wires (p.inputs + i) (table_bit (gate_at p i).table (value_on 0 wires (gate_at p i).first) (value_on 0 wires (gate_at p i).second))
        ≡ over (ws (i + 1)) old
    unfolding plan_wires
    gate-on-wires l =
        let c = accepted-counts p e.accepted in
        let g = accepted-gate p e.accepted i l in
        let n = so_many i in
        let bit = table_bit (gate_at p i).table (value_on 0 (ws i) (gate_at p i).first) (value_on 0 (ws i) (gate_at p i).second) in
        rw (add-one i, on-wire ((gate_at p i).first.0 - 1) (omega arith), on-wire ((gate_at p i).second.0 - 1) (omega arith))
        (ap (λ b. set b (p.inputs + i) bit) held ∙ ap (λ m. set (over (ws i) old) m bit) (sym n) ∙ over-more (ws i) old bit (omega arith))

  -- what stands past the wires does not show in the outputs
  pub outputs-on-wires : (wires : List ℕ) → wires ≡ over (ws p.gate_count) old → named_by 0 p wires p.output_count ≡ plan_outputs 0 gate_bit p row
  outputs-on-wires wires held =
      list_of_ext p.output_count _ _ (λ j h.
      on-wire p.gate_count wires held ((output_at p j).0 - 1) (omega (arith, accepted-output p e.accepted j h)))

-- fresh entries and a state that are written into the array from the front, one behind the other
pub put-row : (fresh state wires : List ℕ) (n : ℕ) → length fresh + length state ≡ n
    → put_mid (length fresh) (n - length fresh) (fresh ++ drop (length fresh) wires) state ≡ over (fresh ++ state) wires
put-row fresh state wires n size =
    let rest : n - length fresh ≡ length state = omega arith in
    rw (
      rest,
      take_at fresh (drop (length fresh) wires) (length fresh) refl,
      drop_at fresh (drop (length fresh) wires) (length fresh) refl,
      drop-drop (length state) (length fresh) wires,
      length-append fresh state,
      append_assoc,
    )

-- what is written over a list of its own length is all that stands there
pub whole-over : {A : Type 0} (new old : List A) → length new ≡ length old → over new old ≡ new
whole-over new old e = ap (λ l. new ++ l) (drop_of_length-le old (omega arith)) ∙ append-nil new
