-- The values of a plan's wires, and of the spare gates past them, are as the gates that U(K) is programmed for say.
use mathlib.Core.Path.{◌≡◌, refl, ◌∙◌}
use mathlib.Core.Bool.{cond}
use mathlib.Core.List.{List, [], ◌∷◌}
use Prim.Native.Nat.{ℕ, zero, suc, ◌+◌, ◌-◌, ◌*◌, ◌/◌, ◌%◌, ◌≤◌, ◌<◌}
use native.Mathlib.Decide.{dec_lt}
use native.Mathlib.Omega.{arith}
use borrow.Author.Tests.{lt-ltb, le-ltb, le-leb, lt-leb}
use lib.Dec.{leb}
use lib.ListN.{length, get_or}
use Rattle.blocks.specs.Elements.{operands, choose}
use Rattle.plan.specs.declared.record.Plan.{Plan}
use Rattle.plan.specs.Record.{gate_at, gate_wire}
use Rattle.plan.specs.Faults.{Accepted}
use Rattle.plan.proofs.FaultsLaws.{accepted-counts, accepted-gate}
use Rattle.plan_evaluation.specs.Evaluation.{plan_wires}
use Rattle.plan_evaluation.proofs.EvaluationLaws.{wires_stay, gate-value}
use Rattle.fabric_universal.specs.Universal.{table_program}
use Rattle.fabric_universal.specs.Fabric.{spare_gate, padded_gate, plan_gates}
use Rattle.fabric_universal.proofs.UniversalRun.{Values}

-- ---- the gates that U(K) is programmed for

pub padded-own : (p : Plan) (g : ℕ) → g < p.gate_count → padded_gate p g ≡ gate_at p g
unfolding padded_gate
padded-own p g l = rw (lt-ltb g p.gate_count l)

pub padded_spare : (p : Plan) (g : ℕ) → p.gate_count ≤ g → padded_gate p g ≡ spare_gate
unfolding padded_gate
padded_spare p g l = rw (le-ltb g p.gate_count l)

pub first-operand : (p : Plan) (g : ℕ) → (plan_gates p).operand (operands * g) ≡ (padded_gate p g).first.0
unfolding choose
first-operand p g =
    let d : operands * g / operands ≡ g = omega arith in
    let m : operands * g % operands ≡ 0 = omega arith in
    rw (d, m)

pub second-operand : (p : Plan) (g : ℕ) → (plan_gates p).operand (operands * g + 1) ≡ (padded_gate p g).second.0
unfolding choose
second-operand p g =
    let d : (operands * g + 1) / operands ≡ g = omega arith in
    let m : (operands * g + 1) % operands ≡ 1 = omega arith in
    rw (d, m)

-- an operand of the gate with this own wire
pub record OperandWithin (own w : ℕ) : Type 0 where
  pub low : 1 ≤ w
  pub high : w < own

either : (c a b own : ℕ) → OperandWithin own a → OperandWithin own b → OperandWithin own (choose c a b)
unfolding choose
either zero a b own ha hb = ha
either (suc c) a b own ha hb = hb

module _ (p : Plan) (accepted : Accepted p) where
  padded-within : (g : ℕ)
      → OperandWithin (gate_wire p.inputs g) (padded_gate p g).first.0 × OperandWithin (gate_wire p.inputs g) (padded_gate p g).second.0
  padded-within g = go (dec_lt g p.gate_count)
    where
      go : Dec (g < p.gate_count)
          → OperandWithin (gate_wire p.inputs g) (padded_gate p g).first.0 × OperandWithin (gate_wire p.inputs g) (padded_gate p g).second.0
      go (yes l) =
          let w = accepted-gate p accepted g l in
          rw (padded-own p g l) (record { low = w.some_first; high = w.first }, record { low = w.some_second; high = w.second })
      go (no l) =
          let c = accepted-counts p accepted in
          rw (padded_spare p g (omega arith)) (record { low = omega arith; high = omega arith }, record { low = omega arith; high = omega arith })

  pub operand-within : (q : ℕ) → OperandWithin (gate_wire p.inputs (q / operands)) ((plan_gates p).operand q)
  operand-within q =
      let both = padded-within (q / operands) in
      either (q % operands) (padded_gate p (q / operands)).first.0 (padded_gate p (q / operands)).second.0 _ both.0 both.1

-- ---- the values

-- a plan's gate action, of the fabric's
abbrev pub act_of : {A : Type 0} → (ℕ → List ℕ → List A → A) → ℕ → ℕ → A → A → A
act_of gate i t a b = gate i (table_program t) (a ∷ b ∷ [])

module _ {A : Type 0} (none : A) (gate : ℕ → List ℕ → List A → A) (p : Plan) (row : List A) where
  -- the value of wire w: the plan's, or a spare gate's
  unfoldable pub plan_value : ℕ → A
  plan_value w =
      cond (leb w (p.inputs + p.gate_count)) (get_or (plan_wires none (act_of gate) p row p.gate_count) (w - 1) none)
      (gate (w - suc p.inputs) (table_program 0) (get_or row 0 none ∷ get_or row 0 none ∷ []))

  pub value-own : (w : ℕ) → w ≤ p.inputs + p.gate_count → plan_value w ≡ get_or (plan_wires none (act_of gate) p row p.gate_count) (w - 1) none
  unfolding plan_value
  value-own w l = rw (le-leb w (p.inputs + p.gate_count) l)

  value_spare : (g : ℕ) → p.gate_count ≤ g
      → plan_value (gate_wire p.inputs g) ≡ gate g (table_program 0) (get_or row 0 none ∷ get_or row 0 none ∷ [])
  unfolding plan_value
  value_spare g l =
      let e : gate_wire p.inputs g - suc p.inputs ≡ g = omega arith in
      rw (lt-leb (gate_wire p.inputs g) (p.inputs + p.gate_count) (omega arith), e)

  module _ (size : length row ≡ p.inputs) where
    -- the value of a wire before gate g
    value_before : (g w : ℕ) → g ≤ p.gate_count → OperandWithin (gate_wire p.inputs g) w
        → plan_value w ≡ get_or (plan_wires none (act_of gate) p row g) (w - 1) none
    value_before g w l h = value-own w (omega arith) ∙ wires_stay none (act_of gate) p row g _ (w - 1) l (omega arith)

    pub value-input : (w : ℕ) → 1 ≤ w → w ≤ p.inputs → plan_value w ≡ get_or row (w - 1) none
    value-input w l h = value_before 0 w (omega arith) (record { low = l; high = omega arith }) ∙ start
      where
        start : get_or (plan_wires none (act_of gate) p row 0) (w - 1) none ≡ get_or row (w - 1) none
        start = unfold plan_wires in refl

    -- the plan's own gates
    own-equation : Accepted p → (g : ℕ) → g < p.gate_count
        → plan_value (gate_wire p.inputs g) ≡ act_of gate g (gate_at p g).table (plan_value (gate_at p g).first.0) (plan_value (gate_at p g).second.0)
    own-equation accepted g l =
        let w = accepted-gate p accepted g l in
        let place : gate_wire p.inputs g - 1 ≡ length row + g = omega arith in
        let first = value_before g (gate_at p g).first.0 (omega arith) (record { low = w.some_first; high = w.first }) in
        let second = value_before g (gate_at p g).second.0 (omega arith) (record { low = w.some_second; high = w.second }) in
        rw (first, second, value-own (gate_wire p.inputs g) (omega arith), place) (gate-value none (act_of gate) p row _ g l)

    pub plan_values : Accepted p → Values gate (plan_gates p) plan_value
    plan_values accepted = record {
      order = λ q. (operand-within p accepted q).high;
      equation = λ g. rw (first-operand p g, second-operand p g) (go g (dec_lt g p.gate_count));
    }
      where
        go : (g : ℕ) → Dec (g < p.gate_count) → plan_value (gate_wire p.inputs g)
            ≡ act_of gate g (padded_gate p g).table (plan_value (padded_gate p g).first.0) (plan_value (padded_gate p g).second.0)
        go g (yes l) = rw (padded-own p g l) (own-equation accepted g l)
        go g (no l) =
            let c = accepted-counts p accepted in
            rw (padded_spare p g (omega arith), value-input 1 (omega arith) c.some_inputs) (value_spare g (omega arith))
