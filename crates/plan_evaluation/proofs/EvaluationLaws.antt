-- Laws of evaluation: how many wires and outputs there are, and that bits stay bits.
use mathlib.Core.Path.{◌≡◌, sym, ◌∙◌}
use mathlib.Core.List.{List, [], ◌∷◌, ◌++◌}
use Prim.Native.Nat.{ℕ, zero, suc, ◌+◌, ◌-◌, ◌<◌, ◌≤◌}
use native.Mathlib.Omega.{arith}
use native.Mathlib.Decide.{ℕ_discrete}
use lib.ListN.{length, get_or, length-append, get_or-append}
use lib.Seq.{get_or_at}
use Rattle.lists.proofs.ListsLaws.{length-list_of, get_or-list_of}
use Rattle.plan.specs.declared.record.Plan.{Plan}
use Rattle.plan.specs.Record.{gate_at, output_at, gate_wire}
use Rattle.plan.specs.Faults.{Accepted}
use Rattle.plan.proofs.FaultsLaws.{accepted-gate}
use Rattle.plan_evaluation_checks.specs.EvaluationChecks.{contact_fault}
use Rattle.plan_evaluation_checks.proofs.EvaluationChecksLaws.{row-length, row-bit}
use Rattle.plan_evaluation.specs.Evaluation.{value_on, plan_wires, plan_outputs, table_bit, gate_bit, wire_bit}

module _ {A : Type 0} (none : A) (act : ℕ → ℕ → A → A → A) (p : Plan) (row : List A) where
  -- a wire for each input and for each of n gates
  pub length-plan_wires : (n : ℕ) → length (plan_wires none act p row n) ≡ length row + n
  unfolding plan_wires
  length-plan_wires zero = omega arith
  length-plan_wires (suc n) = length-append (plan_wires none act p row n) _ ∙ omega (arith, length-plan_wires n)

  -- more gates change no value
  pub wires_stay : (m n i : ℕ) → m ≤ n → i < length row + m → get_or (plan_wires none act p row n) i none ≡ get_or (plan_wires none act p row m) i none
  unfolding plan_wires
  wires_stay m zero i h l = let e : m ≡ zero = omega arith in rw e
  wires_stay m (suc n) i h l =
      let ih = wires_stay m n i in
      elim (ℕ_discrete m (suc n)) [
        | yes e ↦ rw e
        | no d ↦ get_or-append (plan_wires none act p row n) _ none i (omega (arith, length-plan_wires n)) ∙ ih (omega arith) l
      ]

  last-value : (g : ℕ) → let ws : List A = plan_wires none act p row g in
      get_or (plan_wires none act p row (suc g)) (length row + g) none
      ≡ act g (gate_at p g).table (value_on none ws (gate_at p g).first) (value_on none ws (gate_at p g).second)
  unfolding plan_wires
  last-value g = get_or_at (plan_wires none act p row g) _ [] none (length row + g) (length-plan_wires g)

  -- gate g's value is made of the wires before it
  pub gate-value : (n g : ℕ) → g < n → let ws : List A = plan_wires none act p row g in
      get_or (plan_wires none act p row n) (length row + g) none
      ≡ act g (gate_at p g).table (value_on none ws (gate_at p g).first) (value_on none ws (gate_at p g).second)
  gate-value n g l = wires_stay (suc g) n (length row + g) l (omega arith) ∙ last-value g

-- a table gives 0 or 1
pub table-bit : (t a b : ℕ) → table_bit t a b ≤ 1
unfolding table_bit
table-bit t a b = omega arith

-- one entry more, and all are bits
more-bits : (xs : List ℕ) (x : ℕ) → ((i : ℕ) → get_or xs i 0 ≤ 1) → x ≤ 1 → (i : ℕ) → get_or (xs ++ (x ∷ [])) i 0 ≤ 1
more-bits [] x hs hx zero = hx
more-bits [] x hs hx (suc i) = omega arith
more-bits (y ∷ ys) x hs hx zero = hs 0
more-bits (y ∷ ys) x hs hx (suc i) = more-bits ys x (λ j. hs (suc j)) hx i

-- on a row of bits every wire has 0 or 1
pub wire-bit : (p : Plan) (row : List ℕ) → ((i : ℕ) → get_or row i 0 ≤ 1) → (n i : ℕ) → get_or (plan_wires 0 gate_bit p row n) i 0 ≤ 1
unfolding plan_wires
wire-bit p row h zero i = h i
wire-bit p row h (suc n) i = more-bits (plan_wires 0 gate_bit p row n) _ (wire-bit p row h n) (table-bit _ _ _) i

-- evaluation writes v entries, each 0 or 1
module _ (p : Plan) (row : List ℕ) where
  pub length-plan_outputs : length (plan_outputs 0 gate_bit p row) ≡ p.output_count
  length-plan_outputs = length-list_of p.output_count _

  pub plan_outputs-bits : contact_fault p.inputs row ≡ 0 → (j : ℕ) → j < p.output_count → get_or (plan_outputs 0 gate_bit p row) j 0 ≤ 1
  plan_outputs-bits contacts j h =
      rw (get_or-list_of p.output_count (λ j. value_on 0 (plan_wires 0 gate_bit p row p.gate_count) (output_at p j)) j 0 h)
      (wire-bit p row (row-bit p.inputs row contacts) p.gate_count ((output_at p j).0 - 1))

-- the bit of a gate's wire, by the bits of its operands' wires
pub gate-bit : (p : Plan) (row : List ℕ) → Accepted p → contact_fault p.inputs row ≡ 0 → (i : ℕ) → i < p.gate_count
    → wire_bit p row (gate_wire p.inputs i) ≡ table_bit (gate_at p i).table (wire_bit p row (gate_at p i).first.0) (wire_bit p row (gate_at p i).second.0)
gate-bit p row accepted contacts i h =
    let w = accepted-gate p accepted i h in
    let k = p.gate_count in
    let size = row-length p.inputs row contacts in
    let place : gate_wire p.inputs i - 1 ≡ length row + i = omega arith in
    let earlier : (x : ℕ) → x < gate_wire p.inputs i → 1 ≤ x → get_or (plan_wires 0 gate_bit p row i) (x - 1) 0 ≡ wire_bit p row x =
    λ x l m. sym (wires_stay 0 gate_bit p row i k (x - 1) (omega arith) (omega arith)) in
    rw (place, gate-value 0 gate_bit p row k i h, earlier _ w.first w.some_first, earlier _ w.second w.some_second)
