-- What the fabric consists of, by its parts S(u, 2K), U(K), S(K, v): its rows, wires and bits, K gates; v output wires, each made; each row's
-- wires are made before it; and within the limits of a plan it has at most 65,536 wires.
use mathlib.Core.Path.{◌≡◌, refl, ap, ap₂, ◌∙◌, fun_ext}
use mathlib.Core.Bool.{cond}
use Prim.Native.Nat.{ℕ, zero, suc, ◌+◌, ◌-◌, ◌*◌, ◌^◌, ◌≤◌, ◌<◌}
use native.Mathlib.Nat.{add-zero, add-suc, suc-mul, mul_left_comm, mul-le-mul}
use native.Mathlib.Decide.{dec_lt}
use native.Mathlib.Omega.{arith}
use borrow.Author.Tests.{lt-ltb, le-ltb}
use lib.Dec.{ltb}
use lib.ListN.{length, get_or, length-append}
use lib.Pow.{pow_mono}
use Rattle.lists.specs.Lists.{list_of, Below}
use Rattle.lists.proofs.ListsLaws.{length-list_of, get_or-list_of, list_of_ext, below-list_of}
use Rattle.powers.specs.Powers.{ceil_power}
use Rattle.powers.proofs.PowersLaws.{ceil_log-least}
use Rattle.blocks.specs.Elements.{stride, flat, makes, total, MadeBefore, Totals, AreBits, bytes_for}
use Rattle.blocks.proofs.ElementsLaws.{made_before-append, totals-append, length-flat, bits-append, length-pack}
use Rattle.blocks.specs.Networks.{selection_level, selection_wires}
use Rattle.blocks.proofs.NetworksLaws.{level-least, selection-count, selection-made, length-selection_rows, selection-totals, length-selection_outs}
use Rattle.blocks.proofs.NetworksLaws.{length-selection_bits, selection_bits-bits}
use Rattle.blocks.proofs.PromisesLaws.{selection-block-shape}
use Rattle.plan.specs.declared.record.Plan.{Plan}
use Rattle.plan.specs.declared.record.PlanWire.{PlanWire}
use Rattle.plan.specs.Record.{gate_at, output_at}
use Rattle.plan.specs.Faults.{CountsWithin}
use Rattle.plan.proofs.AgreeLaws.{Agree}
use Rattle.fabric_universal.specs.Selector.{pin_count, selection}
use Rattle.fabric_universal.specs.Universal.{universal_wires, Gates}
use Rattle.fabric_universal.specs.Fabric.{gate_level, input_wires, fabric_pins, universal_next, fabric_output_next, gate_outs, fabric_rows, fabric_outs, plan_program}
use Rattle.fabric_universal.specs.Fabric.{fabric_count, fabric_wires, fabric_takes, fabric_table, spare_gate, padded_gate, gates_of, plan_gates}
use Rattle.fabric_universal.specs.Fabric.{wanted_input, wanted_inputs, wanted_outputs, plan_bits}
use Rattle.fabric_universal.proofs.SelectorLaws.{double, selection-shape}
use Rattle.fabric_universal.proofs.UniversalLaws.{length-universal_rows, universal_totals, universal_below, length-universal_bits, length-universal_outs}
use Rattle.fabric_universal.proofs.UniversalLaws.{universal_bits-bits, fed-below, Fed, universal_made_before, universal_takes_lem, universal_count_lem, universal_made}

-- K is document 01's: the smallest power of two not below k
pub gate-places : (k : ℕ) → 2 ^ gate_level k ≡ ceil_power k
unfolding ceil_power
gate-places k = refl

-- ---- the inputs

pub length-input_wires : (u : ℕ) → length (input_wires u) ≡ u
unfolding input_wires
length-input_wires u = length-list_of u _

pub get_or-input_wires : (u i : ℕ) → i < u → get_or (input_wires u) i 0 ≡ suc i
unfolding input_wires
get_or-input_wires u i l = get_or-list_of u _ i 0 l

pub inputs-below : (u : ℕ) → Below (suc u) (input_wires u)
unfolding input_wires
inputs-below u = below-list_of (suc u) u _ (λ i l. omega arith)

module _ (u k v : ℕ) where
  -- ---- rows, wires, bits

  pub length-fabric_rows : length (fabric_rows u k v) ≡ fabric_count u k v
  unfolding fabric_rows fabric_count
  length-fabric_rows = simp (length-append, length-selection_rows, length-universal_rows selection selection-shape)

  pub fabric_totals : let level : ℕ = gate_level k in
      Totals (fabric_rows u k v) (selection_wires u (pin_count level) + (universal_wires selection level + selection_wires (2 ^ level) v)) (fabric_takes u k v)
      (2 ^ level)
  unfolding fabric_rows fabric_takes
  fabric_totals =
      let t = totals-append (selection-totals u _ _ _)
      (totals-append (universal_totals selection selection-shape (gate_level k) _ _) (selection-totals _ v _ _)) in
      record { wires = t.wires; bits = t.bits; gates = omega (arith, t.gates); family = t.family }

  -- wire 0, the inputs, and what the rows make
  pub fabric_wires_lem : suc u + total makes (fabric_rows u k v) ≡ fabric_wires u k v
  unfolding fabric_wires
  fabric_wires_lem = rw fabric_totals.wires (omega arith)

  pub length-fabric_outs : length (fabric_outs u k v) ≡ v
  unfolding fabric_outs
  length-fabric_outs = length-selection_outs (2 ^ gate_level k) v _ _

  -- u, v, the number of rows; three entries a row; the outputs
  pub length-fabric_table : length (fabric_table u k v) ≡ 3 + stride * fabric_count u k v + v
  unfolding fabric_table
  length-fabric_table =
      let e = length-append (flat (fabric_rows u k v)) (fabric_outs u k v) in
      omega (arith, e, length-flat fabric_totals.family, length-fabric_rows, length-fabric_outs)

  -- ---- each wire is made before it is read

  pub pins-below : Below (universal_next u k) (fabric_pins u k)
  pins-below = (selection-block-shape u (pin_count (gate_level k))).below (input_wires u) (suc u) (omega arith) (inputs-below u)

  pub pins-fed : Fed (gate_level k) (universal_next u k) (fabric_pins u k)
  pins-fed = fed-below (length-selection_outs u (pin_count (gate_level k)) (input_wires u) (suc u)) pins-below

  pub gates-below : Below (fabric_output_next u k) (gate_outs u k)
  gates-below = universal_below selection (gate_level k) (universal_next u k)

  -- every output wire is made
  pub fabric_below : Below (fabric_wires u k v) (fabric_outs u k v)
  unfolding fabric_wires fabric_outs
  fabric_below = (selection-block-shape (2 ^ gate_level k) v).below (gate_outs u k) (fabric_output_next u k) (omega arith) gates-below

  pub fabric_made_before : MadeBefore (suc u) (fabric_rows u k v)
  unfolding fabric_rows
  fabric_made_before =
      let level : ℕ = gate_level k in
      made_before-append ((selection-block-shape u (pin_count level)).made_before (input_wires u) (suc u) (length-input_wires u) (omega arith) (inputs-below u))
      (ap (λ m. suc u + m) (selection-totals u (pin_count level) (input_wires u) (suc u)).wires)
      (made_before-append (universal_made_before selection selection-shape level (fabric_pins u k) (universal_next u k) (omega arith) pins-fed)
      (ap (λ m. universal_next u k + m) (universal_totals selection selection-shape level (fabric_pins u k) (universal_next u k)).wires)
      ((selection-block-shape (2 ^ level) v).made_before (gate_outs u k) (fabric_output_next u k) (length-universal_outs selection level (universal_next u k)) (omega arith) gates-below))

  -- ---- closed forms

  -- a bit for each row, and three more for each of the K gates
  pub fabric_takes_lem : fabric_takes u k v ≡ fabric_count u k v + 3 * 2 ^ gate_level k
  unfolding fabric_takes fabric_count
  fabric_takes_lem = omega (arith, universal_takes_lem selection (gate_level k))

  -- 2M log M - M + 1 rows of S(u, 2K), K(n² + n) + 2K - 1 of U(K), 2N log N - N + 1 of S(K, v)
  pub fabric_count_lem : let n : ℕ = gate_level k in
      let a : ℕ = selection_level u (pin_count n) in
      let b : ℕ = selection_level (2 ^ n) v in
      fabric_count u k v + 2 ^ a + 2 ^ b ≡ 2 * (a * 2 ^ a) + (2 ^ n * (n * n + n) + 2 * 2 ^ n) + 2 * (b * 2 ^ b) + 1
  unfolding fabric_count
  fabric_count_lem =
      let n : ℕ = gate_level k in
      omega (arith, selection-count u (pin_count n), universal_count_lem n, selection-count (2 ^ n) v)

  -- and the wires: 4M log M - 3M + 3, K(2n² + 4) - 3, 4N log N - 3N + 3, and u + 1
  pub fabric_made : let n : ℕ = gate_level k in
      let a : ℕ = selection_level u (pin_count n) in
      let b : ℕ = selection_level (2 ^ n) v in
      fabric_wires u k v + 3 * 2 ^ a + 3 * 2 ^ b ≡ suc u + 4 * (a * 2 ^ a) + (2 * (2 ^ n * (n * n)) + 4 * 2 ^ n) + 4 * (b * 2 ^ b) + 3
  unfolding fabric_wires
  fabric_made =
      let n : ℕ = gate_level k in
      omega (arith, selection-made u (pin_count n), universal_made n, selection-made (2 ^ n) v)

-- ---- a plan's bits

pub length-plan_bits : (p : Plan) → length (plan_bits p) ≡ fabric_takes p.inputs p.gate_count p.output_count
unfolding plan_bits fabric_takes
length-plan_bits p = simp (length-append, length-selection_bits, length-universal_bits selection selection-shape)

pub plan_bits-bits : (p : Plan) → AreBits (plan_bits p)
unfolding plan_bits
plan_bits-bits p =
    bits-append (selection_bits-bits _ _ (wanted_inputs p))
    (bits-append (universal_bits-bits selection selection-shape (plan_gates p) _ 0) (selection_bits-bits _ _ (wanted_outputs p)))

-- unused places never matter
module _ (p q : Plan) (same : Agree p q) where
  same-padded : (g : ℕ) → padded_gate p g ≡ padded_gate q g
  unfolding padded_gate
  same-padded g = go (dec_lt g p.gate_count)
    where
      go : Dec (g < p.gate_count)
          → cond (ltb g p.gate_count) (gate_at p g) spare_gate ≡ cond (ltb g q.gate_count) (gate_at q g) spare_gate
      go (yes l) = rw (← same.gates, lt-ltb g p.gate_count l) (same.gate g l)
      go (no l) = rw (← same.gates, le-ltb g p.gate_count (omega arith))

  same-gates : plan_gates p ≡ plan_gates q
  same-gates = ap₂ gates_of same.inputs (fun_ext same-padded)

  same_inputs : wanted_inputs p ≡ wanted_inputs q
  unfolding wanted_inputs
  same_inputs =
      ap₂ (λ k (G : Gates). list_of (pin_count (gate_level k)) (λ i. wanted_input G.before (G.operand i))) same.gates same-gates

  same-outputs : wanted_outputs p ≡ wanted_outputs q
  unfolding wanted_outputs
  same-outputs =
      list_of_ext p.output_count _ _ (λ j l. ap₂ (λ (w : PlanWire) u. w.0 - u) (same.output j l) same.inputs)
      ∙ ap (λ v. list_of v (λ j. (output_at q j).0 - q.inputs)) same.outputs

  pub same_bits : plan_bits p ≡ plan_bits q
  unfolding plan_bits
  same_bits = cc (same-gates, same_inputs, same-outputs)

-- ---- within the limits of a plan

-- a larger S makes more wires and has more rows
wires_grow : (l m : ℕ) → 4 * (l * 2 ^ l) + 3 * 2 ^ (l + m) ≤ 4 * ((l + m) * 2 ^ (l + m)) + 3 * 2 ^ l
wires_grow l zero = rw (add-zero l) (omega arith)
wires_grow l (suc m) =
    rw (add-suc l m, double (l + m), suc-mul (l + m) (2 * 2 ^ (l + m)), mul_left_comm (l + m) 2 (2 ^ (l + m)))
    (omega (arith, wires_grow l m))

rows_grow : (l m : ℕ) → 2 * (l * 2 ^ l) + 2 ^ (l + m) ≤ 2 * ((l + m) * 2 ^ (l + m)) + 2 ^ l
rows_grow l zero = rw (add-zero l) (omega arith)
rows_grow l (suc m) =
    rw (add-suc l m, double (l + m), suc-mul (l + m) (2 * 2 ^ (l + m)), mul_left_comm (l + m) 2 (2 ^ (l + m)))
    (omega (arith, rows_grow l m))

wires-most : (l m : ℕ) → l ≤ m → 4 * (l * 2 ^ l) + 3 * 2 ^ m ≤ 4 * (m * 2 ^ m) + 3 * 2 ^ l
wires-most l m h = let e : m ≡ l + (m - l) = omega arith in rw e (wires_grow l (m - l))

rows-most : (l m : ℕ) → l ≤ m → 2 * (l * 2 ^ l) + 2 ^ m ≤ 2 * (m * 2 ^ m) + 2 ^ l
rows-most l m h = let e : m ≡ l + (m - l) = omega arith in rw e (rows_grow l (m - l))

-- the levels of the parts
pub record LevelsWithin (u k v : ℕ) : Type 0 where
  pub gates : gate_level k ≤ 8
  pub inputs : selection_level u (pin_count (gate_level k)) ≤ 9
  pub outputs : selection_level (2 ^ gate_level k) v ≤ 8

pub levels_within : (u k v : ℕ) → CountsWithin u k v → LevelsWithin u k v
levels_within u k v c =
    let n : gate_level k ≤ 8 = ceil_log-least k 8 c.gates in
    let K : 2 ^ gate_level k ≤ 2 ^ 8 = pow_mono n in
    record {
      gates = n;
      inputs = level-least u (pin_count (gate_level k)) 9 (omega (arith, c.inputs)) (omega arith);
      outputs = level-least (2 ^ gate_level k) v 8 K (omega (arith, c.outputs));
    }

-- the counts of the largest fabric
pub record FabricWithin (u k v : ℕ) : Type 0 where
  pub rows : fabric_count u k v ≤ 31489
  pub wires : fabric_wires u k v ≤ 58180
  pub bits : fabric_takes u k v ≤ 32257

pub fabric_within : (u k v : ℕ) → CountsWithin u k v → FabricWithin u k v
fabric_within u k v c =
    let n : ℕ = gate_level k in
    let a : ℕ = selection_level u (pin_count n) in
    let b : ℕ = selection_level (2 ^ n) v in
    let l = levels_within u k v c in
    let K : 2 ^ n ≤ 2 ^ 8 = pow_mono l.gates in
    let square : n * n ≤ 8 * 8 = mul-le-mul l.gates l.gates in
    let both : n * n + n ≤ 72 = omega (arith, l.gates) in
    let universal : 2 ^ n * (n * n + n) ≤ 2 ^ 8 * 72 = mul-le-mul K both in
    let made : 2 ^ n * (n * n) ≤ 2 ^ 8 * 64 = mul-le-mul K square in
    let rows : fabric_count u k v ≤ 31489 = omega (arith, fabric_count_lem u k v, rows-most a 9 l.inputs, rows-most b 8 l.outputs) in
    record {
      rows = rows;
      wires = omega (arith, c.inputs, fabric_made u k v, wires-most a 9 l.inputs, wires-most b 8 l.outputs);
      bits = omega (arith, fabric_takes_lem u k v);
    }

-- the bytes of a plan's program
pub length-plan_program : (p : Plan) → length (plan_program p) ≡ bytes_for (fabric_takes p.inputs p.gate_count p.output_count)
unfolding plan_program
length-plan_program p = length-pack (plan_bits p) ∙ ap bytes_for (length-plan_bits p)
