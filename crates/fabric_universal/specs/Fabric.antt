-- Document 01, "Blocks": the fabric of the counts u, k, v, with K the smallest power of two not below k, is S(u, 2K), U(K), S(K, v); its table;
-- and the program bits of a plan. Wire 0 is constant zero, wires 1 to u are the inputs. Gates, pins and outputs count from 0.
use Rattle.std.specs.Prelude.{ℕ, suc, ◌+◌, ◌-◌, ◌/◌, ◌%◌, ◌^◌, cond, List, ◌∷◌, ◌++◌, leb, ltb}
use Rattle.lists.specs.Lists.{list_of}
use Rattle.powers.specs.Powers.{ceil_log}
use Rattle.blocks.specs.Elements.{Row, operands, choose, flat, pack}
use Rattle.blocks.specs.Networks.{selection_rows, selection_outs, selection_wires, selection_count, selection_bits}
use Rattle.plan.specs.declared.record.Gate.{Gate}
use Rattle.plan.specs.declared.record.Plan.{Plan}
use Rattle.plan.specs.Record.{wire, gate_at, output_at}
use Rattle.fabric_universal.specs.Selector.{pin_count, selection}
use Rattle.fabric_universal.specs.Universal.{universal_rows, universal_outs, universal_wires, universal_count, universal_takes, Gates, universal_bits}

-- ---- rows

-- K is 2 to this power
abbrev pub gate_level : ℕ → ℕ
gate_level k = ceil_log k

-- the wires 1 to u
unfoldable pub input_wires : ℕ → List ℕ
input_wires u = list_of u (λ i. suc i)

-- the pins of U(K): the outputs of S(u, 2K), whose first wire is u + 1
abbrev pub fabric_pins : ℕ → ℕ → List ℕ
fabric_pins u k = selection_outs u (pin_count (gate_level k)) (input_wires u) (suc u)

-- the first wire that U(K) makes, that S(K, v) makes
abbrev pub universal_next : ℕ → ℕ → ℕ
universal_next u k = suc u + selection_wires u (pin_count (gate_level k))

abbrev pub fabric_output_next : ℕ → ℕ → ℕ
fabric_output_next u k = universal_next u k + universal_wires selection (gate_level k)

-- the gates' wires: the outputs of U(K)
abbrev pub gate_outs : ℕ → ℕ → List ℕ
gate_outs u k = universal_outs selection (gate_level k) (universal_next u k)

-- the rows of its three parts: S(u, 2K), U(K), S(K, v)
abbrev pub input_part : ℕ → ℕ → List Row
input_part u k = selection_rows u (pin_count (gate_level k)) (input_wires u) (suc u)

abbrev pub block_part : ℕ → ℕ → List Row
block_part u k = universal_rows selection (gate_level k) (fabric_pins u k) (universal_next u k)

abbrev pub output_part : ℕ → ℕ → ℕ → List Row
output_part u k v = selection_rows (2 ^ gate_level k) v (gate_outs u k) (fabric_output_next u k)

-- the fabric's rows, and its output wires
unfoldable pub fabric_rows : ℕ → ℕ → ℕ → List Row
fabric_rows u k v = input_part u k ++ (block_part u k ++ output_part u k v)

unfoldable pub fabric_outs : ℕ → ℕ → ℕ → List ℕ
fabric_outs u k v = selection_outs (2 ^ gate_level k) v (gate_outs u k) (fabric_output_next u k)

-- ---- counts: rows, wires, program bits

unfoldable pub fabric_count : ℕ → ℕ → ℕ → ℕ
fabric_count u k v =
    selection_count u (pin_count (gate_level k)) + (universal_count selection (gate_level k) + selection_count (2 ^ gate_level k) v)

unfoldable pub fabric_wires : ℕ → ℕ → ℕ → ℕ
fabric_wires u k v = fabric_output_next u k + selection_wires (2 ^ gate_level k) v

unfoldable pub fabric_takes : ℕ → ℕ → ℕ → ℕ
fabric_takes u k v =
    selection_count u (pin_count (gate_level k)) + (universal_takes selection (gate_level k) + selection_count (2 ^ gate_level k) v)

-- ---- the table: u, v, the number of rows; the rows; the output wires

unfoldable pub fabric_table : ℕ → ℕ → ℕ → List ℕ
fabric_table u k v = u ∷ v ∷ fabric_count u k v ∷ (flat (fabric_rows u k v) ++ fabric_outs u k v)

-- ---- a plan's program bits

-- a gate past the plan's: table 0, both pins on input 1
abbrev pub spare_gate : Gate
spare_gate = record { first = wire 1; second = wire 1; table = 0 }

-- gate g, or the spare one
unfoldable pub padded_gate : Plan → ℕ → Gate
padded_gate p g = cond (ltb g p.gate_count) (gate_at p g) spare_gate

-- gates behind u inputs: pins 2g and 2g + 1 are gate g's operands
abbrev pub gates_of : ℕ → (ℕ → Gate) → Gates
gates_of u gate = record {
  before = u;
  operand = λ q. choose (q % operands) (gate (q / operands)).first.0 (gate (q / operands)).second.0;
  table = λ g. (gate g).table;
}

-- the gates of U(K)
abbrev pub plan_gates : Plan → Gates
plan_gates p = gates_of p.inputs (padded_gate p)

-- the input that a pin of operand w wants: an input if the operand is one, otherwise input 1
unfoldable pub wanted_input : ℕ → ℕ → ℕ
wanted_input u w = cond (leb w u) w 1

-- the inputs that the pins want
unfoldable pub wanted_inputs : Plan → List ℕ
wanted_inputs p = list_of (pin_count (gate_level p.gate_count)) (λ q. wanted_input p.inputs ((plan_gates p).operand q))

-- the gates that the outputs name, counted from 1
unfoldable pub wanted_outputs : Plan → List ℕ
wanted_outputs p = list_of p.output_count (λ j. (output_at p j).0 - p.inputs)

-- the bits of S(u, 2K), U(K), S(K, v)
unfoldable pub plan_bits : Plan → List ℕ
plan_bits p =
    let n : ℕ = gate_level p.gate_count in
    selection_bits p.inputs (pin_count n) (wanted_inputs p)
    ++ (universal_bits selection (plan_gates p) n 0 ++ selection_bits (2 ^ n) p.output_count (wanted_outputs p))

-- packed into bytes
unfoldable pub plan_program : Plan → List ℕ
plan_program p = pack (plan_bits p)

-- the fabric's table for the plan's counts
abbrev pub plan_table : Plan → List ℕ
plan_table p = fabric_table p.inputs p.gate_count p.output_count
