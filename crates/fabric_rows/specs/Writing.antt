-- What the functions under the call require of their parts.
use Rattle.std.specs.Prelude.{ℕ, suc, ◌+◌, ◌*◌, ◌^◌, ◌<◌, ◌≤◌, ◌≡◌}
use Rattle.elements.specs.Elements.{max_wires}
use Rattle.blocks.specs.Elements.{stride}
use Rattle.blocks.specs.Networks.{selection_count, selection_wires}
use Rattle.plan.specs.Record.{max_inputs, max_gates}
use Rattle.fabric_universal.specs.Selector.{pin_count, selection}
use Rattle.fabric_universal.specs.Universal.{universal_count}
use Rattle.fabric_universal.specs.Fabric.{gate_level, universal_next, fabric_output_next, fabric_count}
use Rattle.fabric_sizes.specs.Layout.{header}
use Rattle.fabric_sizes.specs.Counting.{table_length}
use Rattle.fabric_rows.specs.declared.writing.Layout.{Layout}

-- the number of rows, K, the entries of the parts' rows, and the first wires that they make
pub record LayoutIs (u k v : ℕ) (l : Layout) : Type 0 where
  pub is_rows : l.rows ≡ fabric_count u k v
  pub few_rows : l.rows < max_wires
  pub are_gates : l.gates ≡ 2 ^ gate_level k
  pub some_gates : 1 ≤ l.gates
  pub few_gates : l.gates ≤ max_gates
  pub pins_are : l.pins ≡ stride * selection_count u (pin_count (gate_level k))
  pub universal_is : l.universal ≡ stride * universal_count selection (gate_level k)
  pub outputs_are : l.outputs ≡ stride * selection_count (2 ^ gate_level k) v
  pub whole : table_length u k v ≡ header + (l.pins + (l.universal + (l.outputs + v)))
  pub universal_from : l.universal_next.0 ≡ universal_next u k
  pub output_from : l.output_next.0 ≡ fabric_output_next u k
  pub wires : fabric_output_next u k + selection_wires (2 ^ gate_level k) v ≤ max_wires

-- the number of rows is of 16 bits
pub record HeaderRoom (rows room : ℕ) : Type 0 where
  pub few_rows : rows < max_wires
  pub enough : room ≡ header

-- S(u, 2K) on the inputs, and a place for each of the `rows` entries of its rows and of its `pins` output wires
pub record PinRoom (u gates rows pins : ℕ) : Type 0 where
  pub some_inputs : 1 ≤ u
  pub inputs : u ≤ max_inputs
  pub some_gates : 1 ≤ gates
  pub few_gates : gates ≤ max_gates
  pub wires : suc u + selection_wires u (2 * gates) ≤ max_wires
  pub row_room : rows ≡ stride * selection_count u (2 * gates)
  pub pin_room : pins ≡ 2 * gates
