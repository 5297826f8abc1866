-- What the writer of U requires of its parts.
use Rattle.std.specs.Prelude.{ℕ, suc, ◌+◌, ◌*◌, ◌^◌, ◌<◌, ◌≤◌, ◌≡◌, List, ◌++◌, length}
use Rattle.elements.specs.Elements.{max_wires}
use Rattle.blocks.specs.Elements.{Row, operands, stride}
use Rattle.blocks.specs.Networks.{selection_rows, selection_outs, selection_count}
use Rattle.blocks.specs.Calls.{SelectionWritePasses}
use Rattle.plan.specs.Record.{max_gates}
use Rattle.fabric_universal.specs.Selector.{selection}
use Rattle.fabric_universal.specs.Universal.{mix_rows, wires_from, universal_count, universal_wires, select_next, mix_next, lower_half_next}
use Rattle.fabric_universal.specs.Fabric.{gate_level}
use Rattle.fabric_rows.specs.declared.block.UniversalParts.{UniversalParts}

-- the rows between the halves: the selection block on the upper half's output wires, then a Y row for each of the lower half's pins
unfoldable pub middle_rows : UniversalParts → List ℕ → List ℕ → List Row
middle_rows p outs pins =
    selection_rows p.half p.pins outs p.select_next.0 ++ mix_rows p.pins pins (selection_outs p.half p.pins outs p.select_next.0)

-- what stands in the pins' places then: the output wires of the selection block, and those of the Y rows
unfoldable pub middle_pins : UniversalParts → List ℕ → List ℕ
middle_pins p outs = selection_outs p.half p.pins outs p.select_next.0 ++ wires_from p.pins p.mix_next.0

-- ---- what fits

-- the wires of U of `gates` gates, a power of two above 1
pub record UniversalWires (gates next : ℕ) : Type 0 where
  pub some : 1 < gates
  pub power : gates ≡ 2 ^ gate_level gates
  pub few : gates ≤ max_gates
  pub wires : next + universal_wires selection (gate_level gates) ≤ max_wires

-- U with `outs` gates, a power of two, and a place for each of the `rows` entries of its rows and of its `pins` pins
pub record UniversalWriteRoom (next rows pins outs : ℕ) : Type 0 where
  pub power : outs ≡ 2 ^ gate_level outs
  pub few : outs ≤ max_gates
  pub wires : next + universal_wires selection (gate_level outs) ≤ max_wires
  pub row_room : rows ≡ stride * universal_count selection (gate_level outs)
  pub pin_room : pins ≡ operands * outs

-- what stands between the halves
pub record MiddleRoom (p : UniversalParts) (outs : List ℕ) (rows pins : ℕ) : Type 0 where
  pub select : SelectionWritePasses p.half p.pins outs p.select_next.0 p.select pins
  pub out_room : length outs ≡ p.half
  pub select_at : p.select ≡ stride * selection_count p.half p.pins
  pub row_room : rows ≡ p.select + stride * p.pins
  pub pin_room : pins ≡ 2 * p.pins
  pub wires : p.mix_next.0 + p.pins ≤ max_wires

-- the entries of the parts of U, and the first wires that they make
pub record UniversalPartsAt (gates next : ℕ) (p : UniversalParts) : Type 0 where
  pub half_is : p.half ≡ 2 ^ gate_level p.half
  pub pins_are : p.pins ≡ 2 * p.half
  pub double : gates ≡ p.pins
  pub level : gate_level gates ≡ suc (gate_level p.half)
  pub some : 1 ≤ p.half
  pub few : p.pins ≤ max_gates
  pub upper_at : p.upper ≡ stride * universal_count selection (gate_level p.half)
  pub select_at : p.select ≡ stride * (selection (gate_level p.half)).count
  pub middle_at : p.middle ≡ p.select + stride * p.pins
  pub whole : stride * universal_count selection (gate_level gates) ≡ p.upper + (p.middle + stride * universal_count selection (gate_level p.half))
  pub select_from : p.select_next.0 ≡ select_next selection (gate_level p.half) next
  pub mix_from : p.mix_next.0 ≡ mix_next selection (gate_level p.half) next
  pub lower_from : p.lower_next.0 ≡ lower_half_next selection (gate_level p.half) next
  pub made : p.lower_next.0 + universal_wires selection (gate_level p.half) ≤ max_wires
