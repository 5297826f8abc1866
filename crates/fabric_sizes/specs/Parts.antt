-- The counts of a fabric's parts: the rows of a block, the wires that they make, and their program bits.
use Rattle.std.specs.Prelude.{ℕ, suc, ◌*◌, ◌^◌, ◌≤◌, ◌≡◌}
use Rattle.elements.specs.declared.Counts.{Counts}
use Rattle.blocks.specs.Elements.{operands}
use Rattle.blocks.specs.Networks.{selection_count, selection_wires}
use Rattle.plan.specs.Record.{max_gates}
use Rattle.fabric_universal.specs.Selector.{selection}
use Rattle.fabric_universal.specs.Universal.{universal_count, universal_wires, universal_takes}
use Rattle.fabric_universal.specs.Fabric.{gate_level}

-- the pins of the largest U of a plan, two for each gate
abbrev pub max_pins : ℕ
max_pins = operands * max_gates

-- the largest level of U, where its gates are counted in 16 bits
abbrev pub top_level : ℕ
top_level = 16

-- no part of a fabric has more rows, wires or bits then
abbrev pub block_limit : ℕ
block_limit = 2 ^ 26

-- K, with its bounds. A power of two is its own K
pub record PlacesAre (k places : ℕ) : Type 0 where
  pub is_places : places ≡ 2 ^ gate_level k
  pub some : 1 ≤ places
  pub most : places ≤ 2 ^ top_level

-- a block's counts, which are small
pub record BlockIs (rows wires bits : ℕ) (c : Counts) : Type 0 where
  pub is_rows : c.rows ≡ rows
  pub is_wires : c.wires ≡ wires
  pub is_bits : c.bits ≡ bits
  pub few_rows : c.rows ≤ block_limit
  pub few_wires : c.wires ≤ block_limit
  pub few_bits : c.bits ≤ block_limit

-- S(m, n) has at most as many inputs and outputs as the largest U has pins
pub record SelectionWithin (m n : ℕ) : Type 0 where
  pub inputs : m ≤ 2 ^ suc top_level
  pub outputs : n ≤ 2 ^ suc top_level

-- the counts of S(m, n)
abbrev pub SelectionIs : ℕ → ℕ → Counts → Type 0
SelectionIs m n c = BlockIs (selection_count m n) (selection_wires m n) (selection_count m n) c

-- the counts of U at the level n
abbrev pub UniversalIs : ℕ → Counts → Type 0
UniversalIs n c = BlockIs (universal_count selection n) (universal_wires selection n) (universal_takes selection n) c
