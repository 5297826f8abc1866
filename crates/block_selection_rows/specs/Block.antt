-- What the functions under the call need of wires and room.
use Rattle.std.specs.Prelude.{ℕ, ◌+◌, ◌-◌, ◌*◌, ◌^◌, ◌≤◌, ◌<◌, ◌≡◌, List, length}
use Rattle.lists.specs.Lists.{Below}
use Rattle.elements.specs.Elements.{max_wires}
use Rattle.block_elements.specs.Rows.{stride}
use Rattle.block_networks.specs.Permutation.{permutation_count}
use Rattle.block_networks.specs.Selection.{chain_next, second_next, whole_count, whole_wires}
use Rattle.block_sizes.specs.Sizes.{max_size, level_of, SizeIs}
use Rattle.block_selection_rows.specs.declared.block.SelectionParts.{SelectionParts}

-- ---- the block of N positions

-- where its chain and its second P begin
pub record SelectionPartsAt (level next : ℕ) (p : SelectionParts) : Type 0 where
  pub chain_at : p.chain ≡ stride * permutation_count level
  pub second_at : p.second ≡ stride * (permutation_count level + (2 ^ level - 1))
  pub chain_from : p.chain_next.0 ≡ chain_next level next
  pub second_from : p.second_next.0 ≡ second_next level next
  pub whole : p.second + stride * permutation_count level ≡ stride * whole_count level

-- its wires can be made from `next` on
pub record BlockWires (N next : ℕ) : Type 0 where
  pub size : SizeIs N
  pub wires : 1 ≤ whole_wires (level_of N) → next + whole_wires (level_of N) ≤ max_wires

-- and the wires of `from`, which feed it, are made, and the table's part and the second list have room
pub record BlockRoom (from : List ℕ) (next rows to : ℕ) : Type 0 where
  pub made : BlockWires (length from) next
  pub some : 0 < next
  pub fed : Below next from
  pub row_room : stride * whole_count (level_of (length from)) ≤ rows
  pub to_places : to ≡ length from

-- ---- the chain

-- its wires over N positions can be made from `next` on, and have places in a list
pub record LinkRoom (N next from : ℕ) : Type 0 where
  pub some : 1 ≤ N
  pub most : N ≤ max_size
  pub wires : 1 ≤ N - 1 → next + (N - 1) ≤ max_wires
  pub from_places : from ≡ N

-- and its rows fit the table's part
pub record ChainRoom (N next rows from : ℕ) : Type 0 where
  pub link : LinkRoom N next from
  pub row_room : stride * (N - 1) ≤ rows
