-- Writing P from numbers: the rows of a level's parts, its output wires, and what the writer of a level requires.
use Rattle.std.specs.Prelude.{ℕ, suc, ◌+◌, ◌-◌, ◌*◌, ◌%◌, ◌^◌, ◌≤◌, ◌≡◌, List, [], ◌∷◌, ◌++◌, get_or}
use Rattle.lists.specs.Lists.{list_of}
use Rattle.elements.specs.Elements.{max_wires}
use Rattle.block_elements.specs.Rows.{Row, X, stride}
use Rattle.block_networks.specs.Permutation.{permutation_count, output_rows, firsts, seconds, upper_next, lower_next, output_next}
use Rattle.block_networks.specs.Permutation.{permutation_rows, upper_outs, lower_outs}
use Rattle.block_sizes.specs.Sizes.{max_size, max_level}
use Rattle.block_permutation_rows.specs.declared.level.LevelOuts.{LevelOuts}
use Rattle.block_permutation_rows.specs.declared.level.LevelParts.{LevelParts}

-- `count` X rows: row i takes the wires left + step * i and right + step * i, each in an entry
unfoldable pub rising_rows : ℕ → ℕ → ℕ → ℕ → List Row
rising_rows count left right step = list_of count (λ i. X ((left + step * i) % max_wires) ((right + step * i) % max_wires))

-- ---- P at level n + 1, whose input rows make the wires from `next` on

-- its rows behind the input rows: upper, lower, output X rows
unfoldable pub inner_rows : ℕ → ℕ → List Row
inner_rows n next =
    permutation_rows n (firsts (2 ^ n) next) (upper_next n next)
    ++ (permutation_rows n (seconds (2 ^ n) next) (lower_next n next)
    ++ output_rows (2 ^ n - 1) (upper_outs n next) (lower_outs n next))

-- how many they are
abbrev pub inner_count : ℕ → ℕ
inner_count n = permutation_count n + (permutation_count n + (2 ^ n - 1))

-- its output wires: where the rising ones begin, and the last pair
pub record OutsAt (n next : ℕ) (p : LevelOuts) : Type 0 where
  pub first_is : p.first.0 ≡ output_next n next
  pub upper_is : p.upper.0 ≡ get_or (upper_outs n next) (2 ^ n - 1) 0
  pub lower_is : p.lower.0 ≡ get_or (lower_outs n next) (2 ^ n - 1) 0

-- output wires as a list, of which so many rise
unfoldable pub outs_list : ℕ → LevelOuts → List ℕ
outs_list rising p = list_of rising (λ o. p.first.0 + o) ++ (p.upper.0 ∷ p.lower.0 ∷ [])

-- the output rows where `above` and `below` are the output wires of the halves
unfoldable pub join_rows : ℕ → LevelOuts → LevelOuts → List Row
join_rows half above below =
    rising_rows (half - 2) above.first.0 below.first.0 1 ++ (X (above.upper.0 % max_wires) (below.upper.0 % max_wires) ∷ [])

-- ---- what the writer requires

-- the wires fit: two a row
pub record InnerWires (n next : ℕ) : Type 0 where
  pub small : suc n ≤ max_level
  pub wires : output_next n next + 2 * (2 ^ n - 1) ≤ max_wires

-- and the rows fit a part of the table
pub record InnerRoom (n next entries : ℕ) : Type 0 where
  pub fit : InnerWires n next
  pub room : stride * inner_count n ≤ entries

-- so many wires and so many rows fit
pub record SmallRoom (wires rows next entries : ℕ) : Type 0 where
  pub made : next + wires ≤ max_wires
  pub room : stride * rows ≤ entries

-- the output rows fit a part of the table
pub record JoinRoom (half entries : ℕ) : Type 0 where
  pub some : 2 ≤ half
  pub small : half ≤ max_size
  pub room : stride * (half - 1) ≤ entries

-- P at level n + 1 on so many input wires fits the table and the list of output wires
pub record LevelRoom (n inputs next entries places : ℕ) : Type 0 where
  pub fit : InnerWires n next
  pub inputs_are : inputs ≡ 2 * 2 ^ n
  pub row_room : stride * (2 ^ n + inner_count n) ≤ entries
  pub wire_room : 2 * 2 ^ n ≤ places

-- output wires are wires of a fabric, and fit a list
pub record OutsRoom (rising : ℕ) (p : LevelOuts) (places : ℕ) : Type 0 where
  pub room : suc (suc rising) ≤ places
  pub rise : p.first.0 + rising ≤ max_wires
  pub upper_made : suc p.upper.0 ≤ max_wires
  pub lower_made : suc p.lower.0 ≤ max_wires

-- where the parts begin
pub record LevelPartsAt (n next : ℕ) (p : LevelParts) : Type 0 where
  pub half_is : p.half ≡ 2 ^ n
  pub inputs_are : p.inputs ≡ 2 ^ (n - 1)
  pub double : p.half ≡ 2 * p.inputs
  pub some : 1 ≤ p.inputs
  pub small : p.half ≤ max_size
  pub whole : permutation_count n ≡ p.inputs + inner_count (n - 1)
  pub upper_at : p.upper ≡ stride * p.inputs
  pub lower_at : p.lower ≡ stride * permutation_count n
  pub lower_inner_at : p.lower_inner ≡ stride * (permutation_count n + p.inputs)
  pub outputs_at : p.outputs ≡ stride * (2 * permutation_count n)
  pub few : p.outputs ≤ stride * max_wires
  pub upper_from : p.upper_next.0 ≡ upper_next n next
  pub lower_from : p.lower_next.0 ≡ lower_next n next
  pub output_from : p.output_next.0 ≡ output_next n next
  pub wires : output_next n next + 2 * (p.half - 1) ≤ max_wires
