-- The mapping of P's outputs to its inputs as the programming holds it: a list of places counted from 0, with its inverse beside it.
use Rattle.std.specs.Prelude.{ℕ, ◌+◌, ◌-◌, ◌*◌, ◌/◌, ◌%◌, ◌≡◌, List, ◌++◌, length, get_or, take, drop}
use Rattle.lists.specs.Lists.{list_of}
use Rattle.block_elements.specs.Bits.{store_bits}
use Rattle.block_bits.specs.Stores.{low_bits}
use Rattle.block_networks.specs.Permutation.{Perm, walk, side, permutation_bits}
use Rattle.block_networks.specs.Wanted.{taker_of}

-- the input that output o takes; past the list nothing moves
unfoldable pub map_of : List ℕ → ℕ → ℕ
map_of l o = get_or l o o

-- the output that takes input x
unfoldable pub inverse_of : List ℕ → ℕ → ℕ
inverse_of l = taker_of (length l) (map_of l)

-- the list is a one-to-one mapping of its places
pub record IsPerm (l : List ℕ) : Type 0 where
  pub perm : Perm (length l) (map_of l) (inverse_of l)

-- the program bits of P(2 ^ n) for a list's mapping
unfoldable pub list_bits : ℕ → List ℕ → List ℕ
list_bits n l = permutation_bits n (map_of l) (inverse_of l)

-- q is the inverse of the mapping p, of pairs of places
pub record Paired (p q : List ℕ) : Type 0 where
  pub even : 2 * (length p / 2) ≡ length p
  pub size : length q ≡ length p
  pub perm : Perm (2 * (length p / 2)) (map_of p) (map_of q)

-- ---- one level of the programming

-- one step along a loop of the mapping p with the inverse q
abbrev pub walk_in : List ℕ → List ℕ → ℕ → ℕ
walk_in p q = walk (map_of p) (map_of q)

-- the half of an output
abbrev pub side_in : List ℕ → List ℕ → ℕ → ℕ
side_in p q = side (length p / 2) (map_of p) (map_of q)

-- the inverse as a list
abbrev pub inverse_list : List ℕ → List ℕ
inverse_list p = list_of (length p) (inverse_of p)

-- the half of pair i's first output; its second comes through the other half
abbrev pub pair_side : List ℕ → List ℕ → ℕ → ℕ
pair_side p q i = side_in p q (2 * i)

-- the list of the output pairs' halves
abbrev pub side_list : List ℕ → List ℕ → List ℕ
side_list p q = list_of (length p / 2) (pair_side p q)

-- the half of input pair j's first input: that of the output that takes it
abbrev pub input_side : List ℕ → List ℕ → ℕ → ℕ
input_side p q j = side_in p q (map_of q (2 * j))

-- the bits of the input rows
abbrev pub input_sides : List ℕ → List ℕ → List ℕ
input_sides p q = list_of (length p / 2) (input_side p q)

-- the halves of all rows' pairs: the output pairs', and behind them the input pairs'
abbrev pub row_sides : List ℕ → List ℕ → List ℕ
row_sides p q = side_list p q ++ input_sides p q

-- the bits of the output rows; the last pair has no row
abbrev pub output_sides : List ℕ → List ℕ
output_sides m = take (length m - 1) m

-- the program when a level's own rows are stored, from the halves w of all rows' pairs: the input rows' bits from bit `start` on, the output
-- rows' behind two halves of `part` rows
abbrev pub rows_stored : List ℕ → ℕ → ℕ → List ℕ → List ℕ
rows_stored before start part w =
    store_bits (store_bits before start (low_bits (drop (length w / 2) w))) (start + length w / 2 + part + part) (low_bits (take (length w / 2 - 1) w))

-- from the mapping p and the pairs' halves m: entry i of the mapping that is left to the half c
abbrev pub half_entry : ℕ → List ℕ → List ℕ → ℕ → ℕ
half_entry c p m i = get_or p (2 * i + (get_or m i 0 + c) % 2) 0 / 2

-- that mapping
abbrev pub half_list : ℕ → List ℕ → List ℕ → List ℕ
half_list c p m = list_of (length p / 2) (half_entry c p m)

-- the halves of a mapping's output pairs
abbrev pub sides_of : List ℕ → List ℕ
sides_of p = side_list p (inverse_list p)

-- what one level of the programming leaves: in the scratch the mappings of the two halves, in the program the bits of its own rows,
-- where a half has `part` rows
pub record Levelled (p scratch : List ℕ) (start part : ℕ) (before after : List ℕ) : Type 0 where
  pub halved : scratch ≡ half_list 0 p (sides_of p) ++ half_list 1 p (sides_of p)
  pub stored : after ≡ store_bits (store_bits before start (input_sides p (inverse_list p))) (start + length p / 2 + part + part) (output_sides (sides_of p))
