-- Document 01, "Blocks": the selection network S(m, n) and its programming after 003. S(m, n) is a block
-- of N inputs and N outputs, N = 2 ^ level, with the inputs past m on wire 0; its first n outputs are S's. What belongs to the block of all
-- N is named `whole..` and speaks of the level. Inputs, outputs and positions count from 0, so a head's position is the sum c(0) + .. + c(j - 1).
use Rattle.std.specs.Prelude.{ℕ, zero, suc, ◌+◌, ◌-◌, ◌*◌, ◌^◌, ◌≤◌, ◌<◌, max, ◌≡◌, Bool, cond, List, ◌++◌, eqb, ltb, length, get_or, take}
use Rattle.lists.specs.Lists.{list_of}
use Rattle.lists.specs.Counting.{one_if, count_of}
use Rattle.powers.specs.Powers.{ceil_log}
use Rattle.block_elements.specs.Rows.{Row, Y}
use Rattle.block_networks.specs.Permutation.{permutation_count, permutation_outs, permutation_rows, permutation_bits}
use Rattle.block_networks.specs.Wanted.{mapping, taker_of}
use Rattle.block_networks.specs.Completion.{is_taken, completed}

-- the level of S(m, n): N = 2 ^ level is the smallest power of two not below both
unfoldable pub selection_level : ℕ → ℕ → ℕ
selection_level m n = ceil_log (max m n)

-- ---- rows

-- the N input wires: an input past the list is wire 0
unfoldable pub padded : ℕ → List ℕ → List ℕ
padded N ins = list_of N (λ i. get_or ins i 0)

-- the wire t(i) of a chain over the wires s that makes its wires from `next` on: t(0) is s(0), any other a Y row's output
unfoldable pub chain_wire : List ℕ → ℕ → ℕ → ℕ
chain_wire s next zero = get_or s 0 0
chain_wire s next (suc i) = next + i

-- k rows of the chain: t(i + 1) = Y(t(i), s(i + 1))
unfoldable pub chain_rows : ℕ → List ℕ → ℕ → List Row
chain_rows k s next = list_of k (λ i. Y (chain_wire s next i) (get_or s (suc i) 0))

-- the first N of the chain's wires
unfoldable pub chain_outs : ℕ → List ℕ → ℕ → List ℕ
chain_outs N s next = list_of N (chain_wire s next)

-- the first wire that the chain makes: two wires a row of P
abbrev pub chain_next : ℕ → ℕ → ℕ
chain_next level next = next + 2 * permutation_count level

-- the first wire that the second P makes: one wire a row of the chain
abbrev pub second_next : ℕ → ℕ → ℕ
second_next level next = chain_next level next + (2 ^ level - 1)

-- s, the output wires of the first P
abbrev pub first_outs : ℕ → List ℕ → ℕ → List ℕ
first_outs level ins next = permutation_outs level (padded (2 ^ level) ins) next

-- t, the output wires of the chain
abbrev pub middle_outs : ℕ → List ℕ → ℕ → List ℕ
middle_outs level ins next = chain_outs (2 ^ level) (first_outs level ins next) (chain_next level next)

-- its rows: first P, chain, second P
unfoldable pub whole_rows : ℕ → List ℕ → ℕ → List Row
whole_rows level ins next =
    permutation_rows level (padded (2 ^ level) ins) next
    ++ (chain_rows (2 ^ level - 1) (first_outs level ins next) (chain_next level next)
    ++ permutation_rows level (middle_outs level ins next) (second_next level next))

-- its output wires
unfoldable pub whole_outs : ℕ → List ℕ → ℕ → List ℕ
whole_outs level ins next = permutation_outs level (middle_outs level ins next) (second_next level next)

-- how many rows and program bits it has
unfoldable pub whole_count : ℕ → ℕ
whole_count level = permutation_count level + (2 ^ level - 1 + permutation_count level)

-- how many wires it makes
unfoldable pub whole_wires : ℕ → ℕ
whole_wires level = 2 * permutation_count level + (2 ^ level - 1 + 2 * permutation_count level)

-- the rows of S(m, n) on the input wires `ins`, where `next` is the next unmade wire
unfoldable pub selection_rows : ℕ → ℕ → List ℕ → ℕ → List Row
selection_rows m n ins next = whole_rows (selection_level m n) ins next

-- its output wires
unfoldable pub selection_outs : ℕ → ℕ → List ℕ → ℕ → List ℕ
selection_outs m n ins next = take n (whole_outs (selection_level m n) ins next)

-- how many rows and program bits it has
unfoldable pub selection_count : ℕ → ℕ → ℕ
selection_count m n = whole_count (selection_level m n)

-- how many wires it makes
unfoldable pub selection_wires : ℕ → ℕ → ℕ
selection_wires m n = whole_wires (selection_level m n)

-- ---- programming

-- the list names for each of the n outputs one of the inputs 1 to m
pub record Selected (m n : ℕ) (wanted : List ℕ) : Type 0 where
  pub size : length wanted ≡ n
  pub low : (o : ℕ) → o < n → 1 ≤ get_or wanted o 0
  pub high : (o : ℕ) → o < n → get_or wanted o 0 ≤ m

-- how many of the first k outputs want input j; output o wants input want o
unfoldable pub wanting : (ℕ → ℕ) → ℕ → ℕ → ℕ
wanting want k j = count_of (λ o. eqb (want o) j) k

module _ (want : ℕ → ℕ) (n : ℕ) where
  -- document 01's c(j): how many of the n outputs want input j
  abbrev pub copies : ℕ → ℕ
  copies j = wanting want n j

  -- some output wants input j
  abbrev pub is_wanted : ℕ → Bool
  is_wanted j = ltb 0 (copies j)

  -- the head of a wanted input j: the position c(0) + .. + c(j - 1)
  unfoldable pub head_of : ℕ → ℕ
  head_of zero = 0
  head_of (suc j) = head_of j + copies j

  -- position p, of N, is a head
  abbrev pub is_head : ℕ → ℕ → Bool
  is_head N p = is_taken is_wanted head_of N p

  -- the position to which the first network takes input j: a wanted one to its head, the others to the other positions in rising order
  abbrev pub position_of : ℕ → ℕ → ℕ
  position_of N j = completed N is_wanted head_of j

  -- the position which the second network gives to output o: the head of the input it wants, plus the number of earlier outputs that
  -- want it. Outputs past n take their own
  unfoldable pub copy_of : ℕ → ℕ
  copy_of o = cond (ltb o n) (head_of (want o) + wanting want o (want o)) o

  -- the bits of the first P
  abbrev pub first_program : ℕ → List ℕ
  first_program level = permutation_bits level (taker_of (2 ^ level) (position_of (2 ^ level))) (position_of (2 ^ level))

  -- the chain's bits: Y at position i has bit 1 exactly if i is a head
  abbrev pub chain_program : ℕ → List ℕ
  chain_program level = list_of (2 ^ level - 1) (λ i. one_if (is_head (2 ^ level) (suc i)))

  -- the bits of the second P
  abbrev pub second_program : ℕ → List ℕ
  second_program level = permutation_bits level copy_of (taker_of (2 ^ level) copy_of)

  -- the bits of the block of all N positions
  unfoldable pub whole_program : ℕ → List ℕ
  whole_program level = first_program level ++ (chain_program level ++ second_program level)

-- the program bits of S(m, n) for the wanted inputs, in the rows' order
unfoldable pub selection_bits : ℕ → ℕ → List ℕ → List ℕ
selection_bits m n wanted = whole_program (mapping wanted) n (selection_level m n)
