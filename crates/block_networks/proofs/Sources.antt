-- Which input reaches which output of P and of S, for any program bits.
use Prim.Native.Nat.{ℕ, zero, suc, ◌+◌, ◌-◌, ◌*◌, ◌/◌, ◌%◌, ◌^◌}
use mathlib.Core.List.{List, []}
use lib.ListN.{get_or, take, drop}
use Rattle.block_elements.specs.Rows.{choose}
use Rattle.block_networks.specs.Permutation.{partner, permutation_count}
use Rattle.block_networks.specs.Selection.{selection_level}

-- the place after X rows with these bits to which a place before them goes: the same one, or its partner where the X is crossed
unfoldable pub cross : List ℕ → ℕ → ℕ
cross bits x = choose (get_or bits (x / 2) 0) x (partner x)

-- f on the first places of the pairs and g on the second ones
unfoldable pub through : (ℕ → ℕ) → (ℕ → ℕ) → ℕ → ℕ
through f g x = 2 * choose (x % 2) (f (x / 2)) (g (x / 2)) + x % 2

-- the bits of the input X rows of P(2 * 2 ^ n)
abbrev pub input_bits : ℕ → List ℕ → List ℕ
input_bits n bits = take (2 ^ n) bits

-- the bits from the upper half's on
abbrev pub upper_bits : ℕ → List ℕ → List ℕ
upper_bits n bits = drop (2 ^ n) bits

-- the bits from the lower half's on
abbrev pub lower_bits : ℕ → List ℕ → List ℕ
lower_bits n bits = drop (permutation_count n) (upper_bits n bits)

-- the bits of the output X rows
abbrev pub output_bits : ℕ → List ℕ → List ℕ
output_bits n bits = take (2 ^ n - 1) (drop (permutation_count n) (lower_bits n bits))

-- the input that reaches output o
unfoldable pub source : ℕ → List ℕ → ℕ → ℕ
source zero bits o = o
source (suc n) bits o =
    cross (input_bits n bits) (through (source n (upper_bits n bits)) (source n (lower_bits n bits)) (cross (output_bits n bits) o))

-- the output that input x reaches
unfoldable pub target : ℕ → List ℕ → ℕ → ℕ
target zero bits x = x
target (suc n) bits x =
    cross (output_bits n bits) (through (target n (upper_bits n bits)) (target n (lower_bits n bits)) (cross (input_bits n bits) x))

-- the position whose value the chain has at position i
unfoldable pub chain_source : List ℕ → ℕ → ℕ
chain_source bits zero = 0
chain_source bits (suc i) = choose (get_or bits i 0) (chain_source bits i) (suc i)

-- the bits from the chain's on
abbrev pub chain_bits : ℕ → List ℕ → List ℕ
chain_bits level bits = drop (permutation_count level) bits

-- the bits from the second P's on
abbrev pub second_bits : ℕ → List ℕ → List ℕ
second_bits level bits = drop (2 ^ level - 1) (chain_bits level bits)

-- the input, of N, that reaches output o
unfoldable pub whole_source : ℕ → List ℕ → ℕ → ℕ
whole_source level bits o = source level bits (chain_source (chain_bits level bits) (source level (second_bits level bits) o))

-- the input, of N, that reaches output o of S(m, n)
unfoldable pub selection_source : ℕ → ℕ → List ℕ → ℕ → ℕ
selection_source m n bits o = whole_source (selection_level m n) bits o
