-- Document 01, block library, checks 2 and 4: "2 if P's N is not a power of two from 1 to 512, or S's m not 1 to 512; 4 if n is not 1 to 512".
use Rattle.std.specs.Prelude.{ℕ, ◌^◌, ◌≤◌, Bool, ◌&&◌, leb, eqb, ◌≡◌}
use Rattle.fault.specs.declared.Fault.{Fault}
use Rattle.fault.specs.Checks.{unless, and_then}
use Rattle.powers.specs.Powers.{ceil_log, ceil_power}

-- the largest number of positions of a block
abbrev pub max_size : ℕ
max_size = 512

-- its logarithm
abbrev pub max_level : ℕ
max_level = 9

-- P may have N positions: a power of two from 1 to 512
unfoldable pub size_allowed : ℕ → Bool
size_allowed N = leb 1 N && (leb N max_size && eqb (ceil_power N) N)

-- the level n of P(N), N = 2 ^ n
abbrev pub level_of : ℕ → ℕ
level_of N = ceil_log N

-- a number of inputs or outputs of S
unfoldable pub selection_size_allowed : ℕ → Bool
selection_size_allowed n = leb 1 n && leb n max_size

-- the checks of S(m, n)'s sizes: 2, then 4
unfoldable pub selection_sizes_fault : ℕ → ℕ → ℕ
selection_sizes_fault m n = and_then (unless (selection_size_allowed m) Fault.Inputs) (unless (selection_size_allowed n) Fault.Outputs)

-- what holds of a size that is allowed
pub record SizeIs (N : ℕ) : Type 0 where
  pub power : 2 ^ level_of N ≡ N
  pub level : level_of N ≤ max_level
  pub some : 1 ≤ N
  pub most : N ≤ max_size

-- what holds of the sizes of S(m, n) where they are allowed
pub record SelectionSizes (m n : ℕ) : Type 0 where
  pub some_inputs : 1 ≤ m
  pub inputs : m ≤ max_size
  pub some_outputs : 1 ≤ n
  pub outputs : n ≤ max_size
