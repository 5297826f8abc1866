-- Document 01, block library, programming: "Checks: 2 if P's N is not a power of two from 1 to 512, or S's m not 1 to 512; 4 if n is not 1 to
-- 512; 12 if the list has another length; 9 if a wanted input is not in 1 to m (or N) or, in P, comes twice; 11."
use Rattle.std.specs.Prelude.{ℕ, zero, suc, ◌+◌, ◌≤◌, ◌<◌, ◌≡◌, Bool, true, false, ◌&&◌, not, List, leb, eqb, length, get_or}
use Rattle.fault.specs.declared.Fault.{Fault}
use Rattle.fault.specs.Checks.{unless, and_then, first_of, list_fault}
use Rattle.block_elements.specs.Bits.{bits_held}
use Rattle.block_networks.specs.Permutation.{permutation_count}
use Rattle.block_networks.specs.Selection.{selection_count, Selected}
use Rattle.block_sizes.specs.Sizes.{size_allowed, level_of, selection_sizes_fault, SelectionSizes}
use Rattle.block_program_checks.specs.Bits.{bits_fault, bits_at_fault}

-- ---- check 9

-- 9 unless each of the first k wanted inputs passes a test
abbrev pub first_source : (ℕ → Bool) → ℕ → ℕ
first_source allowed k = first_of (λ o. unless (allowed o) Fault.Source) k

-- the input that output o wants is in 1 to m
abbrev pub selected_allowed : ℕ → List ℕ → ℕ → Bool
selected_allowed m wanted o = leb 1 (get_or wanted o 0) && leb (get_or wanted o 0) m

-- 9: a wanted input is not in 1 to m
unfoldable pub selected_fault : ℕ → List ℕ → ℕ
selected_fault m wanted = first_source (selected_allowed m wanted) (length wanted)

-- none of the first k wanted inputs is x
unfoldable pub not_among : List ℕ → ℕ → ℕ → Bool
not_among wanted x zero = true
not_among wanted x (suc k) = not (eqb (get_or wanted k 0) x) && not_among wanted x k

-- the input that output o wants is wanted by no output before it
abbrev pub is_new : List ℕ → ℕ → Bool
is_new wanted o = not_among wanted (get_or wanted o 0) o

-- 9: a wanted input comes twice
unfoldable pub twice_fault : List ℕ → ℕ
twice_fault wanted = first_source (is_new wanted) (length wanted)

-- the marks of the inputs that the first i outputs want: input x has its mark at place x - 1
pub record Marked (wanted : List ℕ) (i : ℕ) (mark : List Bool) : Type 0 where
  pub each : (y : ℕ) → y < length mark → get_or mark y false ≡ not (not_among wanted (suc y) i)

-- ---- P(N)

-- 9: a wanted input is not in 1 to N, or comes twice
unfoldable pub source_fault : ℕ → List ℕ → ℕ
source_fault N wanted = and_then (selected_fault N wanted) (twice_fault wanted)

-- 2, then 12, then 9
unfoldable pub wanted_fault : ℕ → List ℕ → ℕ
wanted_fault N wanted = and_then (unless (size_allowed N) Fault.Inputs) (and_then (list_fault N wanted) (source_fault N wanted))

-- the checks of a call that is lent a program of `room` bytes: these, then 11
abbrev pub program_fault : ℕ → List ℕ → ℕ → ℕ
program_fault N wanted room = and_then (wanted_fault N wanted) (bits_fault (permutation_count (level_of N)) room)

-- the checks of a call that stores the bits from bit `start` on
abbrev pub program_at_fault : ℕ → List ℕ → ℕ → ℕ → ℕ
program_at_fault N wanted start room = and_then (wanted_fault N wanted) (bits_at_fault (permutation_count (level_of N)) start room)

-- ---- S(m, n)

-- 2, 4, 12, 9
unfoldable pub selection_wanted_fault : ℕ → ℕ → List ℕ → ℕ
selection_wanted_fault m n wanted = and_then (selection_sizes_fault m n) (and_then (list_fault n wanted) (selected_fault m wanted))

-- the checks of a call that is lent a program of `room` bytes: these, then 11
abbrev pub selection_program_fault : ℕ → ℕ → List ℕ → ℕ → ℕ
selection_program_fault m n wanted room = and_then (selection_wanted_fault m n wanted) (bits_fault (selection_count m n) room)

-- the checks of a call that stores the bits from bit `start` on
abbrev pub selection_program_at_fault : ℕ → ℕ → List ℕ → ℕ → ℕ → ℕ
selection_program_at_fault m n wanted start room = and_then (selection_wanted_fault m n wanted) (bits_at_fault (selection_count m n) start room)

-- what is known where all checks pass
pub record SelectionPasses (m n : ℕ) (wanted : List ℕ) (start room : ℕ) : Type 0 where
  pub sizes : SelectionSizes m n
  pub selected : Selected m n wanted
  pub fits : start + selection_count m n ≤ bits_held room
