-- What the programming's inner calls find and leave in their arrays. Inputs, outputs and positions count from 0; the wanted inputs of a list
-- count from 1, so that 0 marks a place where none stands yet.
use Rattle.std.specs.Prelude.{ℕ, zero, suc, ◌+◌, ◌-◌, ◌≤◌, ◌<◌, ◌≡◌, ◌≢◌, Bool, cond, ◌&&◌, List, eqb, ltb, length, get_or, set}
use Rattle.lists.specs.Lists.{list_of}
use Rattle.lists.specs.Counting.{one_if}
use Rattle.block_elements.specs.Bits.{bits_held}
use Rattle.block_networks.specs.Permutation.{permutation_count, Perm}
use Rattle.block_networks.specs.Wanted.{Wanted, mapping, taker_of, wanted_bits}
use Rattle.block_networks.specs.Completion.{completed, RisingCompletion}
use Rattle.block_networks.specs.Selection.{Selected, wanting, head_of}
use Rattle.block_sizes.specs.Sizes.{max_size, level_of, SizeIs}

-- the wanted inputs of a block of N positions
pub record Demand (N : ℕ) (wanted : List ℕ) : Type 0 where
  pub inputs : Selected N (length wanted) wanted
  pub few : length wanted ≤ N
  pub most : N ≤ max_size

-- place i of the array holds f i, which is 0 past the end
pub record PlacesHold (f : ℕ → ℕ) (array : List ℕ) : Type 0 where
  pub each : (i : ℕ) → get_or array i 0 ≡ f i

-- none of its places is used yet
abbrev pub Blank : List ℕ → Type 0
Blank array = PlacesHold (λ i. 0) array

-- ---- positions, by counts: `counts` tells for each input how many outputs want it

-- some output wants input j
abbrev pub is_counted : List ℕ → ℕ → Bool
is_counted counts j = ltb 0 (get_or counts j 0)

-- the head of input j
unfoldable pub head_by : List ℕ → ℕ → ℕ
head_by counts zero = 0
head_by counts (suc j) = head_by counts j + get_or counts j 0

-- the heads are among N positions, or behind the last
pub record HeadsFit (N : ℕ) (counts : List ℕ) : Type 0 where
  pub each : (j : ℕ) → head_by counts j ≤ N

-- which of the first k inputs has its head at p, counted from 1; 0 where none has
unfoldable pub head_input : List ℕ → ℕ → ℕ → ℕ
head_input counts zero p = 0
head_input counts (suc k) p = cond (is_counted counts k && eqb (head_by counts k) p) (suc k) (head_input counts k p)

-- the position of input j
abbrev pub position_by : List ℕ → ℕ → ℕ → ℕ
position_by counts N j = completed N (is_counted counts) (head_by counts) j

-- the positions are one to one, and follow the rule
pub record Positioned (N : ℕ) (counts : List ℕ) : Type 0 where
  pub once : Perm N (taker_of N (position_by counts N)) (position_by counts N)
  pub rule : RisingCompletion N (is_counted counts) (head_by counts) (position_by counts N)

-- some input from `from` on is idle
pub record IdleFrom (counts : List ℕ) (from : ℕ) : Type 0 where
  pub input : ℕ
  pub behind : from ≤ input
  pub within : input < length counts
  pub idle : get_or counts input 0 ≡ 0

-- x is the first idle input from `from` on
pub record NextIdle (counts : List ℕ) (from x : ℕ) : Type 0 where
  pub behind : from ≤ x
  pub within : x < length counts
  pub idle : get_or counts x 0 ≡ 0
  pub first : (y : ℕ) → from ≤ y → y < x → get_or counts y 0 ≢ 0

-- place p after one step: a head keeps its input, and another place gets the next idle input from `from` on; `next` is where the idle
-- inputs go on
pub record PlacedNext (counts : List ℕ) (p from : ℕ) (old new : List ℕ) (next : ℕ) : Type 0 where
  pub head : get_or old p 0 ≢ 0 → (new ≡ old) × (next ≡ from)
  pub free : get_or old p 0 ≡ 0 → (new ≡ set old p next) × (1 ≤ next) × NextIdle counts from (next - 1)

-- ---- a network and the chain

-- the wanted inputs of a P whose program has room from bit `start` on
pub record NetworkRoom (list : List ℕ) (start room : ℕ) : Type 0 where
  pub size : SizeIs (length list)
  pub names : Wanted (length list) list
  pub fits : start + permutation_count (level_of (length list)) ≤ bits_held room

-- the bits of P for the list
abbrev pub network_bits : List ℕ → List ℕ
network_bits list = wanted_bits (level_of (length list)) list

-- the bit of the Y at position i + 1: the input there is a wanted one
abbrev pub chain_bit_by : List ℕ → List ℕ → ℕ → ℕ
chain_bit_by counts list i = one_if (is_counted counts (get_or list (i + 1) 0 - 1))

-- the bits of the chain
abbrev pub chain_bits_by : List ℕ → List ℕ → List ℕ
chain_bits_by counts list = list_of (length list - 1) (chain_bit_by counts list)

-- ---- copies

-- after the first o outputs, the position of the next copy of an input stands at the input's place; here of the input that output x wants
pub record NextCopies (wanted : List ℕ) (o : ℕ) (heads : List ℕ) : Type 0 where
  pub each : o ≤ length wanted → (x : ℕ) → x < length wanted → let j : ℕ = mapping wanted x in
      get_or heads j 0 ≡ head_of (mapping wanted) (length wanted) j + wanting (mapping wanted) o j
