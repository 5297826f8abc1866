-- Document 01, "Blocks": the permutation network P(N), N = 2 ^ n and its programming.
-- Places count from 0: pair i is the places 2i and 2i + 1. All recurse on the level n, and h is half of N.
use Rattle.std.specs.Prelude.{ℕ, zero, suc, ◌+◌, ◌-◌, ◌*◌, ◌/◌, ◌%◌, ◌^◌, ◌≤◌, min, ◌≡◌, cond, List, [], ◌∷◌, ◌++◌, eqb, get_or}
use Rattle.lists.specs.Lists.{list_of}
use Rattle.block_elements.specs.Rows.{Row, X}

-- ---- rows

-- the rows of P(2 ^ n): input X rows, upper, lower, output X rows
unfoldable pub permutation_count : ℕ → ℕ
permutation_count zero = 0
permutation_count (suc n) = 2 ^ n + (permutation_count n + (permutation_count n + (2 ^ n - 1)))

-- h X rows on the input pairs
unfoldable pub input_rows : ℕ → List ℕ → List Row
input_rows h ins = list_of h (λ i. X (get_or ins (2 * i) 0) (get_or ins (2 * i + 1) 0))

-- k X rows: upper's and lower's output i give the outputs of pair i
unfoldable pub output_rows : ℕ → List ℕ → List ℕ → List Row
output_rows k upper lower = list_of k (λ i. X (get_or upper i 0) (get_or lower i 0))

-- the first outputs of h X rows that make their wires from `next` on: they feed the upper half
unfoldable pub firsts : ℕ → ℕ → List ℕ
firsts h next = list_of h (λ i. next + 2 * i)

-- their second outputs: they feed the lower half
unfoldable pub seconds : ℕ → ℕ → List ℕ
seconds h next = list_of h (λ i. next + 2 * i + 1)

-- the first wire that the upper half makes: two wires a row
abbrev pub upper_next : ℕ → ℕ → ℕ
upper_next n next = next + 2 * 2 ^ n

-- the first wire that the lower half makes
abbrev pub lower_next : ℕ → ℕ → ℕ
lower_next n next = upper_next n next + 2 * permutation_count n

-- the first wire that the output X rows make
abbrev pub output_next : ℕ → ℕ → ℕ
output_next n next = lower_next n next + 2 * permutation_count n

-- the output wires of P(2 ^ n) on the input wires `ins`, where `next` is the next unmade wire. P(1) is a wire. The last output pair
-- has no X and is straight
unfoldable pub permutation_outs : ℕ → List ℕ → ℕ → List ℕ
permutation_outs zero ins next = ins
permutation_outs (suc n) ins next =
    let h : ℕ = 2 ^ n in
    let upper : List ℕ = permutation_outs n (firsts h next) (upper_next n next) in
    let lower : List ℕ = permutation_outs n (seconds h next) (lower_next n next) in
    list_of (2 * (h - 1)) (λ o. output_next n next + o) ++ (get_or upper (h - 1) 0 ∷ get_or lower (h - 1) 0 ∷ [])

-- the output wires of the upper half of P(2 * 2 ^ n)
abbrev pub upper_outs : ℕ → ℕ → List ℕ
upper_outs n next = permutation_outs n (firsts (2 ^ n) next) (upper_next n next)

-- those of its lower half
abbrev pub lower_outs : ℕ → ℕ → List ℕ
lower_outs n next = permutation_outs n (seconds (2 ^ n) next) (lower_next n next)

-- the rows of P(2 ^ n)
unfoldable pub permutation_rows : ℕ → List ℕ → ℕ → List Row
permutation_rows zero ins next = []
permutation_rows (suc n) ins next =
    input_rows (2 ^ n) ins
    ++ (permutation_rows n (firsts (2 ^ n) next) (upper_next n next)
    ++ (permutation_rows n (seconds (2 ^ n) next) (lower_next n next)
    ++ output_rows (2 ^ n - 1) (upper_outs n next) (lower_outs n next)))

-- ---- programming

-- a mapping of N outputs to N inputs, one to one: output o takes input π o, input x goes to output ρ x. Past N nothing moves
pub record Perm (N : ℕ) (π ρ : ℕ → ℕ) : Type 0 where
  pub to : (o : ℕ) → ρ (π o) ≡ o
  pub fro : (x : ℕ) → π (ρ x) ≡ x
  pub past : (o : ℕ) → N ≤ o → π o ≡ o

-- the other place of a pair
unfoldable pub partner : ℕ → ℕ
partner x = x + 1 - 2 * (x % 2)

-- f applied k times
unfoldable pub iterate : (ℕ → ℕ) → ℕ → ℕ → ℕ
iterate f zero x = x
iterate f (suc k) x = f (iterate f k x)

-- one step along a loop: from output o to its input, to that input's partner, to the output that takes it, to that output's partner.
-- Partners take different halves, at the inputs as at the outputs, so o and the output that the step comes to take the same
unfoldable pub walk : (ℕ → ℕ) → (ℕ → ℕ) → ℕ → ℕ
walk π ρ o = partner (ρ (partner (π o)))

-- an output's rank among the outputs of h pairs: those of the last pair come first, then the others as they stand
unfoldable pub key : ℕ → ℕ → ℕ
key h o = cond (eqb (suc (o / 2)) h) (o % 2) (o + 2)

-- the least of κ x, κ (f x), .., κ of f applied k times
unfoldable pub least : (ℕ → ℕ) → (ℕ → ℕ) → ℕ → ℕ → ℕ
least f κ zero x = κ x
least f κ (suc k) x = min (least f κ k x) (κ (iterate f (suc k) x))

-- the least rank on the walk from output o; 2h steps see all of it
unfoldable pub lowest : ℕ → (ℕ → ℕ) → (ℕ → ℕ) → ℕ → ℕ
lowest h π ρ o = least (walk π ρ) (key h) (2 * h) o

-- the half through which output o comes, 0 upper and 1 lower: in each loop the pair of the least rank is straight. That is the last
-- pair in its loop, and in each other loop the lowest. A loop has two walks, and each has one output of each of its pairs
unfoldable pub side : ℕ → (ℕ → ℕ) → (ℕ → ℕ) → ℕ → ℕ
side h π ρ o = lowest h π ρ o % 2

-- of pair i the place that goes through the half c, where s tells a place's half
unfoldable pub pick : (ℕ → ℕ) → ℕ → ℕ → ℕ
pick s c i = 2 * i + (s (2 * i) + c) % 2

-- the mapping that is left to the half c: its output i takes the input of pick s c i, which enters the half at its pair's number
unfoldable pub in_half : (ℕ → ℕ) → (ℕ → ℕ) → ℕ → ℕ → ℕ
in_half π s c i = π (pick s c i) / 2

-- the program bits of P(2 ^ n) for the mapping π with the inverse ρ, in the rows' order. An X of an input pair is crossed if its first
-- input goes to the lower half, one of an output pair if its first output comes from there
unfoldable pub permutation_bits : ℕ → (ℕ → ℕ) → (ℕ → ℕ) → List ℕ
permutation_bits zero π ρ = []
permutation_bits (suc n) π ρ =
    let h : ℕ = 2 ^ n in
    let s : ℕ → ℕ = side h π ρ in
    let t : ℕ → ℕ = λ x. s (ρ x) in
    list_of h (λ j. t (2 * j))
    ++ (permutation_bits n (in_half π s 0) (in_half ρ t 0)
    ++ (permutation_bits n (in_half π s 1) (in_half ρ t 1)
    ++ list_of (h - 1) (λ i. s (2 * i))))
