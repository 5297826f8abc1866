-- A size that is allowed is two to the power of its level, which is at most 9, and so is the level of S(m, n). The counts are small then.
use mathlib.Core.Path.{◌≡◌, refl, sym, ap, ◌∙◌}
use mathlib.Core.Logic.{◌↔◌}
use mathlib.Core.Bool.{true, ◌&&◌, and-eq-true_iff}
use Prim.Native.Nat.{ℕ, zero, suc, ◌+◌, ◌*◌, ◌/◌, ◌%◌, ◌^◌, ◌<◌, ◌≤◌}
use native.Mathlib.Nat.{mul-le-mul, mul_comm, pow-suc}
use native.Mathlib.Omega.{arith}
use native.Mathlib.Decide.{ℕ_discrete, dec_le}
use borrow.Author.Tests.{leb-true, eqb-true, le-leb, lt-leb, eq-eqb, ne_eqb}
use lib.Count.{ones_step}
use lib.Dec.{leb, eqb}
use lib.Pow.{pow_mono, pow_pos}
use Rattle.std.specs.Int.RustNames.{count_ones}
use Rattle.std.proofs.lemmas.Nat.{zero_from_ones, ones_le_self}
use Rattle.fault.proofs.ChecksLaws.{unless-zero, and_then-zero}
use Rattle.powers.specs.Powers.{ceil_log, ceil_power}
use Rattle.powers.proofs.PowersLaws.{ceil_log-least, ceil_log-power, below_power}
use Rattle.block_networks.specs.Permutation.{permutation_count}
use Rattle.block_networks.proofs.PermutationLaws.{permutation_count_lem}
use Rattle.block_networks.specs.Selection.{selection_level, whole_count, whole_wires, selection_count, selection_wires}
use Rattle.block_networks.proofs.SelectionLaws.{level-least}
use Rattle.block_sizes.specs.Sizes.{max_size, max_level, size_allowed, level_of, selection_size_allowed, selection_sizes_fault, SizeIs, SelectionSizes}

pub size_is : (N : ℕ) → size_allowed N ≡ true → SizeIs N
unfolding size_allowed ceil_power
size_is N e =
    let (low, rest) = (and-eq-true_iff (leb 1 N) (leb N max_size && eqb (ceil_power N) N)).0 e in
    let (high, same) = (and-eq-true_iff (leb N max_size) (eqb (ceil_power N) N)).0 rest in
    let most = leb-true N max_size high in
    record { power = eqb-true (2 ^ ceil_log N) N same; level = ceil_log-least N max_level most; some = leb-true 1 N low; most = most }

-- every power of two up to 512 is allowed
pub power-allowed : (n : ℕ) → n ≤ max_level → size_allowed (2 ^ n) ≡ true
unfolding size_allowed ceil_power
power-allowed n h =
    rw (le-leb 1 (2 ^ n) (omega (arith, below_power n)), le-leb (2 ^ n) max_size (pow_mono h), ceil_log-power n)
    (eq-eqb (2 ^ n) (2 ^ n) refl)

pub power_small : (n : ℕ) → n ≤ max_level → 2 ^ n ≤ max_size
power_small n h = pow_mono h

-- ---- one bit of a number is set exactly if the number is a power of two, which is what `ceil_power` leaves as it is

ones_of_power : (k : ℕ) → count_ones (2 ^ k) ≡ 1
ones_of_power zero = let s = ones_step 1 in omega (arith, ones_le_self 0)
ones_of_power (suc k) =
    let half : 2 ^ suc k / 2 ≡ 2 ^ k = omega (arith, pow-suc 2 k) in
    omega (arith, ones_step (2 ^ suc k), pow-suc 2 k, ones_of_power k, ap count_ones half)

power_of_ones : (d n : ℕ) → n ≤ d → count_ones n ≡ 1 → (k : ℕ) × (n ≡ 2 ^ k)
power_of_ones zero n h e = absurd (omega (arith, ones_le_self n))
power_of_ones (suc d) n h e =
    let s = ones_step n in
    let some = ones_le_self n in
    elim (ℕ_discrete (n % 2) 0) [
      | yes even ↦
          let w = power_of_ones d (n / 2) (omega arith) (omega arith) in
          (suc w.0, omega (arith, pow-suc 2 w.0, w.1))
      | no odd ↦ let z = zero_from_ones (n / 2) (omega arith) in (0, omega arith)
    ]

pub power_test : (n : ℕ) → eqb (count_ones n) 1 ≡ (leb 1 n && eqb (ceil_power n) n)
unfolding ceil_power
power_test n = elim (ℕ_discrete (count_ones n) 1) [
  | yes e ↦
      let w = power_of_ones n n (omega arith) e in
      let same : 2 ^ ceil_log n ≡ n = rw w.1 (rw (ceil_log-power w.0)) in
      rw (eq-eqb (count_ones n) 1 e, le-leb 1 n (omega (arith, ones_le_self n)), eq-eqb (2 ^ ceil_log n) n same)
  | no d ↦
      rw (ne_eqb (count_ones n) 1 d)
      (elim (dec_le 1 n) [
        | yes y ↦ rw (le-leb 1 n y, ne_eqb (2 ^ ceil_log n) n (λ e. d (ap count_ones (sym e) ∙ ones_of_power (ceil_log n))))
        | no z ↦ rw (lt-leb 1 n (omega arith))
      ])
]

-- ---- the sizes of S

pub selection-sizes-allowed : (m n : ℕ) → (selection_sizes_fault m n ≡ 0) ↔ SelectionSizes m n
unfolding selection_sizes_fault selection_size_allowed
selection-sizes-allowed m n = (
  λ e.
      let h = simp (and_then-zero, unless-zero, and-eq-true_iff) at e in
      record {
        some_inputs = leb-true 1 m h.0.0;
        inputs = leb-true m max_size h.0.1;
        some_outputs = leb-true 1 n h.1.0;
        outputs = leb-true n max_size h.1.1;
      },
  λ s. rw (le-leb 1 m s.some_inputs, le-leb m max_size s.inputs, le-leb 1 n s.some_outputs, le-leb n max_size s.outputs),
)

pub selection-level-small : {m n : ℕ} → SelectionSizes m n → selection_level m n ≤ max_level
selection-level-small {m} {n} s = level-least m n max_level s.inputs s.outputs

-- ---- counts

-- n log n - n + 1 for n = 2 ^ level
pub row_count : (level : ℕ) → permutation_count level + 2 ^ level ≡ 2 ^ level * level + 1
row_count level = permutation_count_lem level ∙ ap (λ k. k + 1) (mul_comm level (2 ^ level))

pub positions_fit : (level : ℕ) → 2 ^ level ≤ 2 ^ level * level + 1
positions_fit level = omega (arith, row_count level)

-- the rows of P at a level are no more than its positions times the level
pub count_most : (level top : ℕ) → level ≤ top → permutation_count level ≤ top * 2 ^ top
count_most level top h =
    let p = pow_pos level in
    let most : level * 2 ^ level ≤ top * 2 ^ top = mul-le-mul h (pow_mono h) in
    omega (arith, permutation_count_lem level)

pub few-rows : (level : ℕ) → level ≤ max_level → permutation_count level ≤ max_level * max_size
few-rows level h = count_most level max_level h

-- a number of rows
pub record CountIs (level count : ℕ) : Type 0 where
  pub count-is : count ≡ permutation_count level
  pub most-rows : count ≤ max_level * max_size

-- `permutation_count` counts the rows of P(n), n = 2 ^ level
pub count_at : {n level count : ℕ} → n ≡ 2 ^ level → level ≤ max_level → count ≡ permutation_count (level_of n) → CountIs level count
count_at {n} {level} {count} e few c =
    let same : count ≡ permutation_count level = c ∙ ap permutation_count (ap level_of e ∙ ceil_log-power level) in
    record { count-is = same; most-rows = rw same (few-rows level few) }

pub few-wires : (m n : ℕ) → SelectionSizes m n → selection_wires m n ≤ 4 * (max_level * max_size) + max_size
unfolding selection_wires whole_wires
few-wires m n s =
    let level : ℕ = selection_level m n in
    omega (arith, few-rows level (selection-level-small s), power_small level (selection-level-small s))

-- a row makes a wire or two
pub rows_make : (m n : ℕ) → selection_count m n ≤ selection_wires m n
unfolding selection_count selection_wires whole_count whole_wires
rows_make m n = omega arith

-- ---- numbers of 32 bits: nothing that is counted is lost

pub log_small : (n : ℕ) → n < 2 ^ 32 → ceil_log n ≤ 32
log_small n h = ceil_log-least n 32 (omega arith)

pub product_small : (n : ℕ) → n < 2 ^ 32 → 2 ^ ceil_log n * ceil_log n ≤ 2 ^ 32 * 32
product_small n h = mul-le-mul (pow_mono (log_small n h)) (log_small n h)

pub rows_small : (n : ℕ) → n < 2 ^ 32 → permutation_count (level_of n) ≤ 32 * 2 ^ 32
rows_small n h = count_most (level_of n) 32 (log_small n h)

pub positions_small : (m n : ℕ) → m < 2 ^ 32 → n < 2 ^ 32 → 2 ^ selection_level m n ≤ 2 ^ 32
unfolding selection_level
positions_small m n lm ln = pow_mono (level-least m n 32 (omega arith) (omega arith))

-- ---- allowed sizes: what is counted is small

pub most_of_allowed : (N : ℕ) → size_allowed N ≡ true → N ≤ max_size
most_of_allowed N e = (size_is N e).most

pub rows_of_allowed : (N : ℕ) → size_allowed N ≡ true → permutation_count (level_of N) ≤ max_level * max_size
rows_of_allowed N e = few-rows (level_of N) (size_is N e).level

pub wires_of_allowed : (m n : ℕ) → selection_sizes_fault m n ≡ 0 → selection_wires m n ≤ 4 * (max_level * max_size) + max_size
wires_of_allowed m n e = few-wires m n ((selection-sizes-allowed m n).0 e)
