-- What S(m, n) consists of: 2N log N - N + 1 rows, none of them a gate; two wires a row of P and one a row of the chain, one bit a row;
-- n output wires, each made, an input wire or wire 0; and each row's wires are made before it. By its parts: P, the chain, P.
use mathlib.Core.Path.{◌≡◌, refl, ap, ◌∙◌}
use mathlib.Core.List.{List, [], ◌∷◌}
use Prim.Native.Nat.{ℕ, zero, suc, ◌+◌, ◌-◌, ◌*◌, ◌^◌, ◌≤◌, ◌<◌, max}
use native.Mathlib.Nat.{max-le, max-eq_right, min-eq_left}
use native.Mathlib.Decide.{dec_lt}
use native.Mathlib.Omega.{arith}
use lib.ListN.{length, get_or, length-append, length-take, get_or-eq_default}
use lib.Pow.{pow_pos}
use lib.Seq.{get_or-take}
use Rattle.lists.specs.Lists.{list_of, Below}
use Rattle.lists.proofs.ListsLaws.{length-list_of, get_or-list_of, below-list_of, below_more}
use Rattle.powers.specs.Powers.{ceil_log, first_fit}
use Rattle.powers.proofs.PowersLaws.{ceil_log-fits, ceil_log-least, ceil_log-power}
use Rattle.block_elements.specs.Rows.{MadeBefore, Totals}
use Rattle.block_elements.proofs.RowsLaws.{made_before-append, totals-append}
use Rattle.block_elements.proofs.YRun.{y-list, y-made_before}
use Rattle.block_networks.specs.Permutation.{permutation_outs, permutation_rows}
use Rattle.block_networks.specs.Selection.{selection_level, padded, chain_wire, chain_rows, chain_outs, chain_next, second_next, first_outs, middle_outs}
use Rattle.block_networks.specs.Selection.{whole_rows, whole_outs, whole_count, whole_wires, selection_rows, selection_outs, selection_count, selection_wires}
use Rattle.block_networks.proofs.PermutationLaws.{permutation_count_lem, length-permutation_rows, permutation_totals, length-permutation_outs}
use Rattle.block_networks.proofs.PermutationLaws.{permutation_below, permutation_made_before}

-- ---- the level

pub selection-inputs-fit : (m n : ℕ) → m ≤ 2 ^ selection_level m n
unfolding selection_level
selection-inputs-fit m n = omega (arith, ceil_log-fits (max m n))

pub selection-outputs-fit : (m n : ℕ) → n ≤ 2 ^ selection_level m n
unfolding selection_level
selection-outputs-fit m n = omega (arith, ceil_log-fits (max m n))

pub level-least : (m n k : ℕ) → m ≤ 2 ^ k → n ≤ 2 ^ k → selection_level m n ≤ k
unfolding selection_level
level-least m n k hm hn = ceil_log-least (max m n) k (max-le hm hn)

-- a power of two that is not below the other number
pub level-power : (m k : ℕ) → m ≤ 2 ^ k → selection_level m (2 ^ k) ≡ k
unfolding selection_level
level-power m k h = ap ceil_log (max-eq_right h) ∙ ceil_log-power k

-- ---- the inputs

pub length-padded : (N : ℕ) (ins : List ℕ) → length (padded N ins) ≡ N
unfolding padded
length-padded N ins = length-list_of N _

pub get_or-padded : (N : ℕ) (ins : List ℕ) (i : ℕ) → i < N → get_or (padded N ins) i 0 ≡ get_or ins i 0
unfolding padded
get_or-padded N ins i l = get_or-list_of N _ i 0 l

pub below-padded : (N : ℕ) {ins : List ℕ} {next : ℕ} → 0 < next → Below next ins → Below next (padded N ins)
unfolding padded
below-padded N {ins} {next} z b = below-list_of next N _ (λ i l. go i (dec_lt i (length ins)))
  where
    go : (i : ℕ) → Dec (i < length ins) → get_or ins i 0 < next
    go i (yes m) = b.each i m
    go i (no m) = rw (get_or-eq_default ins 0 {n = i} (omega arith)) z

-- ---- the chain

pub length-chain_rows : (k : ℕ) (s : List ℕ) (next : ℕ) → length (chain_rows k s next) ≡ k
unfolding chain_rows
length-chain_rows k s next = length-list_of k _

pub chain-totals : (k : ℕ) (s : List ℕ) (next : ℕ) → Totals (chain_rows k s next) k k 0
unfolding chain_rows
chain-totals k s next = y-list k _ _

pub length-chain_outs : (N : ℕ) (s : List ℕ) (next : ℕ) → length (chain_outs N s next) ≡ N
unfolding chain_outs
length-chain_outs N s next = length-list_of N _

pub get_or-chain_outs : (N : ℕ) (s : List ℕ) (next i : ℕ) → i < N → get_or (chain_outs N s next) i 0 ≡ chain_wire s next i
unfolding chain_outs
get_or-chain_outs N s next i l = get_or-list_of N _ i 0 l

-- t(i) is made by the first i rows, or is s(0)
pub chain_wire_lt : (s : List ℕ) (next i : ℕ) → get_or s 0 0 < next → chain_wire s next i < next + i
unfolding chain_wire
chain_wire_lt s next zero h = omega arith
chain_wire_lt s next (suc i) h = omega arith

below_chain : (N : ℕ) (s : List ℕ) (next : ℕ) → 0 < N → get_or s 0 0 < next → Below (next + (N - 1)) (chain_outs N s next)
unfolding chain_outs
below_chain N s next z h = below-list_of _ N _ (λ i l. omega (arith, chain_wire_lt s next i h))

chain-made_before : (k : ℕ) (s : List ℕ) (next : ℕ) → ((i : ℕ) → i ≤ k → get_or s i 0 < next) → MadeBefore next (chain_rows k s next)
unfolding chain_rows
chain-made_before k s next h =
    y-made_before next k _ _ (λ i l. chain_wire_lt s next i (h 0 (omega arith))) (λ i l. omega (arith, h (suc i) l))

-- ---- the whole block of a level

-- 2N log N - N + 1
pub whole-count : (level : ℕ) → whole_count level + 2 ^ level ≡ 2 * (level * 2 ^ level) + 1
unfolding whole_count
whole-count level = omega (arith, permutation_count_lem level, pow_pos level)

-- 4N log N - 3N + 3 wires. A row makes as many as its kind counts in 003's size, X 2 and Y 1: this is that size for m = n = N
whole-made : (level : ℕ) → whole_wires level + 3 * 2 ^ level ≡ 4 * (level * 2 ^ level) + 3
unfolding whole_wires
whole-made level = omega (arith, permutation_count_lem level, pow_pos level)

-- the wires of its parts: what feeds each is made before it
pub record WholeWires (level : ℕ) (ins : List ℕ) (next : ℕ) : Type 0 where
  pub first-size : length (padded (2 ^ level) ins) ≡ 2 ^ level
  pub first-fed : Below next (padded (2 ^ level) ins)
  pub chain-fed : (i : ℕ) → i < 2 ^ level → get_or (first_outs level ins next) i 0 < chain_next level next
  pub second-size : length (middle_outs level ins next) ≡ 2 ^ level
  pub second-fed : Below (second_next level next) (middle_outs level ins next)

module _ (level : ℕ) (ins : List ℕ) (next : ℕ) where
  first-given : 0 < next → Below next ins → (i : ℕ) → i < 2 ^ level → get_or (first_outs level ins next) i 0 < chain_next level next
  first-given z b i l =
      let N = 2 ^ level in
      let size = length-permutation_outs level (padded N ins) next (length-padded N ins) in
      (permutation_below level (padded N ins) next (below-padded N z b)).each i (rw size l)

  pub whole-wires : 0 < next → Below next ins → WholeWires level ins next
  whole-wires z b = record {
    first-size = length-padded (2 ^ level) ins;
    first-fed = below-padded (2 ^ level) z b;
    chain-fed = first-given z b;
    second-size = length-chain_outs (2 ^ level) _ _;
    second-fed = below_chain (2 ^ level) _ _ (pow_pos level) (first-given z b 0 (pow_pos level));
  }

  pub length-whole_rows : length (whole_rows level ins next) ≡ whole_count level
  unfolding whole_rows whole_count
  length-whole_rows = simp (length-append, length-permutation_rows, length-chain_rows)

  pub whole-totals : Totals (whole_rows level ins next) (whole_wires level) (whole_count level) 0
  unfolding whole_rows whole_wires whole_count
  whole-totals = totals-append (permutation_totals level _ _)
      (totals-append (chain-totals (2 ^ level - 1) _ _) (permutation_totals level _ _))

  pub length-whole_outs : length (whole_outs level ins next) ≡ 2 ^ level
  unfolding whole_outs
  length-whole_outs = length-permutation_outs level _ _ (length-chain_outs (2 ^ level) _ _)

  pub whole_below : 0 < next → Below next ins → Below (next + whole_wires level) (whole_outs level ins next)
  unfolding whole_outs whole_wires
  whole_below z b = below_more _ (permutation_below level _ _ (whole-wires z b).second-fed) (omega arith)

  pub whole-made_before : 0 < next → Below next ins → MadeBefore next (whole_rows level ins next)
  unfolding whole_rows
  whole-made_before z b =
      let w = whole-wires z b in
      let p = pow_pos level in
      made_before-append (permutation_made_before level _ next w.first-size w.first-fed) (ap (λ k. next + k) (permutation_totals level _ _).wires)
      (made_before-append (chain-made_before (2 ^ level - 1) _ _ (λ i l. w.chain-fed i (omega arith)))
      (ap (λ k. chain_next level next + k) (chain-totals (2 ^ level - 1) _ _).wires)
      (permutation_made_before level _ _ w.second-size w.second-fed))

-- ---- S(m, n)

pub selection-count : (m n : ℕ) → let level : ℕ = selection_level m n in selection_count m n + 2 ^ level ≡ 2 * (level * 2 ^ level) + 1
unfolding selection_count
selection-count m n = whole-count (selection_level m n)

-- S's wires, which with X counted as 2 are 003's size
pub selection-made : (m n : ℕ) → let level : ℕ = selection_level m n in selection_wires m n + 3 * 2 ^ level ≡ 4 * (level * 2 ^ level) + 3
unfolding selection_wires
selection-made m n = whole-made (selection_level m n)

module _ (m n : ℕ) (ins : List ℕ) (next : ℕ) where
  pub length-selection_rows : length (selection_rows m n ins next) ≡ selection_count m n
  unfolding selection_rows selection_count
  length-selection_rows = length-whole_rows (selection_level m n) ins next

  -- 2N log N - N + 1 rows
  pub selection-rows : let level : ℕ = selection_level m n in length (selection_rows m n ins next) + 2 ^ level ≡ 2 * (level * 2 ^ level) + 1
  selection-rows = rw length-selection_rows (selection-count m n)

  -- its wires, its bits, no gates, all in the family
  pub selection-totals : Totals (selection_rows m n ins next) (selection_wires m n) (selection_count m n) 0
  unfolding selection_rows selection_wires selection_count
  selection-totals = whole-totals (selection_level m n) ins next

  pub length-selection_outs : length (selection_outs m n ins next) ≡ n
  unfolding selection_outs
  length-selection_outs =
      length-take n _ ∙ min-eq_left (rw (length-whole_outs (selection_level m n) ins next) (selection-outputs-fit m n))

  -- output o of S is the block's
  pub get_or-selection_outs : (o : ℕ) → o < n → get_or (selection_outs m n ins next) o 0 ≡ get_or (whole_outs (selection_level m n) ins next) o 0
  unfolding selection_outs
  get_or-selection_outs o l = get_or-take n _ o 0 l

  -- every output wire is made, an input wire or wire 0
  pub selection-below : 0 < next → Below next ins → Below (next + selection_wires m n) (selection_outs m n ins next)
  unfolding selection_wires
  selection-below z b =
      let level : ℕ = selection_level m n in
      record {
        each = λ i l.
            let k : i < n = rw length-selection_outs at l in
            rw (get_or-selection_outs i k) ((whole_below level ins next z b).each i (omega (arith, length-whole_outs level ins next, selection-outputs-fit m n)));
      }

  pub selection-made_before : 0 < next → Below next ins → MadeBefore next (selection_rows m n ins next)
  unfolding selection_rows
  selection-made_before z b = whole-made_before (selection_level m n) ins next z b

-- S(1, 1) is a wire
pub selection-wire : (w next : ℕ) → (selection_rows 1 1 (w ∷ []) next ≡ []) × (selection_outs 1 1 (w ∷ []) next ≡ w ∷ [])
unfolding selection_rows selection_outs whole_rows whole_outs selection_level ceil_log first_fit padded chain_rows chain_outs chain_wire list_of
    permutation_rows permutation_outs
selection-wire w next = (refl, refl)
