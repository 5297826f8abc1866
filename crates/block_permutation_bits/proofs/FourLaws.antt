-- P(4)'s five bits as one word for each mapping: a test of the word of every list of four places, which the checker computes, is the rule at each
-- permutation.
use mathlib.Core.Path.{◌≡◌, refl, sym, ap, ◌∙◌}
use mathlib.Core.Bool.{Bool, true, cond}
use mathlib.Core.List.{List, [], ◌∷◌}
use Prim.Native.Nat.{ℕ, ◌+◌, ◌*◌, ◌/◌, ◌%◌, ◌<◌}
use native.Mathlib.Omega.{arith}
use borrow.Author.Tests.{eq-eqb, eqb-true}
use lib.Dec.{eqb}
use lib.ListN.{length, get_or}
use lib.Pow.{low, high}
use Rattle.lists.specs.Lists.{list_of}
use Rattle.lists.specs.Counting.{count_of}
use Rattle.lists.proofs.ListsLaws.{list_of_ext, list_of-get_or}
use Rattle.lists.proofs.CountingLaws.{each-passes, all_pass}
use Rattle.block_elements.specs.Bits.{bit_of}
use Rattle.block_bits.specs.Stores.{field_bits}
use Rattle.block_networks.specs.Permutation.{permutation_count, partner, iterate, walk, key, least, lowest, side, pick, in_half, permutation_bits}
use Rattle.block_networks.specs.Wanted.{taker_of}
use Rattle.powers.proofs.PowersLaws.{ceil_log-power}
use Rattle.block_sizes.specs.Sizes.{level_of}
use Rattle.block_loops.specs.Mappings.{map_of, inverse_of, IsPerm, list_bits}
use Rattle.block_loops.proofs.MappingsLaws.{entry_lt, length-list_bits}
use Rattle.block_permutation_bits.specs.ProgramCalls.{mapping_bits}
use Rattle.block_permutation_bits.specs.Four.{sides_word, four_word}

-- its word
abbrev word_of : List ℕ → ℕ
word_of p = four_word (get_or p 0 0) (get_or p 1 0) (get_or p 2 0)

-- output o's input goes back to o
returns : List ℕ → ℕ → Bool
returns p o = eqb (inverse_of p (map_of p o)) o

-- bit i of the word is that of the mapping
holds : List ℕ → ℕ → Bool
holds p i = eqb (bit_of i (word_of p)) (get_or (list_bits 2 p) i 0)

-- where the list is a permutation, its word has its bits
right : List ℕ → Bool
right p = cond (eqb (count_of (returns p) 4) 4) (eqb (count_of (holds p) 5) 5) true

-- the list of four places with this number
places : ℕ → List ℕ
places k = k % 4 ∷ k / 4 % 4 ∷ k / 4 / 4 % 4 ∷ k / 4 / 4 / 4 ∷ []

all_right : count_of (λ k. right (places k)) 256 ≡ 256
unfolding right returns holds places sides_word four_word count_of list_bits permutation_bits map_of inverse_of taker_of list_of side lowest least key walk partner iterate pick in_half
all_right = refl

number : {a b c d : ℕ} → a < 4 → b < 4 → c < 4 → places (((d * 4 + c) * 4 + b) * 4 + a) ≡ a ∷ b ∷ c ∷ d ∷ []
unfolding places
number {a} {b} {c} {d} la lb lc =
    rw (low ((d * 4 + c) * 4 + b) 2 la, high ((d * 4 + c) * 4 + b) 2 la, low (d * 4 + c) 2 lb, high (d * 4 + c) 2 lb, low d 2 lc, high d 2 lc) refl

module _ {p : List ℕ} (ok : IsPerm p) (size : length p ≡ 4) where
  entry : (i : ℕ) → i < 4 → get_or p i 0 < 4
  entry i l = rw size at (entry_lt ok i (rw size l))

  is_right : right p ≡ true
  unfolding list_of
  is_right =
      let a = entry 0 (omega arith) in
      let b = entry 1 (omega arith) in
      let c = entry 2 (omega arith) in
      let d = entry 3 (omega arith) in
      let k = ((get_or p 3 0 * 4 + get_or p 2 0) * 4 + get_or p 1 0) * 4 + get_or p 0 0 in
      let all : get_or p 0 0 ∷ get_or p 1 0 ∷ get_or p 2 0 ∷ get_or p 3 0 ∷ [] ≡ p = ap (λ n. list_of n (λ i. get_or p i 0)) (sym size) ∙ list_of-get_or p 0 in
      ap right (sym (number a b c ∙ all)) ∙ all_pass (λ j. right (places j)) 256 all_right k (omega arith)

  tested : count_of (holds p) 5 ≡ 5
  unfolding returns right
  tested =
      let there : count_of (returns p) 4 ≡ 4 = each-passes (returns p) 4 (λ o l. eq-eqb _ o (ok.perm.to o)) in
      eqb-true _ 5 (rw (eq-eqb _ 4 there) at is_right)

  listed-bits : field_bits 5 (word_of p) ≡ list_bits 2 p
  unfolding holds field_bits permutation_count
  listed-bits =
      list_of_ext 5 (λ i. bit_of i (word_of p)) (λ i. get_or (list_bits 2 p) i 0) (λ i l. eqb-true _ _ (all_pass (holds p) 5 tested i l))
      ∙ ap (λ n. list_of n (λ i. get_or (list_bits 2 p) i 0)) (sym (length-list_bits 2 p)) ∙ list_of-get_or (list_bits 2 p) 0

  pub word_bits : field_bits 5 (word_of p) ≡ mapping_bits p
  word_bits = listed-bits ∙ ap (λ n. list_bits n p) (sym (ap level_of size ∙ ceil_log-power 2))
