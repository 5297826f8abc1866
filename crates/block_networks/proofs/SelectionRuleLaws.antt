-- `selection_bits` follows the rule, and nothing else does: the rule fixes where each input and each output goes, an inverse is fixed by
-- its map, and P's own rule fixes P's bits.
use mathlib.Core.Path.{◌≡◌, sym, ap, ap₂, ◌∙◌}
use mathlib.Core.Logic.{◌⊎◌, inl, inr}
use mathlib.Core.Bool.{true, false}
use mathlib.Core.List.{List, ◌++◌}
use Prim.Native.Nat.{ℕ, suc, ◌^◌, ◌≤◌, ◌<◌}
use native.Mathlib.Decide.{dec_lt}
use native.Mathlib.Omega.{arith}
use borrow.Author.Tests.{lt-ltb, ltb-true}
use lib.ListN.{get_or}
use lib.Seq.{ext_get_or}
use Rattle.lists.specs.Counting.{one_if}
use Rattle.lists.proofs.CountingLaws.{passed, both_ways}
use Rattle.block_networks.specs.Permutation.{Perm, permutation_bits}
use Rattle.block_networks.specs.SideRule.{RuleBits}
use Rattle.block_networks.specs.Wanted.{mapping}
use Rattle.block_networks.specs.Selection.{selection_level, copies, is_wanted, head_of, is_head, copy_of, chain_program, whole_program, selection_bits}
use Rattle.block_networks.specs.SelectionRule.{Head, ChainRule, SecondRule, SelectionRule, rule-selection}
use Rattle.block_networks.proofs.SideRuleLaws.{permutation_follows, permutation_fixed}
use Rattle.block_networks.proofs.Loops.{flipped}
use Rattle.block_networks.proofs.Mappings.{perm_ext, inverse-only}
use Rattle.block_networks.proofs.CompletionLaws.{taken_here, taken_nowhere, taken_by, completion_only}
use Rattle.block_networks.proofs.SelectionLaws.{selection-outputs-fit}
use Rattle.block_networks.proofs.Heads.{copy-early, copy-past, first-perm, second-perm, position_rule}
use Rattle.block_networks.proofs.SelectionRouting.{length-chain_program, chain_program-at}

-- the rule of P for maps that are equal
fixed_bits : (level : ℕ) {π ρ π' ρ' : ℕ → ℕ} {bits : List ℕ} → Perm (2 ^ level) π ρ → RuleBits level π ρ bits → π ≡ π' → ρ ≡ ρ'
    → bits ≡ permutation_bits level π' ρ'
fixed_bits level P R e f = permutation_fixed P R ∙ ap₂ (permutation_bits level) e f

-- ---- the chain

module _ (want : ℕ → ℕ) (n level : ℕ) where
  head-is : (p : ℕ) → Head (2 ^ level) n want p → is_head want n (2 ^ level) p ≡ true
  head-is p h = taken_here (is_wanted want n) (head_of want n) (2 ^ level) p h.input h.low (lt-ltb 0 (copies want n h.input) h.wanted) h.here

  head_of_lem : (p : ℕ) (x : ℕ) → x < 2 ^ level → is_wanted want n x ≡ true → head_of want n x ≡ p → Head (2 ^ level) n want p
  head_of_lem p x l h e = record { input = x; low = l; wanted = ltb-true 0 (copies want n x) h; here = e }

  chain_follows : ChainRule (2 ^ level) n want (chain_program want n level)
  chain_follows = record {
    size = length-chain_program want n level;
    head = λ i l h. chain_program-at want n level i l ∙ ap one_if (head-is (suc i) h);
    other = λ i l f. chain_program-at want n level i l
        ∙ ap one_if (taken_nowhere (is_wanted want n) (head_of want n) (2 ^ level) (suc i) (λ x k h e. f (head_of_lem (suc i) x k h e)));
  }

  chain_fixed : {bits : List ℕ} → ChainRule (2 ^ level) n want bits → bits ≡ chain_program want n level
  chain_fixed {bits} R =
      ext_get_or 0 bits _ (R.size ∙ sym (length-chain_program want n level)) (λ i l.
      let k : suc i < 2 ^ level = omega (arith, R.size) in
      go i k (passed (is_head want n (2 ^ level) (suc i))) ∙ sym (chain_program-at want n level i k))
    where
      go : (i : ℕ) → suc i < 2 ^ level → (is_head want n (2 ^ level) (suc i) ≡ true) ⊎ (is_head want n (2 ^ level) (suc i) ≡ false)
          → get_or bits i 0 ≡ one_if (is_head want n (2 ^ level) (suc i))
      go i l (inl e) =
          let t = taken_by (is_wanted want n) (head_of want n) (2 ^ level) (suc i) e in
          R.head i l (head_of_lem (suc i) t.number t.low t.has-place t.there) ∙ sym (ap one_if e)
      go i l (inr e) = R.other i l (λ h. both_ways (head-is (suc i) h) e) ∙ sym (ap one_if e)

-- ---- the whole block

module _ (want : ℕ → ℕ) (n level : ℕ) (fits : n ≤ 2 ^ level) where
  whole_follows : SelectionRule level n want (whole_program want n level)
  unfolding whole_program
  whole_follows =
      let P = first-perm want n (2 ^ level) fits in
      let Q = second-perm want n (2 ^ level) fits in
      rule-selection P (position_rule want n (2 ^ level) fits) (permutation_follows level P)
      (chain_follows want n level) Q (record { copy = copy-early want n; own = copy-past want n }) (permutation_follows level Q)

  whole_fixed : {bits : List ℕ} → SelectionRule level n want bits → bits ≡ whole_program want n level
  unfolding whole_program
  whole_fixed (rule-selection {first = F} {chain = C} {second = S} P place firsts chain Q given seconds) =
      let P₀ = first-perm want n (2 ^ level) fits in
      let Q₀ = second-perm want n (2 ^ level) fits in
      let position = perm_ext (flipped P) (flipped P₀) (completion_only place (position_rule want n (2 ^ level) fits)) in
      let copy = perm_ext Q Q₀ (λ o l. go o given (dec_lt o n)) in
      let F₀ = fixed_bits level P firsts (inverse-only (flipped P) (flipped P₀) position) position in
      let S₀ = fixed_bits level Q seconds copy (inverse-only Q Q₀ copy) in
      ap₂ ◌++◌ F₀ (ap₂ ◌++◌ (chain_fixed want n level chain) S₀)
    where
      go : {π : ℕ → ℕ} (o : ℕ) → SecondRule n want π → Dec (o < n) → π o ≡ copy_of want n o
      go o R (yes l) = R.copy o l ∙ sym (copy-early want n o l)
      go o R (no f) = R.own o (omega arith) ∙ sym (copy-past want n o (omega arith))

-- ---- S(m, n)

-- the bits of S(m, n) follow the rule
pub selection_follows : (m n : ℕ) (wanted : List ℕ) → SelectionRule (selection_level m n) n (mapping wanted) (selection_bits m n wanted)
unfolding selection_bits
selection_follows m n wanted = whole_follows (mapping wanted) n (selection_level m n) (selection-outputs-fit m n)

-- the rule fixes every bit
pub selection_fixed : (m n : ℕ) (wanted : List ℕ) {bits : List ℕ} → SelectionRule (selection_level m n) n (mapping wanted) bits
    → bits ≡ selection_bits m n wanted
unfolding selection_bits
selection_fixed m n wanted R = whole_fixed (mapping wanted) n (selection_level m n) (selection-outputs-fit m n) R
