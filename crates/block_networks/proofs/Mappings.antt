-- A one-to-one mapping of N places is fixed by what it does below N, and its inverse by it. So P is programmed for a mapping as for the
-- list of the inputs, counted from 1, that it gives to the outputs.
use mathlib.Core.Path.{◌≡◌, refl, sym, ap, ap₂, ◌∙◌, fun_ext}
use mathlib.Core.List.{List}
use Prim.Native.Nat.{ℕ, suc, ◌-◌, ◌^◌, ◌<◌}
use native.Mathlib.Decide.{dec_lt}
use native.Mathlib.Omega.{arith}
use lib.ListN.{get_or}
use Rattle.lists.specs.Lists.{list_of}
use Rattle.lists.proofs.ListsLaws.{length-list_of, get_or-list_of, get_or-list_of-all}
use Rattle.block_networks.specs.Permutation.{Perm, permutation_bits}
use Rattle.block_networks.specs.Wanted.{Wanted, mapping, inverse, wanted_bits, wanted_of}
use Rattle.block_networks.specs.SideRule.{WantedRule, rule-wanted}
use Rattle.block_networks.proofs.Loops.{perm_inj, perm_lt}
use Rattle.block_networks.proofs.SideRuleLaws.{permutation_follows, permutation_fixed}
use Rattle.block_networks.proofs.WantedLaws.{wanted-perm}

pub perm_ext : {N : ℕ} {π ρ π' ρ' : ℕ → ℕ} → Perm N π ρ → Perm N π' ρ' → ((o : ℕ) → o < N → π o ≡ π' o) → π ≡ π'
perm_ext {N} {π} {ρ} {π'} {ρ'} P Q e = fun_ext (λ o. go o (dec_lt o N))
  where
    go : (o : ℕ) → Dec (o < N) → π o ≡ π' o
    go o (yes l) = e o l
    go o (no f) = P.past o (omega arith) ∙ sym (Q.past o (omega arith))

pub inverse-only : {N : ℕ} {π ρ π' ρ' : ℕ → ℕ} → Perm N π ρ → Perm N π' ρ' → π ≡ π' → ρ ≡ ρ'
inverse-only {ρ} {π'} {ρ'} P Q e = fun_ext (λ x. ap ρ (sym (Q.fro x) ∙ ap (λ (f : ℕ → ℕ). f (ρ' x)) (sym e)) ∙ P.to (ρ' x))

module _ {N : ℕ} {π ρ : ℕ → ℕ} (P : Perm N π ρ) where
  pub wanted_of-names : Wanted N (wanted_of N π)
  wanted_of-names =
      let at : (o : ℕ) → o < N → get_or (list_of N (λ o. suc (π o))) o 0 ≡ suc (π o) = λ o l. get_or-list_of N _ o 0 l in
      record {
        size = length-list_of N _;
        low = λ o l. omega (arith, at o l);
        high = λ o l. omega (arith, at o l, perm_lt P o l);
        once = λ a b la lb e. perm_inj P a b (omega (arith, at a la, at b lb));
      }

  mapping-wanted_of : mapping (wanted_of N π) ≡ π
  unfolding mapping
  mapping-wanted_of = fun_ext (λ o. ap (λ x. x - 1) (get_or-list_of-all N (λ o. suc (π o)) o (suc o) (λ l. ap suc (P.past o l))) ∙ omega arith)

  inverse-wanted_of : inverse (wanted_of N π) ≡ ρ
  inverse-wanted_of = inverse-only (wanted-perm wanted_of-names) P mapping-wanted_of

-- programmed for the mapping or for its list
pub wanted_bits_of : (level : ℕ) {π ρ : ℕ → ℕ} → Perm (2 ^ level) π ρ → wanted_bits level (wanted_of (2 ^ level) π) ≡ permutation_bits level π ρ
unfolding wanted_bits
wanted_bits_of level P = ap₂ (permutation_bits level) (mapping-wanted_of P) (inverse-wanted_of P)

-- "This fixes every bit": the bits for the wanted inputs follow the rule for their loops, and no other bits do
module _ (n : ℕ) {wanted : List ℕ} (W : Wanted (2 ^ n) wanted) where
  pub wanted_follows : WantedRule n wanted (wanted_bits n wanted)
  unfolding wanted_bits
  wanted_follows = rule-wanted (wanted-perm W) (permutation_follows n (wanted-perm W))

  pub wanted_fixed : {bits : List ℕ} → WantedRule n wanted bits → bits ≡ wanted_bits n wanted
  unfolding wanted_bits
  wanted_fixed (rule-wanted P R) = permutation_fixed P R ∙ ap (permutation_bits n (mapping wanted)) (inverse-only P (wanted-perm W) refl)
