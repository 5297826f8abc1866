-- The mappings that are left to the two halves. Where partners have different sides, each pair has one place on each side; so taking a
-- side's place of each pair and halving is one to one. One lemma over the mapping and its sides gives both directions, for both halves.
use mathlib.Core.Path.{◌≡◌, refl, sym, ap, ◌∙◌}
use mathlib.Core.Logic.{◌⊎◌, inl, inr}
use Prim.Native.Nat.{ℕ, ◌+◌, ◌*◌, ◌/◌, ◌%◌, ◌≤◌, ◌<◌}
use native.Mathlib.Nat.{add-zero}
use native.Mathlib.Omega.{arith}
use Rattle.block_networks.specs.Permutation.{Perm, partner, walk, side, pick, in_half}
use Rattle.block_networks.proofs.Orbits.{reach_one}
use Rattle.block_networks.proofs.Loops.{partner-partner, partner-even, parity, side_along, side-partner}

-- partners have the two different sides
abbrev pub Sides : (ℕ → ℕ) → Type 0
Sides s = (x : ℕ) → s x + s (partner x) ≡ 1

-- a place is the first or the second of its pair
pub even_place : (x : ℕ) → x % 2 ≡ 0 → 2 * (x / 2) ≡ x
even_place x e = omega arith

pub odd_place : (x : ℕ) → x % 2 ≡ 1 → 2 * (x / 2) + 1 ≡ x
odd_place x e = omega arith

pub pick-half : (s : ℕ → ℕ) (c i : ℕ) → pick s c i / 2 ≡ i
unfolding pick
pick-half s c i = omega arith

pick_ge : (s : ℕ → ℕ) (c i : ℕ) → 2 * i ≤ pick s c i
unfolding pick
pick_ge s c i = omega arith

module _ (s : ℕ → ℕ) (S : Sides s) where
  pub side_lt : (x : ℕ) → s x < 2
  side_lt x = omega (arith, S x)

  -- the two places of pair i
  pub side-pair : (i : ℕ) → s (2 * i) + s (2 * i + 1) ≡ 1
  side-pair i = rw partner-even at (S (2 * i))

  pick-side : (c i : ℕ) → c < 2 → s (pick s c i) ≡ c
  unfolding pick
  pick-side c i l = go (parity (s (2 * i) + c))
    where
      go : ((s (2 * i) + c) % 2 ≡ 0) ⊎ ((s (2 * i) + c) % 2 ≡ 1) → s (2 * i + (s (2 * i) + c) % 2) ≡ c
      go (inl e) = rw (e, add-zero) (omega (arith, side-pair i))
      go (inr e) = rw e (omega (arith, side-pair i))

  -- a place is what its own side picks of its pair
  pub pick-own : (x : ℕ) → pick s (s x) (x / 2) ≡ x
  unfolding pick
  pick-own x = go (parity x)
    where
      go : (x % 2 ≡ 0) ⊎ (x % 2 ≡ 1) → 2 * (x / 2) + (s (2 * (x / 2)) + s x) % 2 ≡ x
      go (inl e) = rw (even_place x e) (omega arith)
      go (inr e) = omega (arith, ap s (odd_place x e), side-pair (x / 2), odd_place x e)

  -- what the half of an output's side does with it
  pub own-half : (π : ℕ → ℕ) (o : ℕ) → in_half π s (s o) (o / 2) ≡ π o / 2
  unfolding in_half
  own-half π o = ap (λ y. π y / 2) (pick-own o)

-- ρ undoes π, and t is s seen from the inputs: so do the halves
module _ (π ρ s t : ℕ → ℕ) (to : (x : ℕ) → ρ (π x) ≡ x) (S : Sides s) (T : Sides t) (same : (x : ℕ) → t (π x) ≡ s x) where
  half-to : (c i : ℕ) → c < 2 → in_half ρ t c (in_half π s c i) ≡ i
  unfolding in_half
  half-to c i l =
      let x = pick s c i in
      let e : t (π x) ≡ c = same x ∙ pick-side s S c i l in
      let f : pick t c (π x / 2) ≡ π x = ap (λ k. pick t k (π x / 2)) (sym e) ∙ pick-own t T (π x) in
      ap (λ y. ρ y / 2) f ∙ ap (λ y. y / 2) (to x) ∙ pick-half s c i

-- ---- the halves by P's side rule

module _ (h : ℕ) {π ρ : ℕ → ℕ} (P : Perm (2 * h) π ρ) where
  pub output-sides : Sides (side h π ρ)
  output-sides x = side-partner h P x

  -- partners at the inputs have different sides too
  pub input-sides : Sides (λ x. side h π ρ (ρ x))
  unfolding walk
  input-sides x =
      let w = walk π ρ (ρ x) in
      let e : partner w ≡ ρ (partner x) = partner-partner _ ∙ ap (λ y. ρ (partner y)) (P.fro x) in
      omega (arith, side_along h P (reach_one (walk π ρ) (ρ x)), rw e at (side-partner h P w))

  pub half-perm : (c : ℕ) → c < 2 → Perm h (in_half π (side h π ρ) c) (in_half ρ (λ x. side h π ρ (ρ x)) c)
  unfolding in_half
  half-perm c l =
      let s = side h π ρ in
      record {
        to = λ i. half-to π ρ s (λ x. s (ρ x)) P.to output-sides input-sides (λ x. ap s (P.to x)) c i l;
        fro = λ i. half-to ρ π (λ x. s (ρ x)) s P.fro input-sides output-sides (λ x. refl) c i l;
        past = λ i m. ap (λ y. y / 2) (P.past (pick s c i) (omega (arith, pick_ge s c i))) ∙ pick-half s c i;
      }
