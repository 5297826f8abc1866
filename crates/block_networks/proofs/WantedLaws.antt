-- A list that names each of the inputs 1 to N once is a one-to-one mapping: each input is wanted, since N + 1 places for N values,
-- the N wanted inputs and one that is not wanted, would clash. Then P, programmed for the list, delivers it.
use mathlib.Core.Path.{◌≡◌, refl, sym, ap, ◌∙◌}
use mathlib.Core.Logic.{◌≢◌, ◌⊎◌, inl, inr}
use mathlib.Core.Bool.{cond}
use mathlib.Core.List.{List, [], ◌++◌}
use Prim.Native.Nat.{ℕ, zero, suc, ◌-◌, ◌^◌, ◌≤◌, ◌<◌}
use native.Mathlib.Nat.{not-suc-le-zero, le_refl, le_step, le_of_suc-le-suc, eq-or-lt_of_le}
use native.Mathlib.Decide.{ℕ_discrete, dec_lt}
use native.Mathlib.Omega.{arith}
use borrow.Author.Tests.{eq-eqb, ne_eqb, lt-ltb, le-ltb}
use lib.Dec.{eqb, ltb}
use lib.ListN.{length, get_or, get_or-eq_default}
use Rattle.lists.specs.Lists.{Below}
use Rattle.lists.proofs.ListsLaws.{get_d_any}
use Rattle.block_elements.specs.Bits.{AreBits, pack, unpack}
use Rattle.block_elements.proofs.BitsLaws.{unpack-pack}
use Rattle.block_elements.specs.Rows.{State}
use Rattle.block_networks.specs.Permutation.{permutation_count, Perm}
use Rattle.block_networks.specs.Wanted.{Wanted, mapping, taker_of, inverse, wanted_bits}
use Rattle.block_networks.proofs.Orbits.{Found, Search, find, Clash, pigeonhole}
use Rattle.block_networks.proofs.Routing.{length-permutation_bits, permutation_bits-bits}
use Rattle.block_networks.proofs.PermutationRun.{PermutationDelivers, permutation_delivers}

-- ---- the inverse of an injective map of the numbers below N into themselves

-- where some output among the first n takes x, `taker_of` is one
taker-takes : (π : ℕ → ℕ) (n x : ℕ) → Found π x n → (taker_of n π x < n) × (π (taker_of n π x) ≡ x)
unfolding taker_of
taker-takes π zero x t = absurd (not-suc-le-zero t.early)
taker-takes π (suc n) x t = go (taker-takes π n x) (ℕ_discrete (π n) x) (eq-or-lt_of_le (le_of_suc-le-suc t.early))
  where
    r : ℕ
    r = taker_of n π x

    go : (Found π x n → (r < n) × (π r ≡ x)) → Dec (π n ≡ x) → (t.place ≡ n) ⊎ (t.place < n)
        → (cond (eqb (π n) x) n r < suc n) × (π (cond (eqb (π n) x) n r) ≡ x)
    go rec (yes p) c = rw (eq-eqb (π n) x p) (le_refl (suc n), p)
    go rec (no f) (inl q) = absurd (f (ap π (sym q) ∙ t.hits))
    go rec (no f) (inr m) =
        let d = rec (record { place = t.place; early = m; hits = t.hits }) in
        rw (ne_eqb (π n) x f) (le_step d.0, d.1)

taker-none : (π : ℕ → ℕ) (n x : ℕ) → ((o : ℕ) → o < n → π o ≢ x) → taker_of n π x ≡ x
unfolding taker_of
taker-none π zero x f = refl
taker-none π (suc n) x f = rw (ne_eqb (π n) x (f n (le_refl (suc n)))) (taker-none π n x (λ o l. f o (le_step l)))

module _ (N : ℕ) (π : ℕ → ℕ) (below : (o : ℕ) → o < N → π o < N) (past : (o : ℕ) → N ≤ o → π o ≡ o)
    (inj : (a b : ℕ) → a < N → b < N → π a ≡ π b → a ≡ b) where
  -- the inputs that the outputs take, then x
  taken_then : ℕ → ℕ → ℕ
  taken_then x o = cond (ltb o N) (π o) x

  taken-early : (x o : ℕ) → o < N → taken_then x o ≡ π o
  unfolding taken_then
  taken-early x o l = rw (lt-ltb o N l)

  taken-last : (x o : ℕ) → N ≤ o → taken_then x o ≡ x
  unfolding taken_then
  taken-last x o l = rw (le-ltb o N l)

  taken_lt : (x o : ℕ) → x < N → taken_then x o < N
  taken_lt x o l = go (dec_lt o N)
    where
      go : Dec (o < N) → taken_then x o < N
      go (yes m) = rw (taken-early x o m) (below o m)
      go (no m) = rw (taken-last x o (omega arith)) l

  -- every input is taken
  onto : (x : ℕ) → x < N → Found π x N
  onto x l = go (find π x N) (pigeonhole N (taken_then x) (λ o m. taken_lt x o l))
    where
      clash : (c : Clash N (taken_then x)) → ((o : ℕ) → o < N → π o ≢ x) → Dec (c.other < N) → ⊥
      clash c f (yes m) =
          let k = c.apart in
          let e = sym (taken-early x c.one (omega arith)) ∙ c.equal ∙ taken-early x c.other m in
          omega (arith, inj c.one c.other (omega arith) m e)
      clash c f (no m) =
          let k = c.apart in
          let w = c.within in
          f c.one (omega arith) (sym (taken-early x c.one (omega arith)) ∙ c.equal ∙ taken-last x c.other (omega arith))

      go : Search π x N → Clash N (taken_then x) → Found π x N
      go (inl t) c = t
      go (inr f) c = absurd (clash c f (dec_lt c.other N))

  past-taker : (x : ℕ) → N ≤ x → taker_of N π x ≡ x
  past-taker x l = taker-none π N x (λ o m e. absurd (omega (arith, below o m)))

  pub taker-perm : Perm N π (taker_of N π)
  taker-perm = record { to = λ o. to o (dec_lt o N); fro = λ x. fro x (dec_lt x N); past = past }
    where
      to : (o : ℕ) → Dec (o < N) → taker_of N π (π o) ≡ o
      to o (yes l) = let t = taker-takes π N (π o) (record { place = o; early = l; hits = refl }) in inj (taker_of N π (π o)) o t.0 l t.1
      to o (no f) = ap (taker_of N π) (past o (omega arith)) ∙ past-taker o (omega arith)

      fro : (x : ℕ) → Dec (x < N) → π (taker_of N π x) ≡ x
      fro x (yes l) = (taker-takes π N x (onto x l)).1
      fro x (no f) = ap π (past-taker x (omega arith)) ∙ past x (omega arith)

-- ---- a wanted list

module _ {N : ℕ} {wanted : List ℕ} (W : Wanted N wanted) where
  -- wanted inputs count from 1
  pub mapping-at : (o : ℕ) → o < N → suc (mapping wanted o) ≡ get_or wanted o 0
  unfolding mapping
  mapping-at o l =
      let s = W.size in
      let e : get_or wanted o (suc o) ≡ get_or wanted o 0 = get_d_any wanted o (suc o) 0 (omega arith) in
      omega (arith, W.low o l)

  pub mapping-past : (o : ℕ) → N ≤ o → mapping wanted o ≡ o
  unfolding mapping
  mapping-past o l =
      let s = W.size in
      ap (λ k. k - 1) (get_or-eq_default wanted (suc o) (omega arith)) ∙ omega arith

  pub wanted-perm : Perm N (mapping wanted) (inverse wanted)
  unfolding inverse
  wanted-perm = rw W.size (taker-perm N (mapping wanted)
      (λ o l. omega (arith, mapping-at o l, W.high o l))
      mapping-past
      (λ a b la lb e. W.once a b la lb (sym (mapping-at a la) ∙ ap suc e ∙ mapping-at b lb)))

pub length-wanted_bits : (n : ℕ) (wanted : List ℕ) → length (wanted_bits n wanted) ≡ permutation_count n
unfolding wanted_bits
length-wanted_bits n wanted = length-permutation_bits n (mapping wanted) (inverse wanted)

pub wanted_bits-bits : (n : ℕ) {wanted : List ℕ} → Wanted (2 ^ n) wanted → AreBits (wanted_bits n wanted)
unfolding wanted_bits
wanted_bits-bits n W = permutation_bits-bits n (wanted-perm W)

-- a program holds them
pub unpack-wanted : (n : ℕ) {wanted : List ℕ} → Wanted (2 ^ n) wanted → unpack (permutation_count n) (pack (wanted_bits n wanted)) ≡ wanted_bits n wanted
unpack-wanted n {wanted} W = rw (← length-wanted_bits n wanted) (unpack-pack (wanted_bits n wanted) (wanted_bits-bits n W))

-- P programmed for the wanted inputs: output o carries what input `mapping wanted o` carried, counted from 0
pub wanted-delivers : {A : Type 0} (none : A) (gate : ℕ → List ℕ → List A → A) (n : ℕ) {wanted : List ℕ} → Wanted (2 ^ n) wanted
    → (ins : List ℕ) (next : ℕ) (s : State A) (rest : List ℕ)
    → length ins ≡ 2 ^ n → Below next ins → length s.wires ≡ next → s.bits ≡ wanted_bits n wanted ++ rest
    → PermutationDelivers none gate n (mapping wanted) ins next s rest
unfolding wanted_bits
wanted-delivers none gate n W ins next s rest e b m bits = permutation_delivers none gate n (wanted-perm W) ins next s rest e b m bits
