-- The loops of P's programming. The side is the same all along a walk, and partners have different sides: no walk leads from an output
-- to its partner, a walk and that of the partner pass the same pairs in opposite order, and ranks of partners are partners.
use mathlib.Core.Path.{◌≡◌, refl, sym, ap, ◌∙◌}
use mathlib.Core.Logic.{◌≢◌, ◌⊎◌, inl, inr}
use Prim.Native.Nat.{ℕ, zero, suc, ◌+◌, ◌-◌, ◌*◌, ◌/◌, ◌%◌, ◌≤◌, ◌<◌, zero-le}
use native.Mathlib.Nat.{le_refl, le_antisymm}
use native.Mathlib.Decide.{ℕ_discrete, dec_le, dec_lt}
use native.Mathlib.Omega.{arith}
use borrow.Author.Tests.{eq-eqb, ne_eqb}
use Rattle.block_networks.specs.Permutation.{Perm, partner, iterate, walk, key, lowest, side}
use Rattle.block_networks.proofs.Orbits.{iterate_in, iterate_fixed, Closes, closes, Reach, reach_trans, reach_sym, Attained, least_at, least-low, least-same}

-- ---- partners

pub partner-partner : (x : ℕ) → partner (partner x) ≡ x
unfolding partner
partner-partner x = omega arith

pub partner_ne : (x : ℕ) → partner x ≢ x
unfolding partner
partner_ne x e = omega arith

pub partner_inj : (x y : ℕ) → partner x ≡ partner y → x ≡ y
unfolding partner
partner_inj x y e = omega arith

pub parity : (x : ℕ) → (x % 2 ≡ 0) ⊎ (x % 2 ≡ 1)
parity x = go (ℕ_discrete (x % 2) 0)
  where
    go : Dec (x % 2 ≡ 0) → (x % 2 ≡ 0) ⊎ (x % 2 ≡ 1)
    go (yes e) = inl e
    go (no f) = inr (omega arith)

-- partners are of one pair
pub partner-half : (x : ℕ) → partner x / 2 ≡ x / 2
unfolding partner
partner-half x = go (parity x)
  where
    go : (x % 2 ≡ 0) ⊎ (x % 2 ≡ 1) → (x + 1 - 2 * (x % 2)) / 2 ≡ x / 2
    go (inl e) = omega arith
    go (inr e) = omega arith

pub partner-even : (i : ℕ) → partner (2 * i) ≡ 2 * i + 1
unfolding partner
partner-even i = omega arith

pub partner_lt : (h x : ℕ) → x < 2 * h → partner x < 2 * h
unfolding partner
partner_lt h x l = omega arith

pub partner-past : (h x : ℕ) → 2 * h ≤ x → 2 * h ≤ partner x
unfolding partner
partner-past h x l = omega arith

-- places of one pair are equal or partners
pub same-pair : (x y : ℕ) → x / 2 ≡ y / 2 → (x ≡ y) ⊎ (x ≡ partner y)
unfolding partner
same-pair x y e = go (ℕ_discrete x y)
  where
    go : Dec (x ≡ y) → (x ≡ y) ⊎ (x ≡ y + 1 - 2 * (y % 2))
    go (yes p) = inl p
    go (no n) = inr (omega arith)

-- ---- ranks

pub key-last : (h x : ℕ) → suc (x / 2) ≡ h → key h x ≡ x % 2
unfolding key
key-last h x e = rw (eq-eqb (suc (x / 2)) h e)

pub key-other : (h x : ℕ) → suc (x / 2) ≢ h → key h x ≡ x + 2
unfolding key
key-other h x n = rw (ne_eqb (suc (x / 2)) h n)

-- the two cases of a rank
pub data KeyAt (h x : ℕ) : Type 0 where
  in_last : suc (x / 2) ≡ h → key h x ≡ x % 2 → KeyAt h x
  elsewhere : suc (x / 2) ≢ h → key h x ≡ x + 2 → KeyAt h x

pub key-at : (h x : ℕ) → KeyAt h x
key-at h x = go (ℕ_discrete (suc (x / 2)) h)
  where
    go : Dec (suc (x / 2) ≡ h) → KeyAt h x
    go (yes e) = in_last e (key-last h x e)
    go (no n) = elsewhere n (key-other h x n)

pub key-parity : (h x : ℕ) → key h x % 2 ≡ x % 2
key-parity h x = go (key-at h x)
  where
    go : KeyAt h x → key h x % 2 ≡ x % 2
    go (in_last e k) = omega arith
    go (elsewhere n k) = omega arith

-- ranks of partners are partners
pub key-partner : (h x : ℕ) → key h (partner x) ≡ partner (key h x)
key-partner h x = go (key-at h x)
  where
    go : KeyAt h x → key h (partner x) ≡ partner (key h x)
    go (in_last e k) = rw (k, key-last h (partner x) (rw (partner-half x) e)) (unfold partner in omega arith)
    go (elsewhere n k) = rw (k, key-other h (partner x) (rw (partner-half x) n)) (unfold partner in omega arith)

pub key_inj : (h x y : ℕ) → key h x ≡ key h y → x ≡ y
key_inj h x y e = go (key-at h x) (key-at h y)
  where
    go : KeyAt h x → KeyAt h y → x ≡ y
    go (in_last p k) (in_last q l) = omega arith
    go (in_last p k) (elsewhere q l) = omega arith
    go (elsewhere p k) (in_last q l) = omega arith
    go (elsewhere p k) (elsewhere q l) = omega arith

-- ---- one-to-one mappings

pub flipped : {N : ℕ} {π ρ : ℕ → ℕ} → Perm N π ρ → Perm N ρ π
flipped {N} {π} {ρ} P = record { to = P.fro; fro = P.to; past = λ x h. ap ρ (sym (P.past x h)) ∙ P.to x }

pub perm_inj : {N : ℕ} {π ρ : ℕ → ℕ} → Perm N π ρ → (x y : ℕ) → π x ≡ π y → x ≡ y
perm_inj {N} {π} {ρ} P x y e = sym (P.to x) ∙ ap ρ e ∙ P.to y

-- an injective map that moves nothing past N keeps what is below N there
stays : (N : ℕ) (g : ℕ → ℕ) → ((x y : ℕ) → g x ≡ g y → x ≡ y) → ((x : ℕ) → N ≤ x → g x ≡ x) → (x : ℕ) → x < N → g x < N
stays N g inj past x l = go (dec_le N (g x))
  where
    go : Dec (N ≤ g x) → g x < N
    go (yes m) = let e : g x ≡ x = inj (g x) x (past (g x) m) in omega arith
    go (no f) = omega arith

pub perm_lt : {N : ℕ} {π ρ : ℕ → ℕ} → Perm N π ρ → (x : ℕ) → x < N → π x < N
perm_lt {N} {π} P x l = stays N π (perm_inj P) P.past x l

-- ---- the walk of a mapping of 2h places

module _ (h : ℕ) {π ρ : ℕ → ℕ} (P : Perm (2 * h) π ρ) where
  pub walk_inj : (x y : ℕ) → walk π ρ x ≡ walk π ρ y → x ≡ y
  unfolding walk
  walk_inj x y e = perm_inj P x y (partner_inj _ _ (perm_inj (flipped P) _ _ (partner_inj _ _ e)))

  -- the partner of where a step ends steps to the partner of where it began
  pub walk-turns : (x : ℕ) → walk π ρ (partner (walk π ρ x)) ≡ partner x
  unfolding walk
  walk-turns x = simp (partner-partner, P.fro, P.to)

  walk-apart : (x : ℕ) → walk π ρ x ≢ partner x
  unfolding walk
  walk-apart x e = partner_ne (π x) (sym (P.fro (partner (π x))) ∙ ap π (partner_inj _ _ e))

  pub walk-past : (x : ℕ) → 2 * h ≤ x → walk π ρ x ≡ x
  unfolding walk
  walk-past x l = simp (P.past x l, (flipped P).past (partner x) (partner-past h x l), partner-partner)

  pub walk_lt : (k x : ℕ) → x < 2 * h → iterate (walk π ρ) k x < 2 * h
  unfolding iterate
  walk_lt zero x l = l
  walk_lt (suc k) x l = stays (2 * h) (walk π ρ) walk_inj walk-past _ (walk_lt k x l)

  -- every walk closes
  pub walk-closes : (x : ℕ) → Closes (2 * h) (walk π ρ) x
  unfolding iterate
  walk-closes x = go (dec_lt x (2 * h))
    where
      go : Dec (x < 2 * h) → Closes (2 * h) (walk π ρ) x
      go (yes l) = closes (walk π ρ) walk_inj (2 * h) x (λ k. walk_lt k x l)
      go (no f) = record { rest = 0; bound = zero-le; back = walk-past x (omega arith) }

  pub walk_sym : {a b : ℕ} → Reach (walk π ρ) a b → Reach (walk π ρ) b a
  walk_sym r = reach_sym (walk π ρ) (2 * h) walk-closes r

  -- no walk leads from an output to its partner
  never-partner : (k x : ℕ) → iterate (walk π ρ) k x ≢ partner x
  unfolding iterate
  never-partner zero x e = partner_ne x (sym e)
  never-partner (suc zero) x e = walk-apart x e
  never-partner (suc (suc k)) x e =
      never-partner k (walk π ρ x) (walk_inj _ _ (ap (walk π ρ) (iterate_in (walk π ρ) k x) ∙ e ∙ sym (walk-turns x)))

  mirror : (k x : ℕ) → iterate (walk π ρ) k (partner (iterate (walk π ρ) k x)) ≡ partner x
  unfolding iterate
  mirror zero x = refl
  mirror (suc k) x = sym (iterate_in (walk π ρ) k _) ∙ rw walk-turns (mirror k x)

  -- the walk of the partner passes the partners
  pub walk-mirror : {a b : ℕ} → Reach (walk π ρ) a b → Reach (walk π ρ) (partner a) (partner b)
  walk-mirror {a} {b} r = walk_sym (record { steps = r.steps; ends = rw r.ends at (mirror r.steps a) })

  -- ---- the least rank on the walk from x

  pub lowest-at : (x : ℕ) → Attained (walk π ρ) (key h) x (lowest h π ρ x)
  unfolding lowest
  lowest-at x = least_at (walk π ρ) (key h) (2 * h) x

  pub lowest-low : {a b : ℕ} → Reach (walk π ρ) a b → lowest h π ρ a ≤ key h b
  unfolding lowest
  lowest-low r = least-low (walk π ρ) (2 * h) walk-closes (key h) r

  pub lowest-same : {a b : ℕ} → Reach (walk π ρ) a b → lowest h π ρ a ≡ lowest h π ρ b
  unfolding lowest
  lowest-same r = least-same (walk π ρ) (2 * h) walk-closes (key h) r

  settle : (a b : ℕ) → a ≤ partner b → b ≤ partner a → a ≢ b → (a % 2 + b % 2 ≡ 1) × (a / 2 ≡ b / 2)
  unfolding partner
  settle a b u w ne = omega arith

  -- the walks of partners have least ranks that are partners
  pub lowest-partner : (x : ℕ) → (lowest h π ρ x % 2 + lowest h π ρ (partner x) % 2 ≡ 1) × (lowest h π ρ x / 2 ≡ lowest h π ρ (partner x) / 2)
  lowest-partner x =
      let s = lowest-at x in
      let t = lowest-at (partner x) in
      let s' : Reach (walk π ρ) x (partner t.place) = rw (partner-partner x) at (walk-mirror t.reached) in
      let r = reach_trans (walk_sym s.reached) s' in
      rw (s.rank, t.rank) (settle (key h s.place) (key h t.place)
      (rw (s.rank, key-partner) at (lowest-low s'))
      (rw (t.rank, key-partner) at (lowest-low (walk-mirror s.reached)))
      (λ e. never-partner r.steps s.place (r.ends ∙ ap partner (sym (key_inj h _ _ e)))))

  -- ---- the side

  -- it is the same all along a walk
  pub side_along : {a b : ℕ} → Reach (walk π ρ) a b → side h π ρ a ≡ side h π ρ b
  unfolding side
  side_along r = ap (λ k. k % 2) (lowest-same r)

  -- partners have different sides
  pub side-partner : (x : ℕ) → side h π ρ x + side h π ρ (partner x) ≡ 1
  unfolding side
  side-partner x = (lowest-partner x).0

  -- the side is the place, first or second, of the walk's output of the least rank: that output's pair is straight
  pub side-at : (x : ℕ) → side h π ρ x ≡ (lowest-at x).place % 2
  unfolding side
  side-at x = ap (λ k. k % 2) (lowest-at x).rank ∙ key-parity h (lowest-at x).place

  pub side-straight : (x : ℕ) → ((y : ℕ) → Reach (walk π ρ) x y → key h x ≤ key h y) → side h π ρ x ≡ x % 2
  unfolding iterate
  side-straight x low =
      let t = lowest-at x in
      let e = le_antisymm (low t.place t.reached) (rw t.rank at (lowest-low {a = x} {b = x} (record { steps = 0; ends = refl }))) in
      side-at x ∙ ap (λ y. y % 2) (sym (key_inj h x t.place e))

  -- past the end every pair is straight
  pub side-past : (x : ℕ) → 2 * h ≤ x → side h π ρ x ≡ x % 2
  side-past x l = side-straight x (λ y r. rw (sym r.ends ∙ iterate_fixed (walk π ρ) r.steps x (walk-past x l)) (le_refl (key h x)))

  -- the last pair is straight
  pub side-last : (i : ℕ) → suc i ≡ h → side h π ρ (2 * i) ≡ 0
  side-last i e = side-straight (2 * i) (λ y r. omega (arith, key-last h (2 * i) (omega arith))) ∙ omega arith
