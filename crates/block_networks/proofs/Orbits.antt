-- The pigeonhole principle, and from it: the orbit of an injective map that stays below N comes back to its start within N + 1 steps.
-- So what can be reached along it can be left again, and the least rank on it is the same from each of its places.
use mathlib.Core.Path.{◌≡◌, refl, sym, ap, ◌∙◌}
use mathlib.Core.Logic.{◌≢◌, ◌⊎◌, inl, inr}
use Prim.Native.Nat.{ℕ, zero, suc, ◌+◌, ◌-◌, ◌≤◌, ◌<◌, zero-le, suc-le-suc, min}
use native.Mathlib.Nat.{not-suc-le-zero, le_refl, le_step, le_trans, le_antisymm, le_of_lt, lt_of_not-le, le_of_suc-le-suc, le-suc_iff}
use native.Mathlib.Nat.{eq-or-lt_of_le, zero-add, suc-add, min-le_right, min-eq_left, min-eq_right}
use native.Mathlib.Decide.{ℕ_discrete, dec_le}
use native.Mathlib.Omega.{arith}
use Rattle.block_networks.specs.Permutation.{iterate, least}

-- ---- the pigeonhole principle

-- g takes the value v at one of the first n places, or at none
pub record Found (g : ℕ → ℕ) (v n : ℕ) : Type 0 where
  pub place : ℕ
  pub early : place < n
  pub hits : g place ≡ v

abbrev pub Search : (ℕ → ℕ) → ℕ → ℕ → Type 0
Search g v n = (Found g v n) ⊎ ((i : ℕ) → i < n → g i ≢ v)

pub find : (g : ℕ → ℕ) (v n : ℕ) → Search g v n
find g v zero = inr (λ i h. absurd (not-suc-le-zero h))
find g v (suc n) = go (find g v n) (ℕ_discrete (g n) v)
  where
    none : g n ≢ v → ((i : ℕ) → i < n → g i ≢ v) → (i : ℕ) → (i ≡ n) ⊎ (i < n) → g i ≢ v
    none ne f i (inl p) e = ne (rw p at e)
    none ne f i (inr l) e = f i l e

    go : (Found g v n) ⊎ ((i : ℕ) → i < n → g i ≢ v) → Dec (g n ≡ v) → (Found g v (suc n)) ⊎ ((i : ℕ) → i < suc n → g i ≢ v)
    go (inl t) d = inl (record { place = t.place; early = omega arith; hits = t.hits })
    go (inr f) (yes e) = inl (record { place = n; early = le_refl (suc n); hits = e })
    go (inr f) (no ne) = inr (λ i h. none ne f i (eq-or-lt_of_le (le_of_suc-le-suc h)))

-- a with n replaced by v
swap : {a n : ℕ} → Dec (a ≡ n) → ℕ → ℕ
swap (yes p) v = v
swap {a} (no f) v = a

swap_inj : {n : ℕ} (v a b : ℕ) (da : Dec (a ≡ n)) (db : Dec (b ≡ n)) → a ≢ v → b ≢ v → swap da v ≡ swap db v → a ≡ b
unfolding swap
swap_inj v a b (yes p) (yes q) na nb e = p ∙ sym q
swap_inj v a b (yes p) (no q) na nb e = absurd (nb (sym e))
swap_inj v a b (no p) (yes q) na nb e = absurd (na e)
swap_inj v a b (no p) (no q) na nb e = e

swap_lt : {n : ℕ} (v a : ℕ) (d : Dec (a ≡ n)) → v < suc n → a < suc n → a ≢ v → swap d v < n
unfolding swap
swap_lt v a (yes p) hv ha ne = omega arith
swap_lt v a (no p) hv ha ne = omega arith

-- two of the places 0 to n at which g is equal
pub record Clash (n : ℕ) (g : ℕ → ℕ) : Type 0 where
  pub one : ℕ
  pub other : ℕ
  pub apart : one < other
  pub within : other ≤ n
  pub equal : g one ≡ g other

pub pigeonhole : (n : ℕ) (g : ℕ → ℕ) → ((k : ℕ) → k ≤ n → g k < n) → Clash n g
pigeonhole zero g h = absurd (not-suc-le-zero (h zero zero-le))
pigeonhole (suc n) g h = go (pigeonhole n) (find g (g (suc n)) (suc n))
  where
    v : ℕ
    v = g (suc n)

    g' : ℕ → ℕ
    g' k = swap (ℕ_discrete (g k) n) v

    small : ((i : ℕ) → i < suc n → g i ≢ v) → (k : ℕ) → k ≤ n → g' k < n
    small f k l = swap_lt v (g k) (ℕ_discrete (g k) n) (h (suc n) (le_refl (suc n))) (h k (le_step l)) (f k (suc-le-suc l))

    go : ((g : ℕ → ℕ) → ((k : ℕ) → k ≤ n → g k < n) → Clash n g) → (Found g v (suc n)) ⊎ ((i : ℕ) → i < suc n → g i ≢ v) → Clash (suc n) g
    go rec (inl t) = record { one = t.place; other = suc n; apart = t.early; within = le_refl (suc n); equal = t.hits }
    go rec (inr f) =
        let c = rec g' (small f) in
        let d = ℕ_discrete (g c.one) n in
        let e = ℕ_discrete (g c.other) n in
        record {
          one = c.one;
          other = c.other;
          apart = c.apart;
          within = le_step c.within;
          equal = swap_inj v _ _ d e (f c.one (omega arith)) (f c.other (omega arith)) c.equal;
        }

-- ---- iteration

module _ (f : ℕ → ℕ) where
  pub iterate_in : (k x : ℕ) → iterate f k (f x) ≡ f (iterate f k x)
  unfolding iterate
  iterate_in zero x = refl
  iterate_in (suc k) x = ap f (iterate_in k x)

  pub iterate-add : (a b x : ℕ) → iterate f (a + b) x ≡ iterate f a (iterate f b x)
  unfolding iterate
  iterate-add zero b x = rw zero-add
  iterate-add (suc a) b x = rw suc-add (ap f (iterate-add a b x))

  pub iterate_fixed : (k x : ℕ) → f x ≡ x → iterate f k x ≡ x
  unfolding iterate
  iterate_fixed zero x e = refl
  iterate_fixed (suc k) x e = ap f (iterate_fixed k x e) ∙ e

-- the orbit of x is back at x after `suc rest` steps, at most N + 1
pub record Closes (N : ℕ) (f : ℕ → ℕ) (x : ℕ) : Type 0 where
  pub rest : ℕ
  pub bound : rest ≤ N
  pub back : iterate f (suc rest) x ≡ x

module _ (f : ℕ → ℕ) (inj : (x y : ℕ) → f x ≡ f y → x ≡ y) where
  cancel : (i d x : ℕ) → iterate f i x ≡ iterate f (i + d) x → x ≡ iterate f d x
  unfolding iterate
  cancel zero d x e = rw zero-add at e
  cancel (suc i) d x e = cancel i d x (inj _ _ (rw suc-add at e))

  pub closes : (N x : ℕ) → ((k : ℕ) → iterate f k x < N) → Closes N f x
  closes N x h =
      let c = pigeonhole N (λ k. iterate f k x) (λ k l. h k) in
      let d = c.other - c.one - 1 in
      let e : iterate f c.one x ≡ iterate f (c.one + suc d) x = c.equal ∙ ap (λ k. iterate f k x) (omega arith) in
      record { rest = d; bound = omega arith; back = sym (cancel c.one (suc d) x e) }

-- ---- reaching

-- some number of steps leads from a to b
pub record Reach (f : ℕ → ℕ) (a b : ℕ) : Type 0 where
  pub steps : ℕ
  pub ends : iterate f steps a ≡ b

pub reach_trans : {f : ℕ → ℕ} {a b c : ℕ} → Reach f a b → Reach f b c → Reach f a c
reach_trans {f} r s = record { steps = s.steps + r.steps; ends = iterate-add f s.steps r.steps _ ∙ rw r.ends s.ends }

pub reach_one : (f : ℕ → ℕ) (x : ℕ) → Reach f x (f x)
unfolding iterate
reach_one f x = record { steps = 1; ends = refl }

-- one of the first p + 1 places of an orbit is b
pub record Within (f : ℕ → ℕ) (p a b : ℕ) : Type 0 where
  pub steps : ℕ
  pub few : steps ≤ p
  pub ends : iterate f steps a ≡ b

-- once round, an orbit has no more places
pub once-round : (f : ℕ → ℕ) (x p m : ℕ) → iterate f (suc p) x ≡ x → Within f p x (iterate f m x)
unfolding iterate
once-round f x p zero c = record { steps = 0; few = zero-le; ends = refl }
once-round f x p (suc m) c = let t = once-round f x p m c in next t (eq-or-lt_of_le t.few)
  where
    next : (t : Within f p x (iterate f m x)) → (t.steps ≡ p) ⊎ (t.steps < p) → Within f p x (f (iterate f m x))
    next t (inl e) = record { steps = 0; few = zero-le; ends = sym c ∙ ap (λ k. f (iterate f k x)) (sym e) ∙ ap f t.ends }
    next t (inr l) = record { steps = suc t.steps; few = l; ends = ap f t.ends }

-- ---- the least rank

min_cases : (a b : ℕ) → (min a b ≡ a) ⊎ (min a b ≡ b)
min_cases a b = go (dec_le a b)
  where
    go : Dec (a ≤ b) → (min a b ≡ a) ⊎ (min a b ≡ b)
    go (yes l) = inl (min-eq_left l)
    go (no f) = inr (min-eq_right (le_of_lt (lt_of_not-le f)))

-- a place of the orbit of a that has the rank v
pub record Attained (f κ : ℕ → ℕ) (a v : ℕ) : Type 0 where
  pub place : ℕ
  pub reached : Reach f a place
  pub rank : v ≡ κ place

module _ (f κ : ℕ → ℕ) where
  pub least_le : (k j x : ℕ) → j ≤ k → least f κ k x ≤ κ (iterate f j x)
  unfolding least iterate
  least_le zero zero x l = le_refl (κ x)
  least_le zero (suc j) x l = omega arith
  least_le (suc k) j x l = go (least_le k j x) (le-suc_iff.0 l)
    where
      go : (j ≤ k → least f κ k x ≤ κ (iterate f j x)) → (j ≤ k) ⊎ (j ≡ suc k) → least f κ (suc k) x ≤ κ (iterate f j x)
      go rec (inl m) = omega (arith, rec m)
      go rec (inr e) = rw e (min-le_right (least f κ k x) (κ (f (iterate f k x))))

  pub least_at : (k x : ℕ) → Attained f κ x (least f κ k x)
  unfolding least iterate
  least_at zero x = record { place = x; reached = record { steps = 0; ends = refl }; rank = refl }
  least_at (suc k) x = go (least_at k x) (min_cases (least f κ k x) (κ y))
    where
      y : ℕ
      y = f (iterate f k x)

      go : Attained f κ x (least f κ k x) → (min (least f κ k x) (κ y) ≡ least f κ k x) ⊎ (min (least f κ k x) (κ y) ≡ κ y)
          → Attained f κ x (min (least f κ k x) (κ y))
      go t (inl e) = record { place = t.place; reached = t.reached; rank = e ∙ t.rank }
      go t (inr e) = record { place = y; reached = record { steps = suc k; ends = refl }; rank = e }

-- ---- where every orbit closes

module _ (f : ℕ → ℕ) (N : ℕ) (closed : (x : ℕ) → Closes N f x) where
  back_from : (k x : ℕ) → Reach f (iterate f k x) x
  unfolding iterate
  back_from zero x = record { steps = 0; ends = refl }
  back_from (suc k) x =
      let y = iterate f k x in
      let c = closed y in
      reach_trans {a = f y} {b = y} {c = x} (record { steps = c.rest; ends = iterate_in f c.rest y ∙ c.back }) (back_from k x)

  pub reach_sym : {a b : ℕ} → Reach f a b → Reach f b a
  reach_sym {a} {b} r = rw r.ends at (back_from r.steps a)

  module _ (κ : ℕ → ℕ) where
    pub least-low : {a b : ℕ} → Reach f a b → least f κ N a ≤ κ b
    least-low {a} {b} r =
        let c = closed a in
        let t = once-round f a c.rest r.steps c.back in
        rw (t.ends ∙ r.ends) at (least_le f κ N t.steps a (le_trans t.few c.bound))

    least-drops : {a b : ℕ} → Reach f a b → least f κ N a ≤ least f κ N b
    least-drops {a} {b} r = let t = least_at f κ N b in rw t.rank (least-low (reach_trans r t.reached))

    -- the least rank is the same from each place of an orbit
    pub least-same : {a b : ℕ} → Reach f a b → least f κ N a ≡ least f κ N b
    least-same r = le_antisymm (least-drops r) (least-drops (reach_sym r))
