-- A partial injection, completed in rising order, is one to one, and the rule fixes it. No more places are taken than numbers have one,
-- so there is a free place for each idle number. A later idle number has more of them before it, and so a later place.
use mathlib.Core.Path.{◌≡◌, refl, sym, ap, ◌∙◌}
use mathlib.Core.Logic.{◌≢◌, ◌⊎◌, inl, inr}
use mathlib.Core.Bool.{Bool, true, false, not, ◌&&◌, ◌||◌, or-true, or-false}
use Prim.Native.Nat.{ℕ, zero, suc, ◌≤◌, ◌<◌}
use native.Mathlib.Nat.{le_refl, le_step, le_of_suc-le-suc, not-suc-le-zero, eq-or-lt_of_le}
use native.Mathlib.Decide.{ℕ_discrete}
use native.Mathlib.Omega.{arith}
use borrow.Author.Tests.{eq-eqb, ne_eqb, lt-ltb, le-ltb}
use lib.Dec.{eqb, ltb}
use Rattle.lists.specs.Counting.{one_if, count_of}
use Rattle.lists.proofs.CountingLaws.{passed, both_ways, not_fails, or_le, one_lt, count_none, count-rest, count-before, count_later}
use Rattle.lists.proofs.CountingLaws.{NthOf, nth_at, count_cover, count-single}
use Rattle.block_networks.specs.Permutation.{Perm}
use Rattle.block_networks.specs.Wanted.{taker_of}
use Rattle.block_networks.specs.Completion.{is_taken, is_idle, is_free, completed, Left, FilledBy, RisingCompletion}
use Rattle.block_networks.proofs.Loops.{flipped, perm_lt}
use Rattle.block_networks.proofs.WantedLaws.{taker-perm}

-- no two of the numbers below N have the same place, and the places are below N
pub record PartialInjection (N : ℕ) (has : ℕ → Bool) (f : ℕ → ℕ) : Type 0 where
  pub below : (x : ℕ) → x < N → has x ≡ true → f x < N
  pub once : (x y : ℕ) → x < N → y < N → has x ≡ true → has y ≡ true → f x ≡ f y → x ≡ y

-- ---- taken places

module _ (has : ℕ → Bool) (f : ℕ → ℕ) where
  pub taken_here : (n p x : ℕ) → x < n → has x ≡ true → f x ≡ p → is_taken has f n p ≡ true
  unfolding is_taken
  taken_here zero p x l h e = absurd (not-suc-le-zero l)
  taken_here (suc n) p x l h e = go (taken_here n p x) (eq-or-lt_of_le (le_of_suc-le-suc l))
    where
      go : (x < n → has x ≡ true → f x ≡ p → is_taken has f n p ≡ true) → (x ≡ n) ⊎ (x < n) → ((has n && eqb (f n) p) || is_taken has f n p) ≡ true
      go rec (inl q) = rw (rw q at h, eq-eqb (f n) p (rw q at e))
      go rec (inr m) = rw (rec m h e) (or-true (has n && eqb (f n) p))

  pub taken_nowhere : (n p : ℕ) → ((x : ℕ) → x < n → has x ≡ true → f x ≢ p) → is_taken has f n p ≡ false
  unfolding is_taken
  taken_nowhere zero p g = refl
  taken_nowhere (suc n) p g = rw (taken_nowhere n p (λ x l. g x (le_step l)), or-false (has n && eqb (f n) p)) (go (passed (has n)))
    where
      go : (has n ≡ true) ⊎ (has n ≡ false) → (has n && eqb (f n) p) ≡ false
      go (inl e) = rw (e, ne_eqb (f n) p (g n (le_refl (suc n)) e))
      go (inr e) = rw e

  -- the number below n whose place is p
  pub record Taken (n p : ℕ) : Type 0 where
    pub number : ℕ
    pub low : number < n
    pub has-place : has number ≡ true
    pub there : f number ≡ p

  pub taken_by : (n p : ℕ) → is_taken has f n p ≡ true → Taken n p
  unfolding is_taken
  taken_by zero p e = absurd (both_ways e refl)
  taken_by (suc n) p e = go (taken_by n p) (passed (has n)) (ℕ_discrete (f n) p)
    where
      wider : Taken n p → Taken (suc n) p
      wider t = record { number = t.number; low = le_step t.low; has-place = t.has-place; there = t.there }

      go : (is_taken has f n p ≡ true → Taken n p) → (has n ≡ true) ⊎ (has n ≡ false) → Dec (f n ≡ p) → Taken (suc n) p
      go rec (inl h) (yes q) = record { number = n; low = le_refl (suc n); has-place = h; there = q }
      go rec (inl h) (no d) = wider (rec (rw (h, ne_eqb (f n) p d) at e))
      go rec (inr h) d = wider (rec (rw h at e))

  -- no more places are taken than numbers have one
  taken-few : (N n : ℕ) → count_of (is_taken has f n) N ≤ count_of has n
  unfolding count_of is_taken
  taken-few N zero = rw (count_none (λ p. false) (λ p. refl) N) (le_refl 0)
  taken-few N (suc n) =
      let own : ℕ → Bool = λ p. has n && eqb (f n) p in
      let all : ℕ → Bool = λ p. own p || is_taken has f n p in
      omega (arith, taken-few N n, count_cover all (is_taken has f n) own (λ p. or_le (own p) (is_taken has f n p)) N, go (passed (has n)))
    where
      go : (has n ≡ true) ⊎ (has n ≡ false) → count_of (λ p. has n && eqb (f n) p) N ≤ one_if (has n)
      go (inl e) = rw (e, count-single (f n) N) (le_of_suc-le-suc (one_lt (ltb (f n) N)))
      go (inr e) = rw (e, count_none (λ p. false) (λ p. refl) N) (le_refl 0)

-- ---- the completion

module _ (N : ℕ) {has : ℕ → Bool} {f : ℕ → ℕ} (I : PartialInjection N has f) where
  -- the completion
  abbrev g : ℕ → ℕ
  g = completed N has f

  completed-past : (x : ℕ) → N ≤ x → g x ≡ x
  unfolding completed
  completed-past x l = rw (le-ltb x N l)

  pub completed-given : (x : ℕ) → x < N → has x ≡ true → g x ≡ f x
  unfolding completed
  completed-given x l e = rw (lt-ltb x N l, e)

  -- an idle number's place is free, and has as many free ones before it as there are idle numbers before the number
  completed-idle : (x : ℕ) → x < N → has x ≡ false → NthOf (is_free N has f) N (count_of (is_idle has) x) (g x)
  unfolding completed
  completed-idle x l e =
      let idle = count-rest has N in
      let free = count-rest (is_taken has f N) N in
      let enough = taken-few has f N N in
      let h = count-before (is_idle has) x N l (ap not e) in
      rw (lt-ltb x N l, e) (nth_at (is_free N has f) N (count_of (is_idle has) x) (omega arith))

  completed-left : (x : ℕ) → x < N → has x ≡ false → Left N has f (g x)
  completed-left x l e =
      let t = completed-idle x l e in
      record { low = t.low; other = λ y m h q. both_ways (taken_here has f N (g x) y m h q) (not_fails t.passes) }

  completed-rising : (x y : ℕ) → x < y → y < N → has x ≡ false → has y ≡ false → g x < g y
  completed-rising x y m l ex ey =
      let a = completed-idle x (omega arith) ex in
      let b = completed-idle y l ey in
      count_later (is_free N has f) (g x) (g y) (omega (arith, a.rank, b.rank, count-before (is_idle has) x y m (ap not ex)))

  completed_lt : (x : ℕ) → x < N → g x < N
  completed_lt x l = go (passed (has x))
    where
      go : (has x ≡ true) ⊎ (has x ≡ false) → g x < N
      go (inl e) = rw (completed-given x l e) (I.below x l e)
      go (inr e) = (completed-left x l e).low

  idle-once : (x y : ℕ) → x < N → y < N → has x ≡ false → has y ≡ false → g x ≡ g y → x ≡ y
  idle-once x y lx ly ex ey e =
      let late : ¬ (x < y) = λ m. omega (arith, completed-rising x y m ly ex ey) in
      let early : ¬ (y < x) = λ m. omega (arith, completed-rising y x m lx ey ex) in
      omega arith

  completed-once : (x y : ℕ) → x < N → y < N → g x ≡ g y → x ≡ y
  completed-once x y lx ly e = go (passed (has x)) (passed (has y))
    where
      go : (has x ≡ true) ⊎ (has x ≡ false) → (has y ≡ true) ⊎ (has y ≡ false) → x ≡ y
      go (inl hx) (inl hy) = I.once x y lx ly hx hy (sym (completed-given x lx hx) ∙ e ∙ completed-given y ly hy)
      go (inl hx) (inr hy) = absurd ((completed-left y ly hy).other x lx hx (sym (completed-given x lx hx) ∙ e))
      go (inr hx) (inl hy) = absurd ((completed-left x lx hx).other y ly hy (sym (completed-given y ly hy) ∙ sym e))
      go (inr hx) (inr hy) = idle-once x y lx ly hx hy e

  -- it is one to one
  pub completed-perm : Perm N (completed N has f) (taker_of N (completed N has f))
  completed-perm = taker-perm N g completed_lt completed-past completed-once

  completed-filled : (p : ℕ) → Left N has f p → FilledBy N has g p
  completed-filled p q = go (passed (has x))
    where
      x : ℕ
      x = taker_of N g p

      there : g x ≡ p
      there = completed-perm.fro p

      low : x < N
      low = perm_lt (flipped completed-perm) p q.low

      go : (has x ≡ true) ⊎ (has x ≡ false) → FilledBy N has g p
      go (inl e) = absurd (q.other x low e (sym (completed-given x low e) ∙ there))
      go (inr e) = record { number = x; low = low; idle = e; goes = there }

  -- and it follows the rule
  pub completed-rule : RisingCompletion N has f (completed N has f)
  completed-rule = record { given = completed-given; rising = completed-rising; to-left = completed-left; filled = completed-filled }

-- ---- the rule fixes it

module _ {N : ℕ} {has : ℕ → Bool} {f : ℕ → ℕ} where
  rising-back : {h : ℕ → ℕ} → RisingCompletion N has f h → (x y : ℕ) → x < N → y < N → has x ≡ false → has y ≡ false → h x < h y → x < y
  rising-back {h} H x y lx ly ex ey m =
      let late : ¬ (y < x) = λ k. omega (arith, H.rising y x k lx ey ex) in
      let other : x ≢ y = λ e. omega (arith, ap h e) in
      omega arith

  -- where g and h agree on the idle numbers before x, g does not take x to an earlier place
  not_earlier : {g h : ℕ → ℕ} → RisingCompletion N has f g → RisingCompletion N has f h → (x : ℕ) → x < N → has x ≡ false
      → ((z : ℕ) → z < x → has z ≡ false → g z ≡ h z) → g x < h x → ⊥
  not_earlier {g} {h} G H x l e same m =
      let t = H.filled (g x) (G.to-left x l e) in
      let z = t.number in
      let k : z < x = rising-back H z x t.low l t.idle e (omega (arith, t.goes)) in
      omega (arith, G.rising z x k l t.idle e, same z k t.idle, t.goes)

  idle-same : {g h : ℕ → ℕ} → RisingCompletion N has f g → RisingCompletion N has f h → (k x : ℕ) → x < k → x < N → has x ≡ false → g x ≡ h x
  idle-same G H zero x m l e = absurd (not-suc-le-zero m)
  idle-same {g} {h} G H (suc k) x m l e =
      let ih : (z : ℕ) → z < x → has z ≡ false → g z ≡ h z = λ z b. idle-same G H k z (omega arith) (omega arith) in
      let early : ¬ (g x < h x) = not_earlier G H x l e ih in
      let late : ¬ (h x < g x) = not_earlier H G x l e (λ z q i. sym (ih z q i)) in
      omega arith

  -- two maps that follow the rule are equal
  pub completion_only : {g h : ℕ → ℕ} → RisingCompletion N has f g → RisingCompletion N has f h → (x : ℕ) → x < N → g x ≡ h x
  completion_only {g} {h} G H x l = go (passed (has x))
    where
      go : (has x ≡ true) ⊎ (has x ≡ false) → g x ≡ h x
      go (inl e) = G.given x l e ∙ sym (H.given x l e)
      go (inr e) = idle-same G H (suc x) x (le_refl (suc x)) l e
