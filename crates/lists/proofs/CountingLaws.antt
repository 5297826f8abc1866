-- Counts grow with the limit, by one where a number passes; so a later number that passes has more before it, and the n-th is the only one. Sums grow
-- likewise, by a term; so counts of classes, each of n in just one of them, add up to n.
use mathlib.Core.Path.{◌≡◌, refl, sym, ap, ◌∙◌}
use mathlib.Core.Logic.{◌⊎◌, inl, inr}
use mathlib.Core.Bool.{Bool, true, false, cond, not, ◌&&◌, ◌||◌}
use Prim.Native.Nat.{ℕ, zero, suc, ◌+◌, ◌≤◌, ◌<◌}
use native.Mathlib.Nat.{le_refl, le_step, le_of_suc-le-suc, not-suc-le-zero, eq-or-lt_of_le}
use native.Mathlib.Decide.{ℕ_discrete, dec_lt}
use native.Mathlib.Omega.{arith}
use borrow.Author.Tests.{eq-eqb, ne_eqb, lt-ltb, le-ltb}
use lib.Dec.{eqb, ltb, eqb-suc-suc}
use Rattle.lists.specs.Counting.{one_if, count_of, nth_of, sum_of}

-- ---- tests

-- a test is passed or not
pub passed : (b : Bool) → (b ≡ true) ⊎ (b ≡ false)
passed true = inl refl
passed false = inr refl

pub both_ways : {b : Bool} → b ≡ true → b ≡ false → ⊥
both_ways t f = let z : ◌≡◌ {A = ℕ} 1 0 = ap one_if (sym t ∙ f) in omega arith

pub not_fails : {b : Bool} → not b ≡ true → b ≡ false
not_fails {b} e = elim (passed b) [ inl t ↦ absurd (both_ways e (ap not t)) | inr f ↦ f ]

-- one or the other counts at most for both
pub or_le : (a b : Bool) → one_if (a || b) ≤ one_if b + one_if a
or_le true true = omega arith
or_le true false = omega arith
or_le false b = omega arith

pub one_lt : (b : Bool) → one_if b < 2
one_lt true = omega arith
one_lt false = omega arith

one-rest : (b : Bool) → one_if b + one_if (not b) ≡ 1
one-rest true = refl
one-rest false = refl

-- ---- counting

module _ (test : ℕ → Bool) where
  pub count_le : (n : ℕ) → count_of test n ≤ n
  unfolding count_of
  count_le zero = omega arith
  count_le (suc n) = omega (arith, count_le n, one_lt (test n))

  pub count_none : ((i : ℕ) → test i ≡ false) → (n : ℕ) → count_of test n ≡ 0
  unfolding count_of
  count_none e zero = refl
  count_none e (suc n) = rw (count_none e n, e n)

  -- those that pass and those that do not
  pub count-rest : (n : ℕ) → count_of test n + count_of (λ i. not (test i)) n ≡ n
  unfolding count_of
  count-rest zero = refl
  count-rest (suc n) = omega (arith, count-rest n, one-rest (test n))

  count_mono : (a b : ℕ) → a ≤ b → count_of test a ≤ count_of test b
  unfolding count_of
  count_mono a zero h = let e : a ≡ 0 = omega arith in rw e (le_refl _)
  count_mono a (suc b) h = go (count_mono a b) (eq-or-lt_of_le h)
    where
      go : (a ≤ b → count_of test a ≤ count_of test b) → (a ≡ suc b) ⊎ (a < suc b) → count_of test a ≤ count_of test b + one_if (test b)
      go rec (inl e) = rw e (le_refl _)
      go rec (inr l) = omega (arith, rec (le_of_suc-le-suc l))

  -- a number that passes counts for the later ones
  pub count-before : (a b : ℕ) → a < b → test a ≡ true → count_of test a < count_of test b
  unfolding count_of
  count-before a b l e = let h = count_mono (suc a) b l in omega (arith, rw e at h)

  -- so with more before it a number comes later
  pub count_later : (a b : ℕ) → count_of test a < count_of test b → a < b
  count_later a b l = let f : ¬ (b ≤ a) = λ h. omega (arith, count_mono b a h) in omega arith

  -- where none passes before y, none below it does
  pub none_before : (y g : ℕ) → count_of test y ≡ 0 → g < y → test g ≡ false
  none_before y g e l = elim (passed (test g)) [ inl t ↦ absurd (omega (arith, count-before g y l t)) | inr f ↦ f ]

  -- y passes the test after just r others
  pub record NthOf (n r y : ℕ) : Type 0 where
    pub low : y < n
    pub passes : test y ≡ true
    pub rank : count_of test y ≡ r

  pub nth_at : (n r : ℕ) → r < count_of test n → NthOf n r (nth_of test n r)
  unfolding count_of nth_of
  nth_at zero r h = absurd (not-suc-le-zero h)
  nth_at (suc n) r h = go (nth_at n r) (passed (test n)) (ℕ_discrete (count_of test n) r)
    where
      wider : {y : ℕ} → NthOf n r y → NthOf (suc n) r y
      wider t = record { low = le_step t.low; passes = t.passes; rank = t.rank }

      go : (r < count_of test n → NthOf n r (nth_of test n r)) → (test n ≡ true) ⊎ (test n ≡ false) → Dec (count_of test n ≡ r)
          → NthOf (suc n) r (cond (test n && eqb (count_of test n) r) n (nth_of test n r))
      go rec (inl e) (yes q) = rw (e, eq-eqb (count_of test n) r q) (record { low = le_refl (suc n); passes = e; rank = q })
      go rec (inl e) (no f) = rw (e, ne_eqb (count_of test n) r f) (wider (rec (omega (arith, rw e at h))))
      go rec (inr e) d = rw e (wider (rec (omega (arith, rw e at h))))

-- the first that passes is the one that none passes before
pub nth_lowest : (test : ℕ → Bool) (n y : ℕ) → y < n → test y ≡ true → ((i : ℕ) → i < y → test i ≡ false) → nth_of test n 0 ≡ y
nth_lowest test n y l e lower =
    let some = count-before test y n l e in
    let t = nth_at test n 0 (omega arith) in
    let above : ¬ (nth_of test n 0 < y) = λ h. both_ways t.passes (lower _ h) in
    let below : ¬ (y < nth_of test n 0) = λ h. both_ways e (none_before test _ y t.rank h) in
    omega arith

-- where each of n passes, all do
pub each-passes : (test : ℕ → Bool) (n : ℕ) → ((i : ℕ) → i < n → test i ≡ true) → count_of test n ≡ n
unfolding count_of
each-passes test zero e = refl
each-passes test (suc n) e = rw (each-passes test n (λ i l. e i (le_step l)), e n (le_refl (suc n))) (omega arith)

-- where all of n pass, each does
pub all_pass : (test : ℕ → Bool) (n : ℕ) → count_of test n ≡ n → (g : ℕ) → g < n → test g ≡ true
all_pass test n e g l = elim (passed (test g)) [
  | inl t ↦ t
  | inr f ↦ absurd (omega (arith, count-rest test n, count-before (λ i. not (test i)) g n l (rw f)))
]

-- tests that agree below n count alike, and find the same number
pub count_ext : (a b : ℕ → Bool) (n : ℕ) → ((i : ℕ) → i < n → a i ≡ b i) → count_of a n ≡ count_of b n
unfolding count_of
count_ext a b zero e = refl
count_ext a b (suc n) e = rw (count_ext a b n (λ i l. e i (le_step l)), e n (le_refl (suc n)))

-- tests that differ at one place alone
pub count_changed : (a b : ℕ → Bool) (n at : ℕ) → at < n → ((i : ℕ) → (i ≡ at → ⊥) → a i ≡ b i)
    → count_of a n + one_if (b at) ≡ count_of b n + one_if (a at)
unfolding count_of
count_changed a b zero at l e = absurd (not-suc-le-zero l)
count_changed a b (suc n) at l e =
    let ih = count_changed a b n at in
    elim (ℕ_discrete at n) [
      | yes y ↦ rw y (omega (arith, count_ext a b n (λ i m. e i (λ h. absurd (omega arith)))))
      | no d ↦ omega (arith, ih (omega arith) e, ap one_if (e n (λ h. d (sym h))))
    ]

pub nth_ext : (a b : ℕ → Bool) (n r : ℕ) → ((i : ℕ) → i < n → a i ≡ b i) → nth_of a n r ≡ nth_of b n r
unfolding nth_of
nth_ext a b zero r e = refl
nth_ext a b (suc n) r e =
    rw (nth_ext a b n r (λ i l. e i (le_step l)), count_ext a b n (λ i l. e i (le_step l)), e n (le_refl (suc n)))

-- a number that passes is counted
pub count-one : (test : ℕ → Bool) (n at : ℕ) → at < n → one_if (test at) ≤ count_of test n
count-one test n at l = elim (passed (test at)) [ inl t ↦ rw t (omega (arith, count-before test at n l t)) | inr f ↦ rw f (omega arith) ]

-- where none of n passes, there is none
pub none_passes : (test : ℕ → Bool) (n : ℕ) → ((i : ℕ) → i < n → test i ≡ false) → count_of test n ≡ 0
none_passes test n e = count_ext test (λ _. false) n e ∙ count_none (λ _. false) (λ _. refl) n

-- one test counts for two, or at most for two
pub count-sum : (a b c : ℕ → Bool) → ((i : ℕ) → one_if (a i) ≡ one_if (b i) + one_if (c i)) → (n : ℕ) → count_of a n ≡ count_of b n + count_of c n
unfolding count_of
count-sum a b c e zero = refl
count-sum a b c e (suc n) = omega (arith, e n, count-sum a b c e n)

pub count_cover : (a b c : ℕ → Bool) → ((i : ℕ) → one_if (a i) ≤ one_if (b i) + one_if (c i)) → (n : ℕ) → count_of a n ≤ count_of b n + count_of c n
unfolding count_of
count_cover a b c e zero = omega arith
count_cover a b c e (suc n) = omega (arith, e n, count_cover a b c e n)

-- below suc m is below m, or m
pub one_more : (v m : ℕ) → one_if (ltb v (suc m)) ≡ one_if (ltb v m) + one_if (eqb v m)
one_more v m = go (dec_lt v m) (ℕ_discrete v m)
  where
    go : Dec (v < m) → Dec (v ≡ m) → one_if (ltb v (suc m)) ≡ one_if (ltb v m) + one_if (eqb v m)
    go (yes l) d = rw (lt-ltb v (suc m) (le_step l), lt-ltb v m l, ne_eqb v m (λ e. absurd (omega arith)))
    go (no f) (yes e) = rw (lt-ltb v (suc m) (omega arith), le-ltb v m (omega arith), eq-eqb v m e)
    go (no f) (no g) = rw (le-ltb v (suc m) (omega arith), le-ltb v m (omega arith), ne_eqb v m g)

-- at most one number is v
pub count-single : (v n : ℕ) → count_of (eqb v) n ≡ one_if (ltb v n)
unfolding count_of
count-single v zero = rw (le-ltb v 0 (omega arith))
count-single v (suc n) = rw (count-single v n) (sym (one_more v n))

-- one number of 1 to m is v, where v is one of them
pub count-named : (v m : ℕ) → 1 ≤ v → v ≤ m → count_of (λ w. eqb v (suc w)) m ≡ 1
count-named zero m some few = absurd (omega arith)
count-named (suc v) m some few =
    count_ext (λ w. eqb (suc v) (suc w)) (eqb v) m (λ w l. eqb-suc-suc v w) ∙ count-single v m ∙ rw (lt-ltb v m few)

-- ---- sums

-- terms that are equal below n have equal sums
pub sum_ext : (f g : ℕ → ℕ) (n : ℕ) → ((i : ℕ) → i < n → f i ≡ g i) → sum_of f n ≡ sum_of g n
unfolding sum_of
sum_ext f g zero e = refl
sum_ext f g (suc n) e = rw (sum_ext f g n (λ i l. e i (le_step l)), e n (le_refl (suc n)))

-- the sum of sums
pub sum-add : (f g : ℕ → ℕ) (n : ℕ) → sum_of (λ i. f i + g i) n ≡ sum_of f n + sum_of g n
unfolding sum_of
sum-add f g zero = refl
sum-add f g (suc n) = omega (arith, sum-add f g n)

sum-none : (n : ℕ) → sum_of (λ i. 0) n ≡ 0
unfolding sum_of
sum-none zero = refl
sum-none (suc n) = omega (arith, sum-none n)

-- a count is a sum of ones
sum_ones : (test : ℕ → Bool) (n : ℕ) → sum_of (λ i. one_if (test i)) n ≡ count_of test n
unfolding sum_of count_of
sum_ones test zero = refl
sum_ones test (suc n) = omega (arith, sum_ones test n)

-- m classes, of which each of n numbers is in just one: their counts add up to n
pub sum_classes : (in-class : ℕ → ℕ → Bool) (n m : ℕ) → ((i : ℕ) → i < n → count_of (in-class i) m ≡ 1)
    → sum_of (λ w. count_of (λ i. in-class i w) n) m ≡ n
unfolding count_of
sum_classes in-class zero m one = sum-none m
sum_classes in-class (suc n) m one =
    let rest = sum_classes in-class n m (λ i l. one i (le_step l)) in
    let last = sum_ones (in-class n) m ∙ one n (le_refl (suc n)) in
    sum-add (λ w. count_of (λ i. in-class i w) n) (λ w. one_if (in-class n w)) m ∙ omega (arith, rest, last)
