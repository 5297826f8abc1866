-- The length of `list_of n f`, its elements, and when two such lists are equal; stores of one list behind another.
use mathlib.Core.Path.{◌≡◌, refl, sym, ap, ◌∙◌}
use mathlib.Core.Logic.{◌⊎◌, inl, inr}
use mathlib.Core.List.{List, [], ◌∷◌, ◌++◌, append_assoc, append-nil}
use Prim.Native.Nat.{ℕ, zero, suc, ◌+◌, ◌-◌, ◌<◌, ◌≤◌}
use native.Mathlib.Nat.{le_refl, le_step, eq-or-lt_of_le, le_of_suc-le-suc, not-suc-le-zero, add-zero, add-suc, suc-add}
use native.Mathlib.Omega.{arith}
use native.Mathlib.Decide.{ℕ_discrete, dec_lt}
use lib.ListN.{length, get_or, set, length-append, get_or-append, get_or-eq_default}
use lib.Seq.{get_or_at, get_or-append-add, ext_get_or, get_or-set_same, get_or-set_other, sets, lt-length-sets}
use Rattle.lists.specs.Lists.{list_of, Below, Every, every-none, every_more}

-- an element of a list does not depend on the default
pub get_d_any : {A : Type 0} (l : List A) (i : ℕ) (d e : A) → i < length l → get_or l i d ≡ get_or l i e
get_d_any [] i d e h = absurd (not-suc-le-zero h)
get_d_any (x ∷ l) zero d e h = refl
get_d_any (x ∷ l) (suc i) d e h = get_d_any l i d e (le_of_suc-le-suc h)

module _ {A : Type 0} where
  pub length-list_of : (n : ℕ) (f : ℕ → A) → length (list_of n f) ≡ n
  unfolding list_of
  length-list_of zero f = refl
  length-list_of (suc n) f = simp length-append (omega (arith, length-list_of n f))

  -- f at the first a places, then at the next b
  pub list_of-append : (a b : ℕ) (f : ℕ → A) → list_of (a + b) f ≡ list_of a f ++ list_of b (λ i. f (a + i))
  unfolding list_of
  list_of-append a zero f = rw (add-zero a) (sym (append-nil (list_of a f)))
  list_of-append a (suc b) f = rw (add-suc a b, list_of-append a b f) (append_assoc (list_of a f) (list_of b (λ i. f (a + i))) _)

  pub get_or-list_of : (n : ℕ) (f : ℕ → A) (i : ℕ) (d : A) → i < n → get_or (list_of n f) i d ≡ f i
  unfolding list_of
  get_or-list_of zero f i d h = absurd (not-suc-le-zero h)
  get_or-list_of (suc n) f i d h = go (get_or-list_of n f i d) (eq-or-lt_of_le (le_of_suc-le-suc h))
    where
      go : (i < n → get_or (list_of n f) i d ≡ f i) → (i ≡ n) ⊎ (i < n) → get_or (list_of n f ++ (f n ∷ [])) i d ≡ f i
      go rec (inl e) = rw e (get_or_at (list_of n f) (f n) [] d n (length-list_of n f))
      go rec (inr l) = get_or-append (list_of n f) _ d i (rw (length-list_of n f) l) ∙ rec l

  -- past the end too, where f gives the default there
  pub get_or-list_of-all : (n : ℕ) (f : ℕ → A) (i : ℕ) (d : A) → (n ≤ i → f i ≡ d) → get_or (list_of n f) i d ≡ f i
  get_or-list_of-all n f i d past = go (dec_lt i n)
    where
      go : Dec (i < n) → get_or (list_of n f) i d ≡ f i
      go (yes l) = get_or-list_of n f i d l
      go (no l) = get_or-eq_default (list_of n f) d (rw (length-list_of n f) (omega arith)) ∙ sym (past (omega arith))

  pub list_of_ext : (n : ℕ) (f g : ℕ → A) → ((i : ℕ) → i < n → f i ≡ g i) → list_of n f ≡ list_of n g
  unfolding list_of
  list_of_ext zero f g e = refl
  list_of_ext (suc n) f g e = rw (list_of_ext n f g (λ i h. e i (le_step h)), e n (le_refl (suc n)))

  -- a shorter such list is the front of a longer one
  pub list_of-front : (f : ℕ → A) {j : ℕ} (k : ℕ) → j ≤ k → (rest : List A) × (list_of k f ≡ list_of j f ++ rest)
  unfolding list_of
  list_of-front f {j} zero l = let e : j ≡ 0 = omega arith in ([], rw e)
  list_of-front f {j} (suc k) l = go (list_of-front f {j = j} k) (eq-or-lt_of_le l)
    where
      last : List A
      last = f k ∷ []

      go : (j ≤ k → (rest : List A) × (list_of k f ≡ list_of j f ++ rest)) → (j ≡ suc k) ⊎ (j < suc k)
          → (rest : List A) × (list_of k f ++ last ≡ list_of j f ++ rest)
      go rec (inl e) = ([], rw e (sym (append-nil _)))
      go rec (inr m) =
          let t = rec (le_of_suc-le-suc m) in
          (t.0 ++ last, ap (λ (x : List A). x ++ last) t.1 ∙ append_assoc (list_of j f) t.0 last)

  -- a list is the list of its elements
  pub list_of-get_or : (l : List A) (d : A) → list_of (length l) (λ i. get_or l i d) ≡ l
  list_of-get_or l d =
      ext_get_or d _ l (length-list_of (length l) _) (λ i h. get_or-list_of (length l) _ i d (rw (length-list_of (length l) (λ i. get_or l i d)) at h))

-- a store: what holds of x at its place and of the others at theirs holds at each
pub set-each : {A : Type 0} (P : ℕ → A → Type 0) (l : List A) (i : ℕ) (x d : A) → i < length l → P i x
    → (j : ℕ) → ((j ≡ i → ⊥) → P j (get_or l j d)) → P j (get_or (set l i x) j d)
set-each P l i x d room here j rest = elim (ℕ_discrete j i) [
  | yes e ↦ rw (e, get_or-set_same l i x d room) here
  | no f ↦ rw (get_or-set_other l i j x d f) (rest f)
]

-- lists that are alike but for this place
pub set_alike : {A : Type 0} (l m : List A) (i : ℕ) (x d : A) → i < length l → i < length m
    → (j : ℕ) → ((j ≡ i → ⊥) → get_or l j d ≡ get_or m j d) → get_or (set l i x) j d ≡ get_or (set m i x) j d
set_alike l m i x d room space j alike =
    set-each (λ j y. y ≡ get_or (set m i x) j d) l i x d room (sym (get_or-set_same m i x d space)) j
    (λ f. alike f ∙ sym (get_or-set_other m i j x d f))

-- stores of one list and then of another behind it
pub sets_append : {A : Type 0} (u v l : List A) (i : ℕ) → sets l i (u ++ v) ≡ sets (sets l i u) (i + length u) v
sets_append [] v l i = rw add-zero
sets_append (a ∷ u) v l i = rw (add-suc i (length u), ← suc-add i (length u)) (sets_append u v (set l i a) (suc i))

-- stores of f 0 to f (n - 1) from the front on: what stands where
module _ {A : Type 0} (l : List A) (f : ℕ → A) where
  sets_list_of : (n : ℕ) → sets l 0 (list_of (suc n) f) ≡ set (sets l 0 (list_of n f)) n (f n)
  unfolding list_of
  sets_list_of n =
      sets_append (list_of n f) (f n ∷ []) l 0 ∙ ap (λ (m : ℕ). set (sets l 0 (list_of n f)) m (f n)) (omega (arith, length-list_of n f))

  pub get_or_sets_past : (n i : ℕ) (d : A) → n ≤ i → get_or (sets l 0 (list_of n f)) i d ≡ get_or l i d
  unfolding list_of
  get_or_sets_past zero i d h = refl
  get_or_sets_past (suc n) i d h =
      let rec = get_or_sets_past n i d (omega arith) in
      ap (λ (m : List A). get_or m i d) (sets_list_of n) ∙ get_or-set_other (sets l 0 (list_of n f)) n i (f n) d (λ e. absurd (omega arith)) ∙ rec

  pub get_d_sets : (n i : ℕ) (d : A) → i < n → i < length l → get_or (sets l 0 (list_of n f)) i d ≡ f i
  unfolding list_of
  get_d_sets zero i d h room = absurd (not-suc-le-zero h)
  get_d_sets (suc n) i d h room = go (get_d_sets n i d) (eq-or-lt_of_le (le_of_suc-le-suc h))
    where
      S : List A
      S = sets l 0 (list_of n f)

      go : (i < n → i < length l → get_or S i d ≡ f i) → (i ≡ n) ⊎ (i < n) → get_or (sets l 0 (list_of (suc n) f)) i d ≡ f i
      go rec (inl e) =
          ap (λ (m : List A). get_or m i d) (sets_list_of n)
          ∙ rw (← e) (get_or-set_same (sets l 0 (list_of i f)) i (f i) d (lt-length-sets l 0 (list_of i f) room))
      go rec (inr m) =
          ap (λ (k : List A). get_or k i d) (sets_list_of n) ∙ get_or-set_other S n i (f n) d (λ e. absurd (omega arith)) ∙ rec m room

-- ---- lists whose elements are all of a kind

module _ {A : Type 0} {P : A → Type 0} where
  pub every_append : {a b : List A} → Every P a → Every P b → Every P (a ++ b)
  every_append every-none t = t
  every_append (every_more p s) t = every_more p (every_append s t)

  pub every-list_of : (n : ℕ) (f : ℕ → A) → ((i : ℕ) → i < n → P (f i)) → Every P (list_of n f)
  unfolding list_of
  every-list_of zero f h = every-none
  every-list_of (suc n) f h = every_append (every-list_of n f (λ i l. h i (le_step l))) (every_more (h n (le_refl (suc n))) every-none)

-- ---- lists of numbers below a limit

pub below-list_of : (limit n : ℕ) (f : ℕ → ℕ) → ((i : ℕ) → i < n → f i < limit) → Below limit (list_of n f)
below-list_of limit n f h = record { each = λ i l. let m = rw (length-list_of n f) at l in rw (get_or-list_of n f i 0 m) (h i m) }

pub below-append : {limit : ℕ} {a b : List ℕ} → Below limit a → Below limit b → Below limit (a ++ b)
below-append {limit} {a} {b} ha hb = record { each = λ i l. go i l (dec_lt i (length a)) }
  where
    go : (i : ℕ) → i < length (a ++ b) → Dec (i < length a) → get_or (a ++ b) i 0 < limit
    go i l (yes m) = rw (get_or-append a b 0 i m) (ha.each i m)
    go i l (no m) =
        let e : i ≡ length a + (i - length a) = omega arith in
        rw (e, get_or-append-add a b (i - length a) 0) (hb.each (i - length a) (omega (arith, length-append a b)))

pub below-pair : {limit a b : ℕ} → a < limit → b < limit → Below limit (a ∷ b ∷ [])
below-pair {limit} {a} {b} la lb = record { each = at }
  where
    at : (i : ℕ) → i < 2 → get_or (a ∷ b ∷ []) i 0 < limit
    at zero l = la
    at (suc zero) l = lb
    at (suc (suc i)) l = absurd (omega arith)

pub below_more : {limit : ℕ} {l : List ℕ} (m : ℕ) → Below limit l → limit ≤ m → Below m l
below_more m h le = record { each = λ i l. omega (arith, h.each i l) }
