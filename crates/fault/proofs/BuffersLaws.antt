-- Laws of buffers that are written from the front, and of calls that check and then write.
use mathlib.Core.Path.{◌≡◌, refl, sym, ap, ◌∙◌}
use mathlib.Core.List.{List, [], ◌∷◌, ◌++◌, append_assoc, append-nil}
use Prim.Native.Nat.{ℕ, zero, suc, ◌+◌, ◌<◌, min}
use native.Mathlib.Nat.{min_comm, min-le_right}
use native.Mathlib.Omega.{arith}
use native.Mathlib.Numerals.{add-one}
use lib.ListN.{length, get_or, set, take, drop, length-append, length-take, drop_of_length-le}
use lib.Seq.{set_at, drop-cons, ext_get_or, get_or-take, take_all}
use Rattle.lists.specs.Lists.{list_of}
use Rattle.lists.proofs.ListsLaws.{length-list_of, get_or-list_of}
use Rattle.fault.specs.declared.Fault.{Fault}
use Rattle.std.specs.Prelude.{Result, Ok, Err}
use Rattle.fault.specs.Number.{fault_number, answer_number}
use Rattle.fault.specs.Buffers.{over, filled}
use Rattle.fault.proofs.ChecksLaws.{number-positive, answer-passes, answer-refuses}

-- one entry more
pub over-more : {A : Type 0} (new old : List A) (x : A) → length new < length old → set (over new old) (length new) x ≡ over (new ++ (x ∷ [])) old
over-more new old x h =
    rw (length-append new (x ∷ []), append_assoc new (x ∷ []), add-one (length new), drop-cons old (length new) x h)
    (set_at new (get_or old (length new) x) (drop (suc (length new)) old) x (length new) refl)

-- one entry more of a list that is given place by place
pub list_of-over : {A : Type 0} (n : ℕ) (f : ℕ → A) (old : List A) → n < length old
    → set (over (list_of n f) old) n (f n) ≡ over (list_of (n + 1) f) old
unfolding list_of
list_of-over n f old h =
    let l = length-list_of n f in
    rw (add-one n) (ap (λ m. set (over (list_of n f) old) m (f n)) (sym l) ∙ over-more (list_of n f) old (f n) (omega arith))

-- the same, with what stands in the buffer and what is stored given by equations
pub list-step : {A : Type 0} (old : List A) {l : List A} (i : ℕ) {v : A} (f : ℕ → A) → l ≡ over (list_of i f) old → v ≡ f i → i < length old
    → set l i v ≡ over (list_of (i + 1) f) old
list-step old i f held e room = rw (held, e) (list_of-over i f old room)

listed-take : {A : Type 0} (from : List A) (n : ℕ) (d : A) → list_of (min (length from) n) (λ j. get_or from j d) ≡ take n from
listed-take from n d =
    let k = min (length from) n in
    let l = length-list_of k (λ j. get_or from j d) in
    ext_get_or d _ _ (l ∙ min_comm (length from) n ∙ sym (length-take n from)) (λ i h.
    let m : i < k = rw l at h in
    get_or-list_of k _ i d m ∙ sym (get_or-take n from i d (omega (arith, min-le_right (length from) n))))

-- copying ended where one of the lists did
pub copied-front : {A : Type 0} (from to : List A) {l : List A} (i : ℕ) (d : A) → l ≡ over (list_of i (λ j. get_or from j d)) to → i ≡ min (length from) (length to)
    → l ≡ over (take (length to) from) to
copied-front from to i d e at = e ∙ ap (λ t. over t to) (ap (λ n. list_of n (λ j. get_or from j d)) at ∙ listed-take from (length to) d)

-- a list is copied whole into one of its length
pub copied_whole : {A : Type 0} (from to : List A) {new : List A} → new ≡ over (take (length to) from) to → length from ≡ length to → new ≡ from
copied_whole from to e size =
    e ∙ ap (λ l. over l to) (take_all (length to) from (omega arith))
    ∙ ap (λ l. from ++ l) (drop_of_length-le to {i = length from} (omega arith)) ∙ append-nil from

-- on a refusal the buffer is as it was
pub filled-refused : {A : Type 0} (f : Fault) (n : ℕ) (new old : List A) → fault_number f ≡ n → old ≡ filled n new old
filled-refused f zero new old e = absurd (omega (arith, number-positive f))
filled-refused f (suc n) new old e = refl

-- where no check fails it begins with what was written
pub filled-done : {A : Type 0} (n : ℕ) (new old : List A) → 0 ≡ n → over new old ≡ filled n new old
filled-done n new old e = rw (← e)

-- what is written matters only where no check fails
pub filled-same : {A : Type 0} (n : ℕ) {a b : List A} (old : List A) → (n ≡ 0 → a ≡ b) → filled n a old ≡ filled n b old
filled-same zero old e = ap (λ new. over new old) (e refl)
filled-same (suc n) old e = refl

-- where nothing is written the buffer is as it was
pub filled_none : {A : Type 0} (n : ℕ) (old : List A) → filled n [] old ≡ old
filled_none zero old = refl
filled_none (suc n) old = refl

-- a buffer that begins with what is written is as the call leaves it where no check fails
pub is-filled : {A : Type 0} (n : ℕ) (new old l : List A) → l ≡ over new old → 0 ≡ n → l ≡ filled n new old
is-filled n new old l e z = e ∙ filled-done n new old z

-- ---- calls that check, and then write. The checks answered r, where their definition gives n

-- what the call answers, and two buffers that are lent to it: on a refusal as they were, otherwise filled
module _ {A B C : Type 0} (new₁ old₁ : List A) (new₂ old₂ : List B) {r : Result C Fault} {n : ℕ} (is : answer_number r ≡ n) where
  pub refuses-both : {f : Fault} → r ≡ Err f
      → (fault_number f ≡ n) × ((old₁ ≡ filled n new₁ old₁) × (old₂ ≡ filled n new₂ old₂))
  refuses-both {f} told = let e = answer-refuses told is in (e, (filled-refused f n new₁ old₁ e, filled-refused f n new₂ old₂ e))

  pub fills_both : {l₁ : List A} {l₂ : List B} {x : C} → r ≡ Ok x → l₁ ≡ over new₁ old₁ → l₂ ≡ over new₂ old₂
      → (0 ≡ n) × ((l₁ ≡ filled n new₁ old₁) × (l₂ ≡ filled n new₂ old₂))
  fills_both {l₁} {l₂} told e₁ e₂ = let z = answer-passes told is in (z, (is-filled n new₁ old₁ l₁ e₁ z, is-filled n new₂ old₂ l₂ e₂ z))
