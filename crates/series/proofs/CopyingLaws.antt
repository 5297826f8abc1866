-- Stores of one list into another: one entry more, those that have no room, and what stands afterwards.
use mathlib.Core.Path.{◌≡◌, refl, sym, ap, ◌∙◌}
use mathlib.Core.List.{List, [], ◌∷◌, ◌++◌, append_assoc, append-nil}
use Prim.Native.Nat.{ℕ, ◌+◌, ◌-◌, ◌≤◌, min}
use native.Mathlib.Numerals.{add-one}
use native.Mathlib.Omega.{arith}
use native.Mathlib.Decide.{dec_le}
use borrow.Rule.Slice.PartMut.{put_mid}
use lib.ListN.{length, take, drop, set, length-append, length-drop, length-take, take-append-drop}
use lib.Seq.{sets, sets-eq, set_out, length-sets, take_at, take-length, length-take-le, drop-append-le, drop-append-add}
use Rattle.std.proofs.lemmas.List.{take-take}
use Rattle.std.proofs.lemmas.Slice.{put_mid-paste}
use Rattle.lists.specs.Lists.{list_of}
use Rattle.lists.proofs.ListsLaws.{sets_append, length-list_of}
use Rattle.fault.specs.Buffers.{over}
use Rattle.fault.proofs.BuffersLaws.{over-more}
use Rattle.series.specs.Series.{last_of}

module _ {A : Type 0} where
  -- values stored behind what is written
  pub sets_over : (new old xs : List A) → length new + length xs ≤ length old → sets (over new old) (length new) xs ≡ over (new ++ xs) old
  sets_over new old [] h = rw append-nil
  sets_over new old (x ∷ xs) h =
      let one = over-more new old x (omega arith) in
      let l = length-append new (x ∷ []) in
      rw (one, ← append_assoc new (x ∷ []) xs)
      (ap (λ n. sets (over (new ++ (x ∷ [])) old) n xs) (sym (l ∙ add-one (length new))) ∙ sets_over (new ++ (x ∷ [])) old xs (omega arith))

  -- two lists stored from the front, one behind the other
  pub sets_both : {l₁ l₂ : List A} (l a b : List A) {n : ℕ} → n ≡ length a → length a + length b ≤ length l → l₁ ≡ sets l 0 a → l₂ ≡ sets l₁ n b
      → l₂ ≡ over (a ++ b) l
  sets_both l a b e room e₁ e₂ = rw (e₂, e₁, e, sets_over [] l a (omega arith)) (sets_over a l b room)

  -- one entry more of a list that is given place by place, with what stands there and what is stored given by equations
  pub sets_list_more : {now : List A} {x : A} (to : List A) (at j : ℕ) (f : ℕ → A) → now ≡ sets to at (list_of j f) → x ≡ f j
      → set now (at + j) x ≡ sets to at (list_of (j + 1) f)
  unfolding list_of
  sets_list_more to at j f held e =
      rw (held, e) (sym (ap (λ n. sets to at (list_of n f)) (add-one j) ∙ sets_append (list_of j f) (f j ∷ []) to at
      ∙ ap (λ n. set (sets to at (list_of j f)) (at + n) (f j)) (length-list_of j f)))

  -- past the end nothing is stored
  sets_past : (vs l : List A) (i : ℕ) → length l ≤ i → sets l i vs ≡ l
  sets_past [] l i h = refl
  sets_past (a ∷ vs) l i h = rw (set_out l i a h) (sets_past vs l _ (omega arith))

  -- all that has room is stored
  pub sets_room : (from to : List A) (at n : ℕ) → n ≡ min (length from) (length to - at) → sets to at (take n from) ≡ sets to at from
  sets_room from to at n e = elim (dec_le (length from) n) [
    | yes y ↦ let whole : n ≡ length from = omega arith in rw (whole, take-length from)
    | no m ↦
        let l = length-take-le n from (omega arith) in
        let all = length-sets to at (take n from) in
        sym (ap (sets to at) (sym (take-append-drop n from)) ∙ sets_append (take n from) (drop n from) to at
        ∙ sets_past (drop n from) (sets to at (take n from)) _ (omega arith))
  ]

  -- so many entries of a list from a place on, as many as both lists have from their places on, written over a part of the other
  module _ (from to : List A) (start count at n : ℕ) (e : n ≡ min (min count (length from - start)) (length to - at)) where
    abbrev part : List A
    part = take count (drop start from)

    count_room : n ≡ min (length part) (length to - at)
    count_room = omega (arith, length-take count (drop start from), length-drop start from)

    pub copied : {k m : ℕ} {new : List A} → k ≡ n → m ≡ n → at + n ≤ length to → new ≡ take m (drop start from) → put_mid at k to new ≡ sets to at part
    copied {k} {m} {new} size count_is room copy =
        let front = take n part in
        let whole : n ≡ length front = omega (arith, length-take n part, count_room) in
        let same = ap (λ j. take j (drop start from)) count_is ∙ sym (take-take n count (drop start from) (omega (arith, count_room))) in
        put_mid-paste at k to new front n (copy ∙ same) (sym size) whole
        ∙ ap (λ l. take at to ++ l ++ drop (at + n) to) (take-take n n part (omega arith)) ∙ ap (λ j. take at to ++ front ++ drop (at + j) to) whole
        ∙ sym (sets-eq front to at (omega arith)) ∙ sets_room part to at n count_room

    -- where there is none
    pub none_copied : n ≡ 0 → to ≡ sets to at part
    none_copied none = ap (λ m. sets to at (take m part)) (sym none) ∙ sets_room part to at n count_room

  -- the last h of v values that are stored
  pub last_stored : (l out : List A) (at h v : ℕ) → length out ≡ v → h ≤ v → at + v ≤ length l → take h (drop (at + v - h) (sets l at out)) ≡ last_of h out
  last_stored l out at h v size held room =
      let front = take at l in
      let past = drop (at + length out) l in
      let begin = length-take-le at l (omega arith) in
      let place : at + v - h ≡ length front + (length out - h) = omega arith in
      let all = length-drop (length out - h) out in
      ap (λ b. take h (drop (at + v - h) b)) (sets-eq out l at (omega arith) ∙ append_assoc front out past)
      ∙ ap (λ m. take h (drop m (front ++ (out ++ past)))) place
      ∙ ap (take h) (drop-append-add front (out ++ past) (length out - h) ∙ drop-append-le (length out - h) out past (omega arith))
      ∙ take_at (last_of h out) past h (omega arith)
