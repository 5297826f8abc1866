-- Text that is put behind text: what is put in two steps is put at once. So the text of a call that makes several others is theirs in order.
use mathlib.Core.Path.{◌≡◌, refl, sym, ap, ap₂, subst, ◌∙◌}
use mathlib.Core.List.{List, [], ◌∷◌, ◌++◌, append_assoc, append-nil}
use Prim.Native.Nat.{ℕ, zero, suc, ◌+◌, ◌-◌, ◌≤◌, ◌<◌, min}
use native.Mathlib.Omega.{arith}
use lib.ListN.{length, get_or, take, drop, set, length-append, length-take}
use lib.Seq.{take-suc, take_all, take-append_seam, drop-append-add, drop-drop, drop-length, length-take-le, set_split, append_snoc}
use Rattle.fault.specs.Buffers.{over}
use Rattle.fault.proofs.PartsLaws.{length_over}
use Rattle.console.specs.Text.{text_with, Puts}

-- ---- the text

module _ (L : List ℕ) (at : ℕ) (a : List ℕ) where
  abbrev text : List ℕ
  text = text_with L at a

  text-within : length text ≤ length L
  text-within = rw (length-take (length L) (take at L ++ a)) (omega arith)

  length-put : length (over text L) ≡ length L
  length-put = length_over text L text-within

  -- it stands at the front
  text-stands : take (length text) (over text L) ≡ text
  text-stands = take-append_seam text (drop (length text) L)

  pub puts_text : Puts L at a (over text L) (length text)
  puts_text = record { is_after = refl; is_long = refl; counted = (rw length-put text-within, ap length (sym text-stands)) }

-- what does not fit is left out once
cut_again : (n : ℕ) (x b : List ℕ) → take n (take n x ++ b) ≡ take n (x ++ b)
cut_again zero x b = refl
cut_again (suc n) [] b = refl
cut_again (suc n) (y ∷ x) b = ap (λ (r : List ℕ). y ∷ r) (cut_again n x b)

-- ---- more behind it

module _ (L : List ℕ) (at : ℕ) (a b : List ℕ) where
  abbrev first : List ℕ
  first = text_with L at a

  abbrev both : List ℕ
  both = text_with L at (a ++ b)

  text-more : text_with (over first L) (length first) b ≡ both
  text-more =
      rw (text-stands L at a, length-put L at a) (cut_again (length L) (take at L ++ a) b)
      ∙ ap (λ (t : List ℕ). take (length L) t) (append_assoc (take at L) a b)

  text_longer : length first ≤ length both
  text_longer =
      rw (length-take (length L) (take at L ++ a), length-take (length L) (take at L ++ (a ++ b)), length-append (take at L) a)
      (rw (length-append (take at L) (a ++ b), length-append a b) (omega arith))

  put-more : over both (over first L) ≡ over both L
  put-more =
      let m : ℕ = length both - length first in
      let e : length both ≡ length first + m = omega (arith, text_longer) in
      ap (λ (r : List ℕ). both ++ r)
      (ap (λ n. drop n (over first L)) e ∙ drop-append-add first (drop (length first) L) m ∙ drop-drop m (length first) L ∙ ap (λ n. drop n L) (sym e))

-- what is put in two steps is put at once
pub puts_more : {L M P a b : List ℕ} {at n r : ℕ} → Puts L at a M n → Puts M n b P r → Puts L at (a ++ b) P r
puts_more {L} {M} {P} {a} {b} {at} {n} {r} p q = record {
  is_after = q.is_after ∙ ap₂ (λ (M : List ℕ) (n : ℕ). over (text_with M n b) M) p.is_after p.is_long
      ∙ ap (λ (t : List ℕ). over t (over (first L at a b) L)) (text-more L at a b) ∙ put-more L at a b;
  is_long = q.is_long ∙ ap₂ (λ (M : List ℕ) (n : ℕ). length (text_with M n b)) p.is_after p.is_long ∙ ap length (text-more L at a b);
  counted = q.counted;
}

-- ---- a byte, or nothing

module _ {L : List ℕ} {at : ℕ} {a : List ℕ} where
  -- the text is known
  puts_is : {t after : List ℕ} {long : ℕ} → text_with L at a ≡ t → after ≡ over t L → long ≡ length t → Puts L at a after long
  puts_is e f g =
      record { is_after = f ∙ ap (λ (x : List ℕ). over x L) (sym e); is_long = g ∙ ap length (sym e); counted = rw (f, g, ← e) (puts_text L at a).counted }

  -- no room
  pub puts_full : length L ≤ at → Puts L at a L (length L)
  puts_full h =
      puts_is (ap (λ (x : List ℕ). take (length L) (x ++ a)) (take_all at L h) ∙ take-append_seam L a)
      (sym (ap (λ (x : List ℕ). L ++ x) (drop-length L) ∙ append-nil L)) refl

over-front : (n : ℕ) (L : List ℕ) → take n L ++ drop (length (take n L)) L ≡ L
over-front zero L = refl
over-front (suc n) [] = refl
over-front (suc n) (x ∷ L) = ap (λ (r : List ℕ). x ∷ r) (over-front n L)

pub puts_none : {L : List ℕ} {at long : ℕ} → long ≡ min at (length L) → Puts L at [] L long
puts_none {L} {at} e =
    puts_is (ap (λ (t : List ℕ). take (length L) t) (append-nil (take at L)) ∙ take_all (length L) (take at L) (rw (length-take at L) (omega arith)))
    (sym (over-front at L)) (e ∙ sym (length-take at L))

pub puts_byte : (L : List ℕ) (at byte : ℕ) → at < length L → Puts L at (byte ∷ []) (set L at byte) (at + 1)
puts_byte L at byte h =
    let long : length (take at L ++ (byte ∷ [])) ≡ at + 1 = length-append (take at L) (byte ∷ []) ∙ ap (λ n. n + 1) (length-take-le at L (omega arith)) in
    let next : suc at ≡ length (take at L ++ (byte ∷ [])) = omega (arith, long) in
    puts_is (take_all (length L) (take at L ++ (byte ∷ [])) (omega (arith, long)))
    (set_split L at byte h ∙ sym (append_snoc (take at L) byte (drop (suc at) L)) ∙ ap (λ n. take at L ++ (byte ∷ []) ++ drop n L) next)
    (sym long)

-- ---- the bytes of a word, one by one

pub puts_same : {L a b M : List ℕ} {at n : ℕ} → a ≡ b → Puts L at a M n → Puts L at b M n
puts_same {L} {a} {b} {M} {at} {n} e p = subst (λ (x : List ℕ). Puts L at x M n) e p

pub puts_next : {L M P : List ℕ} {at n r : ℕ} (w : List ℕ) (i : ℕ) → i < length w → Puts L at (take i w) M n → Puts M n (get_or w i 0 ∷ []) P r
    → Puts L at (take (i + 1) w) P r
puts_next w i l p q =
    let next : i + 1 ≡ suc i = omega arith in
    puts_same (sym (ap (λ n. take n w) next ∙ take-suc w i 0 l)) (puts_more p q)

pub puts_all : {L M w : List ℕ} {at i n : ℕ} → length w ≤ i → Puts L at (take i w) M n → Puts L at w M n
puts_all {w = w} {i = i} h p = puts_same (take_all i w h) p

-- ---- what stands in the buffer

pub puts_length : {L a M : List ℕ} {at n : ℕ} → Puts L at a M n → length M ≡ length L
puts_length {L} {a} {at = at} p = ap length p.is_after ∙ length-put L at a

-- a text from the front on that the buffer has room for stands there whole
pub puts_whole : {L a M : List ℕ} {n : ℕ} → Puts L 0 a M n → length a ≤ length L → take n M ≡ a
puts_whole {L} {a} p h = rw (p.is_after, p.is_long) (text-stands L 0 a) ∙ take_all (length L) a h
