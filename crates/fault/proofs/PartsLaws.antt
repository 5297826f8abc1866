-- Buffers that are filled part by part: a part from n on is lent, comes back with a list in front, and the whole has that list behind what
-- stood there. The conclusion has the premise's shape, so that any number of parts follow each other.
use mathlib.Core.Path.{◌≡◌, refl, ap}
use mathlib.Core.List.{List, ◌++◌, append_assoc, append-nil}
use Prim.Native.Nat.{ℕ, zero, suc, ◌+◌, ◌-◌, ◌≤◌}
use native.Mathlib.Omega.{arith}
use lib.ListN.{length, take, drop, length-append, length-drop, drop_of_length-le}
use lib.Seq.{take_at, drop_at, take_all, drop-drop}
use borrow.Rule.Slice.PartMut.{same_len_mid}
use Rattle.fault.specs.Buffers.{over, filled, part_of, with_part}

-- what is written from the front changes no length
pub length_over : {A : Type 0} (a L : List A) → length a ≤ length L → length (over a L) ≡ length L
length_over a L h = simp (length-append, length-drop) (omega arith)

module _ {A : Type 0} (a L P : List A) (n : ℕ) (front : length a ≡ n) (room : n ≤ length L) (before : P ≡ over a L) where
  -- what stands behind
  rest-is : drop n P ≡ drop n L
  rest-is = rw (before, front) (drop_at a (drop n L) n front)

  all-long : length (drop n L) ≤ length P - n
  all-long = simp length-drop (omega (arith, ap length before, length_over a L (omega arith)))

  -- the part that is lent
  pub part-lent : part_of n P ≡ drop n L
  part-lent = rw rest-is (take_all (length P - n) (drop n L) all-long)

  -- the whole, once the part came back with b in front
  pub over-part : (b F : List A) → n + length b ≤ length L → F ≡ over b (part_of n P) → with_part n P F ≡ over (a ++ b) L
  over-part b F h e =
      let start : take n P ≡ a = rw (before, front) (take_at a (drop n L) n front) in
      rw (
        e,
        part-lent,
        start,
        rest-is,
        drop_of_length-le (drop n L) {i = length P - n} all-long,
        append-nil,
        drop-drop (length b) n L,
        length-append a b,
        front,
        append_assoc,
      )

-- a part that comes back leaves the buffer as long as it was
pub length_with : {A : Type 0} (p : ℕ) (L F : List A) → length F ≡ length (part_of p L) → length (with_part p L F) ≡ length L
length_with p L F e = same_len_mid p (length L - p) L F e

-- what is written over a list of its own length leaves nothing of that list
pub over-again : {A : Type 0} (a b L : List A) → length a ≡ length b → over a (over b L) ≡ over a L
over-again a b L e = rw (e, drop_at b (drop (length b) L) (length b) refl)

-- a buffer that is filled stays as long as it is
pub length-filled : {A : Type 0} (n : ℕ) (new old : List A) → (n ≡ 0 → length new ≤ length old) → length (filled n new old) ≡ length old
length-filled zero new old h = length_over new old (h refl)
length-filled (suc n) new old h = refl
