-- Bytes that are written one after another into a buffer. The conclusion of `wrote-more` has its premises' shape, so that any number of writers follow each
-- other.
use Prim.Native.Nat.{ℕ, ◌+◌, ◌≤◌}
use native.Mathlib.Nat.{zero-add}
use native.Mathlib.Omega.{arith}
use mathlib.Core.Path.{◌≡◌, refl, sym, ap, ◌∙◌}
use mathlib.Core.List.{List, [], ◌++◌}
use lib.ListN.{length, take, drop, length-append}
use lib.Seq.{sets, sets-eq, take-length}
use Rattle.std.proofs.lemmas.Slice.{put_mid-paste}
use borrow.Rule.Slice.PartMut.{put_mid}
use Rattle.fault.specs.Buffers.{over}
use Rattle.lists.proofs.ListsLaws.{sets_append}
use Rattle.plan_saving.specs.Parts.{Wrote}

-- nothing is written
pub wrote_none : {L : List ℕ} {at : ℕ} → Wrote [] L at L at
wrote_none = record { is_after = refl; is_next = omega arith }

module _ {a L P : List ℕ} {at n : ℕ} (front : Wrote a L at P n) where
  -- the same bytes, otherwise said
  pub wrote_as : {b : List ℕ} → a ≡ b → Wrote b L at P n
  wrote_as e = rw e at front

  -- bytes behind them
  pub wrote-more : {b Q : List ℕ} {m : ℕ} → Wrote b P n Q m → Wrote (a ++ b) L at Q m
  wrote-more {b} {Q} {m} more = record {
    is_after = more.is_after ∙ ap (λ l. sets l n b) front.is_after ∙ ap (λ k. sets (sets L at a) k b) front.is_next ∙ sym (sets_append a b L at);
    is_next = simp length-append (omega (arith, front.is_next, more.is_next));
  }

-- bytes that are copied into the buffer's part of their length
pub wrote_part : {L bytes new : List ℕ} (at k : ℕ) → new ≡ bytes → length bytes ≡ k → at + k ≤ length L → Wrote bytes L at (put_mid at k L new) (at + k)
wrote_part {L} {bytes} {new} at k e size room = record {
  is_after =
      put_mid-paste at k L new bytes k e refl (sym size)
      ∙ ap (λ m. take at L ++ take m bytes ++ drop (at + m) L) (sym size)
      ∙ ap (λ l. take at L ++ l ++ drop (at + length bytes) L) (take-length bytes)
      ∙ sym (sets-eq bytes L at (omega arith));
  is_next = omega (arith, size);
}

-- bytes in the front of a buffer that has room for them
module _ {a L P : List ℕ} {n : ℕ} (front : Wrote a L 0 P n) where
  pub front_long : n ≡ length a
  front_long = front.is_next ∙ zero-add (length a)

  pub front-over : length a ≤ length L → P ≡ over a L
  front-over room = front.is_after ∙ sets-eq a L 0 (omega arith) ∙ ap (λ k. a ++ drop k L) (zero-add (length a))
