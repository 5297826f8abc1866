-- Buffers that are written from the front, and the start of a run on the work buffer.
use mathlib.Core.Path.{◌≡◌, refl, sym, ap, ◌∙◌}
use mathlib.Core.List.{List, [], ◌∷◌, ◌++◌, append_assoc}
use Prim.Native.Nat.{ℕ, suc, ◌+◌, ◌-◌, ◌≤◌, ◌<◌}
use native.Mathlib.Omega.{arith}
use lib.ListN.{length, take, drop, set, length-append, length-drop, length-set}
use lib.Seq.{sets, sets-eq, drop-append-add, drop-drop}
use borrow.Rule.Slice.PartMut.{put_mid}
use Rattle.std.proofs.lemmas.Slice.{put_mid-paste}
use Rattle.std.proofs.lemmas.List.Edits.{paste_all}
use Rattle.fault.specs.Buffers.{over}
use Rattle.fault.proofs.BuffersLaws.{over-more}
use Rattle.series.proofs.CopyingLaws.{sets_over}

-- what is written over fewer entries leaves nothing of them
pub over_longer : (a b old : List ℕ) → length b ≤ length a → over a (over b old) ≡ over a old
over_longer a b old h =
    let k = length a - length b in
    let e : length a ≡ length b + k = omega arith in
    ap (λ l. a ++ l) (rw e (drop-append-add b (drop (length b) old) k ∙ drop-drop k (length b) old))

-- a part that is filled is a list that is stored at its place
pub part-stored : (to xs ys : List ℕ) (a k : ℕ) → ys ≡ xs → k ≡ length xs → a + k ≤ length to → put_mid a k to ys ≡ sets to a xs
part-stored to xs ys a k is size room =
    put_mid-paste a k to ys xs k is refl size ∙ paste_all to a xs k size
    ∙ sym (sets-eq xs to a (omega arith) ∙ append_assoc (take a to) xs (drop (a + length xs) to) ∙ ap (λ n. take a to ++ (xs ++ drop (a + n) to)) (sym size))

pub work-front : (to xs ys : List ℕ) (k : ℕ) → ys ≡ xs → k ≡ length xs → k ≤ length to → ys ++ drop k to ≡ sets to 0 xs
work-front to xs ys k is size room = rw (is, size) (sym (sets_over [] to xs (omega arith)))

-- wire 0, the row's entries, then the state's
pub start-stored : (row state old r s : List ℕ) (j k : ℕ) → length (row ++ state) < length old → r ≡ row → s ≡ state → j ≡ length row → k ≡ length state
    → put_mid (1 + length row) k (put_mid 1 j (set old 0 0) r) s ≡ over (0 ∷ (row ++ state)) old
start-stored row state old r s j k room er es ej ek =
    let n = length-append row state in
    let place : 1 + length row ≡ length (0 ∷ row) = omega arith in
    let first : put_mid 1 j (set old 0 0) r ≡ over (0 ∷ row) old
    = part-stored (set old 0 0) row r 1 j er ej (simp length-set (omega arith))
    ∙ ap (λ l. sets l 1 row) (over-more [] old 0 (omega arith)) ∙ sets_over (0 ∷ []) old row (omega arith) in
    let long : length (over (0 ∷ row) old) ≡ length old
    = omega (arith, length-append (0 ∷ row) (drop (suc (length row)) old), length-drop (suc (length row)) old) in
    ap (λ l. put_mid (1 + length row) k l s) first
    ∙ part-stored (over (0 ∷ row) old) state s (1 + length row) k es ek (omega arith)
    ∙ ap (λ n. sets (over (0 ∷ row) old) n state) place ∙ sets_over (0 ∷ row) old state (omega arith)
