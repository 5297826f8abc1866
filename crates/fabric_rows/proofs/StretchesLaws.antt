-- A list whose stretches are lent by their ranges and written in turn, one behind the other.
use mathlib.Core.Path.{◌≡◌, sym, ap, ◌∙◌}
use mathlib.Core.List.{List, ◌++◌, append_assoc, append-nil}
use Prim.Native.Nat.{ℕ, ◌+◌, ◌-◌, ◌≤◌}
use native.Mathlib.Omega.{arith}
use borrow.Rule.Slice.PartMut.{mid_of, put_mid}
use lib.ListN.{length, take, drop, length-append, length-drop, drop_of_length-le}
use lib.Seq.{take_at, drop_at, drop-drop, length-take-le}
use Rattle.fault.specs.Buffers.{over, part_of, with_part}
use Rattle.fault.proofs.PartsLaws.{part-lent}

-- what the stretch of a list from n to m holds
abbrev pub stretch_of : ℕ → ℕ → List ℕ → List ℕ
stretch_of n m L = mid_of n (m - n) L

-- the list once this stretch came back as b
abbrev pub with_stretch : ℕ → ℕ → List ℕ → List ℕ → List ℕ
with_stretch n m L b = put_mid n (m - n) L b

-- P is L once `a` is written over its first n places
pub record WrittenTo (n : ℕ) (a L P : List ℕ) : Type 0 where
  pub size : length a ≡ n
  pub room : n ≤ length L
  pub is : P ≡ over a L

-- the first stretch, up to n, came back as b
pub front_put : (b L : List ℕ) (n : ℕ) → n ≤ length L → length b ≡ length (take n L) → WrittenTo n b L (b ++ drop n L)
front_put b L n room e =
    let size : length b ≡ n = e ∙ length-take-le n L room in
    record { size = size; room = room; is = ap (λ k. b ++ drop k L) (sym size) }

module _ {n : ℕ} {a L P : List ℕ} (w : WrittenTo n a L P) where
  -- what stands behind is lent as it was
  pub rest_lent : part_of n P ≡ drop n L
  rest_lent = part-lent a L P n w.size w.room w.is

  before_is : take n P ≡ a
  before_is = rw w.is (take_at a (drop (length a) L) n w.size)

  behind_is : drop n P ≡ drop n L
  behind_is = rw (w.is, w.size) (drop_at a (drop n L) n w.size)

  -- the stretch from n to m has its length
  pub length_lent : (m : ℕ) → n ≤ m → m ≤ length L → length (stretch_of n m P) ≡ m - n
  length_lent m h room = rw behind_is (length-take-le (m - n) (drop n L) (omega (arith, length-drop n L)))

  -- it came back as b
  pub stretch_put : (b : List ℕ) (m : ℕ) → n ≤ m → m ≤ length L → length b ≡ length (stretch_of n m P) → WrittenTo m (a ++ b) L (with_stretch n m P b)
  stretch_put b m h room e =
      let size : length (a ++ b) ≡ m = omega (arith, length-append a b, w.size, e, length_lent m h room) in
      let end : n + (m - n) ≡ length (a ++ b) = omega arith in
      record { size = size; room = room; is = rw (before_is, behind_is, drop-drop (m - n) n L, end, append_assoc) }

  -- the last stretch, from n on, came back as b
  pub last_put : (b : List ℕ) → with_part n P b ≡ a ++ b
  last_put b =
      let end : length (drop n L) ≤ length P - n = omega (arith, ap length behind_is, length-drop n P) in
      rw (before_is, behind_is, drop_of_length-le (drop n L) {i = length P - n} end, append-nil)
