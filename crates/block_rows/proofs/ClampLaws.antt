-- A part of a list from a place on, and up to a place, where the place is clamped to the list's length: past the end it is the end.
use mathlib.Core.Path.{◌≡◌, ap, ◌∙◌}
use mathlib.Core.List.{List, [], ◌++◌, append-nil}
use Prim.Native.Nat.{ℕ, ◌-◌, min}
use native.Mathlib.Omega.{arith}
use lib.ListN.{length, take, drop, length-drop, drop_of_length-le}
use lib.Seq.{take_all}
use Rattle.std.proofs.lemmas.List.{take_min, drop_min}
use Rattle.fault.specs.Buffers.{part_of, with_part}

-- the part from p on, and the list once that part came back
pub part-is : {A : Type 0} (p : ℕ) (L : List A) → part_of p L ≡ drop p L
part-is p L = take_all (length L - p) (drop p L) (simp length-drop (omega arith))

pub with_is : {A : Type 0} (p : ℕ) (L F : List A) → with_part p L F ≡ take p L ++ F
with_is p L F =
    let none : drop (length L - p) (drop p L) ≡ [] = drop_of_length-le (drop p L) {i = length L - p} (simp length-drop (omega arith)) in
    rw (none, append-nil F)

-- the place clamped
module _ {A : Type 0} (n : ℕ) (L : List A) where
  pub take_within : take (min n (length L)) L ≡ take n L
  take_within = take_min n L

  module _ {m : ℕ} (at : m ≡ min n (length L)) where
    pub part-within : part_of m L ≡ drop n L
    part-within = part-is m L ∙ ap (λ k. drop k L) at ∙ drop_min n L

    pub with_within : (F : List A) → with_part m L F ≡ take n L ++ F
    with_within F = with_is m L F ∙ ap (λ (l : List A). l ++ F) (ap (λ k. take k L) at ∙ take_min n L)
