-- The Y rows on the two parts of the pins.
use mathlib.Core.Path.{◌≡◌, sym, ap, ap₂, ◌∙◌}
use mathlib.Core.List.{List}
use Prim.Native.Nat.{ℕ, ◌*◌, min}
use native.Mathlib.Decide.{dec_le}
use native.Mathlib.Omega.{arith}
use lib.Seq.{get_or-take, take_all}
use Rattle.std.proofs.lemmas.List.{drop_all}
use lib.ListN.{length, get_or, take, drop}
use Rattle.lists.proofs.ListsLaws.{list_of_ext}
use Rattle.elements.specs.declared.Kind.{Kind}
use Rattle.blocks.specs.Elements.{row_of, pair_rows}

-- P are the pins: in either part of a list that is split at a place which is clamped to its length, the wires at the first `count` places are
-- the list's
pub mixed_pairs : (count : ℕ) {m : ℕ} (P : List ℕ) → m ≡ min count (length P)
    → pair_rows Kind.Y count (drop m P) (take m P) 1 ≡ pair_rows Kind.Y count (drop count P) P 1
unfolding pair_rows
mixed_pairs count {m} P at = elim (dec_le count (length P)) [
  | yes l ↦
      let e : m ≡ count = omega arith in
      rw e (list_of_ext count _ _ (λ i h. ap (row_of 2 (get_or (drop count P) (1 * i) 0)) (get_or-take count P (1 * i) 0 (omega arith))))
  | no n ↦
      ap₂ (λ a b. pair_rows Kind.Y count a b 1) (drop_all m P (omega arith) ∙ sym (drop_all count P (omega arith))) (take_all m P (omega arith))
]
