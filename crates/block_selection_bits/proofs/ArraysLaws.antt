-- Arrays by what their places hold, and arrays that are written from the front.
use mathlib.Core.Path.{◌≡◌, sym, ap, ◌∙◌}
use mathlib.Core.Logic.{◌≢◌}
use mathlib.Core.List.{List, ◌++◌, append-nil}
use Prim.Native.Nat.{ℕ, ◌+◌, ◌-◌, ◌≤◌, ◌<◌}
use native.Mathlib.Decide.{ℕ_discrete}
use native.Mathlib.Omega.{arith}
use lib.ListN.{length, get_or, set, drop}
use lib.Seq.{get_or-set_same, get_or-set_other, get_or-append-add, get_or-drop}
use Rattle.std.proofs.lemmas.List.{drop_all}
use Rattle.lists.specs.Lists.{list_of}
use Rattle.lists.proofs.ListsLaws.{length-list_of}
use Rattle.fault.specs.Buffers.{over}
use Rattle.block_selection_bits.specs.Arrays.{PlacesHold}

-- one place changes
pub holds-set : {f g : ℕ → ℕ} {array : List ℕ} (i v : ℕ) → PlacesHold f array → i < length array → g i ≡ v → ((j : ℕ) → j ≢ i → g j ≡ f j)
    → PlacesHold g (set array i v)
holds-set {f} {g} {array} i v H l here there = record { each = λ j. go j (ℕ_discrete j i) }
  where
    go : (j : ℕ) → Dec (j ≡ i) → get_or (set array i v) j 0 ≡ g j
    go j (yes e) = rw e (get_or-set_same array i v 0 l ∙ sym here)
    go j (no d) = get_or-set_other array i j v 0 d ∙ H.each j ∙ sym (there j d)

-- what was written, and what stood past it
module _ (n : ℕ) (f : ℕ → ℕ) (old : List ℕ) where
  pub over-past : (i : ℕ) → n ≤ i → get_or (over (list_of n f) old) i 0 ≡ get_or old i 0
  over-past i l =
      let k = length (list_of n f) in
      let e : k + (i - k) ≡ i = omega (arith, length-list_of n f) in
      ap (λ j. get_or (over (list_of n f) old) j 0) (sym e) ∙ get_or-append-add (list_of n f) (drop k old) (i - k) 0
      ∙ get_or-drop k old (i - k) 0 ∙ ap (λ j. get_or old j 0) e

  -- nothing stands past it where it fills the array
  pub over-whole : {array : List ℕ} → array ≡ over (list_of n f) old → length old ≡ n → array ≡ list_of n f
  over-whole e h = e ∙ ap (λ l. list_of n f ++ l) (drop_all (length (list_of n f)) old (omega (arith, length-list_of n f))) ∙ append-nil (list_of n f)
