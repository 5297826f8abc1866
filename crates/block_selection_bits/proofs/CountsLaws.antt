-- Counting the outputs that want each input, one output after another.
use mathlib.Core.Path.{◌≡◌, refl, sym, ap, ◌∙◌}
use mathlib.Core.Logic.{◌≢◌}
use mathlib.Core.List.{List}
use Prim.Native.Nat.{ℕ, suc, ◌+◌, ◌-◌, ◌≤◌, ◌<◌}
use native.Mathlib.Nat.{add-zero}
use native.Mathlib.Numerals.{add-one}
use borrow.Author.Tests.{eq-eqb, ne_eqb}
use lib.Dec.{eqb}
use lib.ListN.{length, get_or, set}
use Rattle.lists.specs.Counting.{count_of}
use Rattle.lists.proofs.CountingLaws.{count_le}
use Rattle.lists.proofs.ListsLaws.{get_d_any}
use Rattle.block_networks.specs.Wanted.{mapping}
use Rattle.block_networks.specs.Selection.{wanting}
use Rattle.block_selection_bits.specs.Arrays.{PlacesHold, Blank}
use Rattle.block_selection_bits.proofs.ArraysLaws.{holds-set}

-- the input that an output wants, which its list counts from 1
pub input-wanted : (wanted : List ℕ) (o : ℕ) → o < length wanted → mapping wanted o ≡ get_or wanted o 0 - 1
unfolding mapping
input-wanted wanted o l = ap (λ x. x - 1) (get_d_any wanted o (suc o) 0 l)

pub wanting_le : (want : ℕ → ℕ) (k j : ℕ) → wanting want k j ≤ k
unfolding wanting
wanting_le want k j = count_le (λ o. eqb (want o) j) k

-- one output more
pub wanting-own : (want : ℕ → ℕ) (k : ℕ) → wanting want (k + 1) (want k) ≡ wanting want k (want k) + 1
unfolding wanting count_of
wanting-own want k = rw (add-one k, eq-eqb (want k) (want k) refl)

pub wanting-other : (want : ℕ → ℕ) (k j : ℕ) → j ≢ want k → wanting want (k + 1) j ≡ wanting want k j
unfolding wanting count_of
wanting-other want k j d = rw (add-one k, ne_eqb (want k) j (λ e. d (sym e))) (add-zero _)

pub counted_none : (want : ℕ → ℕ) {counts : List ℕ} → Blank counts → PlacesHold (wanting want 0) counts
unfolding wanting count_of
counted_none want B = record { each = B.each }

pub wanting-counted : (want : ℕ → ℕ) {counts : List ℕ} (k : ℕ) → want k < length counts → PlacesHold (wanting want k) counts
    → PlacesHold (wanting want (k + 1)) (set counts (want k) (get_or counts (want k) 0 + 1))
wanting-counted want {counts} k l H =
    holds-set (want k) _ H l (wanting-own want k ∙ ap (λ c. c + 1) (sym (H.each (want k)))) (wanting-other want k)
