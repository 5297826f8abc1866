-- The positions of the outputs: each input's place holds the position of its next copy.
use mathlib.Core.Path.{◌≡◌, sym, ap, ◌∙◌}
use mathlib.Core.List.{List}
use Prim.Native.Nat.{ℕ, ◌+◌, ◌<◌}
use native.Mathlib.Nat.{add-zero, add_assoc}
use native.Mathlib.Decide.{ℕ_discrete}
use native.Mathlib.Omega.{arith}
use lib.ListN.{length, get_or, set}
use lib.Seq.{get_or-set_same, get_or-set_other}
use Rattle.lists.specs.Counting.{count_of}
use Rattle.block_networks.specs.Wanted.{mapping}
use Rattle.block_networks.specs.Selection.{wanting, head_of, copy_of}
use Rattle.block_networks.proofs.SelectionRouting.{selected_lt}
use Rattle.block_networks.proofs.Heads.{copy-early, copy-below}
use Rattle.block_sizes.specs.Sizes.{max_size}
use Rattle.block_selection_bits.specs.Arrays.{Demand, NextCopies}
use Rattle.block_selection_bits.proofs.CountsLaws.{wanting-own, wanting-other}

-- no copy is given yet
pub copies-none : (wanted : List ℕ) {heads : List ℕ}
    → ((x : ℕ) → x < length wanted → get_or heads (mapping wanted x) 0 ≡ head_of (mapping wanted) (length wanted) (mapping wanted x))
    → NextCopies wanted 0 heads
unfolding wanting count_of
copies-none wanted h = record { each = λ l x m. h x m ∙ sym (add-zero _) }

-- at the place j of the input that output o wants
module _ {N o j : ℕ} {wanted heads : List ℕ} (W : Demand N wanted) (size : length heads ≡ N) (C : NextCopies wanted o heads) (l : o < length wanted)
    (e : mapping wanted o ≡ j) where
  pub copy_is : get_or heads j 0 ≡ copy_of (mapping wanted) (length wanted) o
  copy_is = rw (← e) (C.each (omega arith) o l ∙ sym (copy-early (mapping wanted) (length wanted) o l))

  pub next-copy_lt : get_or heads j 0 < max_size
  next-copy_lt = rw copy_is (omega (arith, copy-below (mapping wanted) (length wanted) o l, W.few, W.most))

  pub copies-more : NextCopies wanted (o + 1) (set heads j (get_or heads j 0 + 1))
  copies-more = record { each = λ m x k. go x k (ℕ_discrete (mapping wanted x) (mapping wanted o)) }
    where
      want : ℕ → ℕ
      want = mapping wanted

      head : ℕ → ℕ
      head = head_of want (length wanted)

      new : List ℕ
      new = set heads j (get_or heads j 0 + 1)

      within : j < length heads
      within = omega (arith, selected_lt W.inputs o l)

      go : (x : ℕ) → x < length wanted → Dec (mapping wanted x ≡ mapping wanted o) → get_or new (want x) 0 ≡ head (want x) + wanting want (o + 1) (want x)
      go x k (yes f) =
          let here = ap (λ i. get_or new i 0) (f ∙ e) ∙ get_or-set_same heads j (get_or heads j 0 + 1) 0 within in
          here ∙ rw (f, wanting-own want o, ← e, C.each (omega arith) o l) (add_assoc (head (want o)) (wanting want o (want o)) 1)
      go x k (no d) =
          get_or-set_other heads j (want x) _ 0 (λ f. d (f ∙ sym e)) ∙ C.each (omega arith) x k ∙ ap (λ c. head (want x) + c) (sym (wanting-other want o (want x) d))
