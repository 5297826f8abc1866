-- Input j has the positions from its head on, as many as outputs want it, before the next head. So the heads are a partial injection, which
-- the first network completes, and the outputs' positions, which the second network gives, are one to one.
use mathlib.Core.Path.{◌≡◌, refl, sym, ap, ◌∙◌}
use mathlib.Core.Bool.{true, false}
use Prim.Native.Nat.{ℕ, zero, suc, ◌+◌, ◌≤◌, ◌<◌}
use native.Mathlib.Decide.{ℕ_discrete, dec_lt}
use native.Mathlib.Omega.{arith}
use borrow.Author.Tests.{eq-eqb, lt-ltb, le-ltb, ltb-true}
use lib.Dec.{eqb, ltb}
use Rattle.lists.specs.Counting.{count_of}
use Rattle.lists.proofs.CountingLaws.{count_le, count_none, count-before, count-sum, one_more}
use Rattle.block_networks.specs.Permutation.{Perm}
use Rattle.block_networks.specs.Wanted.{taker_of}
use Rattle.block_networks.specs.Completion.{RisingCompletion}
use Rattle.block_networks.specs.Selection.{wanting, copies, is_wanted, head_of, is_head, position_of, copy_of}
use Rattle.block_networks.proofs.Loops.{flipped}
use Rattle.block_networks.proofs.WantedLaws.{taker-perm}
use Rattle.block_networks.proofs.CompletionLaws.{PartialInjection, taken_here, taken_nowhere, completed-perm, completed-rule}

module _ (want : ℕ → ℕ) (n : ℕ) where
  -- ---- heads

  -- the head of j is the number of outputs that want an input before j
  head-count : (j : ℕ) → head_of want n j ≡ count_of (λ o. ltb (want o) j) n
  unfolding head_of wanting
  head-count zero = sym (count_none (λ o. ltb (want o) 0) (λ o. le-ltb (want o) 0 (omega arith)) n)
  head-count (suc j) =
      rw (head-count j) (sym (count-sum (λ o. ltb (want o) (suc j)) (λ o. ltb (want o) j) (λ o. eqb (want o) j) (λ o. one_more (want o) j) n))

  pub head_le : (j : ℕ) → head_of want n j ≤ n
  head_le j = rw (head-count j) (count_le (λ o. ltb (want o) j) n)

  -- heads follow one another with room for the copies
  pub head_after : (i j : ℕ) → i < j → head_of want n i + copies want n i ≤ head_of want n j
  unfolding head_of
  head_after i zero l = absurd (omega arith)
  head_after i (suc j) l = go (head_after i j) (ℕ_discrete i j)
    where
      go : (i < j → head_of want n i + copies want n i ≤ head_of want n j) → Dec (i ≡ j)
          → head_of want n i + copies want n i ≤ head_of want n j + copies want n j
      go rec (yes e) = rw e (omega arith)
      go rec (no f) = omega (arith, rec (omega arith))

  -- a copy's position tells its input
  pub copy-input : (i j a b : ℕ) → a < copies want n i → b < copies want n j → head_of want n i + a ≡ head_of want n j + b → i ≡ j
  copy-input i j a b la lb e =
      let late : ¬ (i < j) = λ l. omega (arith, head_after i j l) in
      let early : ¬ (j < i) = λ l. omega (arith, head_after j i l) in
      omega arith

  pub copy_lt : (j a : ℕ) → a < copies want n j → head_of want n j + a < n
  unfolding head_of
  copy_lt j a l = omega (arith, head_le (suc j))

  -- an output's number among those that want its input
  pub own-copy : (o : ℕ) → o < n → wanting want o (want o) < copies want n (want o)
  unfolding wanting
  own-copy o l = count-before (λ x. eqb (want x) (want o)) o n l (eq-eqb (want o) (want o) refl)

  copies_apart : (a b : ℕ) → a < b → want a ≡ want b → wanting want a (want a) < wanting want b (want b)
  unfolding wanting
  copies_apart a b l e = rw e (count-before (λ x. eqb (want x) (want b)) a b l (eq-eqb (want a) (want b) e))

  -- ---- the second network's mapping

  pub copy-early : (o : ℕ) → o < n → copy_of want n o ≡ head_of want n (want o) + wanting want o (want o)
  unfolding copy_of
  copy-early o l = rw (lt-ltb o n l)

  pub copy-past : (o : ℕ) → n ≤ o → copy_of want n o ≡ o
  unfolding copy_of
  copy-past o l = rw (le-ltb o n l)

  -- the outputs' positions are the first n
  pub copy-below : (o : ℕ) → o < n → copy_of want n o < n
  copy-below o l = rw (copy-early o l) (copy_lt (want o) (wanting want o (want o)) (own-copy o l))

  early-once : (a b : ℕ) → a < n → b < n → copy_of want n a ≡ copy_of want n b → a ≡ b
  early-once a b la lb e =
      let sums = sym (copy-early a la) ∙ e ∙ copy-early b lb in
      let same = copy-input (want a) (want b) (wanting want a (want a)) (wanting want b (want b)) (own-copy a la) (own-copy b lb) sums in
      let head = ap (head_of want n) same in
      let late : ¬ (a < b) = λ l. omega (arith, copies_apart a b l same) in
      let early : ¬ (b < a) = λ l. omega (arith, copies_apart b a l (sym same)) in
      omega arith

  copy-once : (a b : ℕ) → copy_of want n a ≡ copy_of want n b → a ≡ b
  copy-once a b e = go (dec_lt a n) (dec_lt b n)
    where
      go : Dec (a < n) → Dec (b < n) → a ≡ b
      go (yes la) (yes lb) = early-once a b la lb e
      go (yes la) (no lb) = absurd (omega (arith, copy-below a la, copy-past b (omega arith)))
      go (no la) (yes lb) = absurd (omega (arith, copy-below b lb, copy-past a (omega arith)))
      go (no la) (no lb) = omega (arith, copy-past a (omega arith), copy-past b (omega arith))

  module _ (N : ℕ) (fits : n ≤ N) where
    copy-fits : (o : ℕ) → o < N → copy_of want n o < N
    copy-fits o l = go (dec_lt o n)
      where
        go : Dec (o < n) → copy_of want n o < N
        go (yes m) = omega (arith, copy-below o m)
        go (no m) = rw (copy-past o (omega arith)) l

    -- the second network: output o takes position `copy_of o`
    pub second-perm : Perm N (copy_of want n) (taker_of N (copy_of want n))
    second-perm = taker-perm N (copy_of want n) copy-fits (λ o l. copy-past o (omega arith)) (λ a b la lb e. copy-once a b e)

    -- ---- the first network's mapping

    heads_injection : PartialInjection N (is_wanted want n) (head_of want n)
    heads_injection = record {
      below = λ j l h. omega (arith, copy_lt j 0 (ltb-true 0 (copies want n j) h));
      once = λ i j li lj hi hj e. copy-input i j 0 0 (ltb-true 0 (copies want n i) hi) (ltb-true 0 (copies want n j) hj) (omega arith);
    }

    -- the first network: input j goes to position `position_of N j`
    pub first-perm : Perm N (taker_of N (position_of want n N)) (position_of want n N)
    first-perm = flipped (completed-perm N heads_injection)

    -- a wanted input to its head, the others in rising order onto the other positions; by `completion_only` this fixes it
    pub position_rule : RisingCompletion N (is_wanted want n) (head_of want n) (position_of want n N)
    position_rule = completed-rule N heads_injection

    -- ---- where the heads are

    pub head-here : (j : ℕ) → j < N → 0 < copies want n j → is_head want n N (head_of want n j) ≡ true
    head-here j l c = taken_here (is_wanted want n) (head_of want n) N (head_of want n j) j l (lt-ltb 0 (copies want n j) c) refl

    -- the positions of later copies are no heads
    pub no_head : (j a : ℕ) → suc a < copies want n j → is_head want n N (head_of want n j + suc a) ≡ false
    no_head j a l = taken_nowhere (is_wanted want n) (head_of want n) N (head_of want n j + suc a) (λ i k h e.
        let w = ltb-true 0 (copies want n i) h in
        let s : i ≡ j = copy-input i j 0 (suc a) w l (omega arith) in
        absurd (omega (arith, ap (head_of want n) s)))
