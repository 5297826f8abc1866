-- The list of the first network's positions. A position where an input has its head keeps it; the other positions are passed in rising
-- order, and so are the idle inputs, so that each takes the next one: an earlier idle input has an earlier position.
use mathlib.Core.Path.{◌≡◌, refl, sym, ap, ◌∙◌}
use mathlib.Core.Logic.{◌≢◌, ◌⊎◌, inl, inr}
use mathlib.Core.Bool.{true, false, cond, ◌&&◌}
use mathlib.Core.List.{List}
use Prim.Native.Nat.{ℕ, zero, suc, ◌+◌, ◌-◌, ◌≤◌, ◌<◌}
use native.Mathlib.Nat.{le_refl, le_step, not-suc-le-zero}
use native.Mathlib.Numerals.{add-one}
use native.Mathlib.Decide.{ℕ_discrete}
use native.Mathlib.Omega.{arith}
use borrow.Author.Tests.{eq-eqb, ne_eqb, le-ltb, ltb-true, ltb-false}
use lib.Dec.{eqb}
use lib.ListN.{length, get_or, set, take, drop, length-drop}
use lib.Seq.{set-get_or, get_or-take, get_or-drop, length-take-le}
use Rattle.std.proofs.Common.{Option, Some, None, MatchOption}
use Rattle.std.specs.List.{AllWithin, HoldsAt}
use Rattle.lists.specs.Lists.{list_of}
use Rattle.lists.proofs.CountingLaws.{passed, both_ways}
use Rattle.fault.specs.Buffers.{over}
use Rattle.fault.proofs.BuffersLaws.{list_of-over}
use Rattle.block_networks.specs.Wanted.{taker_of}
use Rattle.block_networks.specs.Completion.{FilledBy}
use Rattle.block_selection_bits.specs.Arrays.{PlacesHold, Blank, is_counted, head_by, HeadsFit, head_input, position_by, Positioned, IdleFrom, NextIdle, PlacedNext}
use Rattle.block_selection_bits.proofs.ArraysLaws.{holds-set, over-past}

-- ---- heads

pub head_more : (counts : List ℕ) (j : ℕ) → head_by counts j + get_or counts j 0 ≡ head_by counts (j + 1)
unfolding head_by
head_more counts j = rw (add-one j)

pub head_lt : {N : ℕ} {counts : List ℕ} → HeadsFit N counts → (j : ℕ) → 0 < get_or counts j 0 → head_by counts j < N
head_lt {counts = counts} F j l = omega (arith, head_more counts j, F.each (j + 1))

pub heads_none : (counts : List ℕ) {list : List ℕ} → Blank list → PlacesHold (head_input counts 0) list
unfolding head_input
heads_none counts B = record { each = B.each }

-- one input more
pub heads_more : {N : ℕ} {counts list : List ℕ} → HeadsFit N counts → N ≤ length list → (k : ℕ) → PlacesHold (head_input counts k) list
    → PlacesHold (head_input counts (k + 1)) (cond (is_counted counts k) (set list (head_by counts k) (k + 1)) list)
unfolding head_input
heads_more {counts = counts} {list} F room k H = rw (add-one k) (go (passed (is_counted counts k)))
  where
    f : ℕ → ℕ
    f p = cond (is_counted counts k && eqb (head_by counts k) p) (suc k) (head_input counts k p)

    go : (is_counted counts k ≡ true) ⊎ (is_counted counts k ≡ false) → PlacesHold f (cond (is_counted counts k) (set list (head_by counts k) (suc k)) list)
    go (inl e) =
        rw e (holds-set (head_by counts k) (suc k) H (omega (arith, head_lt F k (ltb-true 0 (get_or counts k 0) e)))
        (rw (e, eq-eqb (head_by counts k) (head_by counts k) refl))
        (λ p d. rw (e, ne_eqb (head_by counts k) p (λ q. d (sym q)))))
    go (inr e) = rw e (record { each = λ p. H.each p ∙ rw e })

-- what stands at p once the first k inputs' heads are placed: an input whose head it is, or nothing, and no input has its head there
pub record HeadHere (counts : List ℕ) (k p entry : ℕ) : Type 0 where
  pub input : ℕ
  pub is : entry ≡ suc input
  pub low : input < k
  pub counted : is_counted counts input ≡ true
  pub here : head_by counts input ≡ p

pub record NoHeadHere (counts : List ℕ) (k p entry : ℕ) : Type 0 where
  pub is : entry ≡ 0
  pub other : (x : ℕ) → x < k → is_counted counts x ≡ true → head_by counts x ≢ p

pub head-found : (counts : List ℕ) (k p : ℕ) → (HeadHere counts k p (head_input counts k p)) ⊎ (NoHeadHere counts k p (head_input counts k p))
unfolding head_input
head-found counts zero p = inr (record { is = refl; other = λ x l. absurd (not-suc-le-zero l) })
head-found counts (suc k) p = go (passed (is_counted counts k)) (ℕ_discrete (head_by counts k) p) (head-found counts k p)
  where
    e : ℕ
    e = head_input counts k p

    wider : (is_counted counts k ≡ true → head_by counts k ≢ p) → (HeadHere counts k p e) ⊎ (NoHeadHere counts k p e)
        → (HeadHere counts (suc k) p e) ⊎ (NoHeadHere counts (suc k) p e)
    wider f (inl t) = inl (record { input = t.input; is = t.is; low = le_step t.low; counted = t.counted; here = t.here })
    wider f (inr t) = inr (record {
      is = t.is;
      other = λ x l c. elim (ℕ_discrete x k) [ yes q ↦ rw q (f (rw q at c)) | no d ↦ t.other x (omega arith) c ];
    })

    go : (is_counted counts k ≡ true) ⊎ (is_counted counts k ≡ false) → Dec (head_by counts k ≡ p) → (HeadHere counts k p e) ⊎ (NoHeadHere counts k p e)
        → let new : ℕ = cond (is_counted counts k && eqb (head_by counts k) p) (suc k) e in (HeadHere counts (suc k) p new) ⊎ (NoHeadHere counts (suc k) p new)
    go (inl c) (yes q) rec = rw (c, eq-eqb (head_by counts k) p q) (inl (record { input = k; is = refl; low = le_refl (suc k); counted = c; here = q }))
    go (inl c) (no d) rec = rw (c, ne_eqb (head_by counts k) p d) (wider (λ _. d) rec)
    go (inr c) d rec = rw c (wider (λ t. absurd (both_ways t c)) rec)

-- ---- idle inputs

-- the first 0 of the counts from `from` on is that of the next idle input; there is one
module _ (counts : List ℕ) (from : ℕ) where
  abbrev rest : List ℕ
  rest = take (length counts - from) (drop from counts)

  rest-at : (i : ℕ) → from + i < length counts → get_or (take (length counts - from) (drop from counts)) i 0 ≡ get_or counts (from + i) 0
  rest-at i l = get_or-take (length counts - from) (drop from counts) i 0 (omega arith) ∙ get_or-drop from counts i 0

  length-rest : length (take (length counts - from) (drop from counts)) ≡ length counts - from
  length-rest = length-take-le (length counts - from) (drop from counts) (omega (arith, length-drop from counts))

  pub next-found : IdleFrom counts from → (r : Option ℕ)
      → let rest : List ℕ = take (length counts - from) (drop from counts) in
      MatchOption r (AllWithin (λ x. x ≢ 0) rest 0 (length rest)) (λ i. (i < length rest) × HoldsAt (λ x. x ≡ 0) rest i × AllWithin (λ x. x ≢ 0) rest 0 i)
      → (x : ℕ) × (r ≡ Some x) × NextIdle counts from (from + x)
  next-found t None none =
      let k = t.input - from in
      let e : from + k ≡ t.input = omega (arith, t.behind) in
      let l : from + k < length counts = omega (arith, t.within) in
      absurd (none k 0 (omega arith) (omega (arith, length-rest)) (rest-at k l ∙ ap (λ y. get_or counts y 0) e ∙ t.idle))
  next-found t (Some i) (l, here, before) =
      let within : from + i < length counts = omega (arith, length-rest) in (
        i,
        refl,
        record {
          behind = omega arith;
          within = within;
          idle = sym (rest-at i within) ∙ here 0;
          first = λ y a b z.
              let e : from + (y - from) ≡ y = omega arith in
              before (y - from) 0 (omega arith) (omega arith) (rest-at (y - from) (omega arith) ∙ ap (λ x. get_or counts x 0) e ∙ z);
        },
      )

-- the idle inputs before `from` have their positions before p, and the others from p on
pub record Cursor (counts : List ℕ) (N p from : ℕ) : Type 0 where
  pub passed_by : (x : ℕ) → x < N → get_or counts x 0 ≡ 0 → x < from → position_by counts N x < p
  pub ahead : (x : ℕ) → x < N → get_or counts x 0 ≡ 0 → from ≤ x → p ≤ position_by counts N x

pub cursor_start : (counts : List ℕ) (N : ℕ) → Cursor counts N 0 0
cursor_start counts N = record { passed_by = λ x l z m. absurd (not-suc-le-zero m); ahead = λ x l z m. omega arith }

module _ {N : ℕ} {counts : List ℕ} (P : Positioned N counts) (p : ℕ) (l : p < N) where
  abbrev g : ℕ → ℕ
  g = position_by counts N

  abbrev taker : ℕ → ℕ
  taker = taker_of N (position_by counts N)

  not_counted : (x : ℕ) → get_or counts x 0 ≡ 0 → is_counted counts x ≡ false
  not_counted x z = le-ltb 0 (get_or counts x 0) (omega arith)

  -- an input that has the position p is its taker
  taker-is : (x : ℕ) → g x ≡ p → taker p ≡ x
  taker-is x e = rw (← e) (P.once.fro x)

  -- ---- a head

  pub head-taker : {e : ℕ} → HeadHere counts N p e → e ≡ suc (taker p)
  head-taker t = t.is ∙ ap suc (sym (taker-is t.input (P.rule.given t.input t.low t.counted ∙ t.here)))

  pub cursor_head : {e from : ℕ} → HeadHere counts N p e → Cursor counts N p from → Cursor counts N (p + 1) from
  cursor_head t C = record {
    passed_by = λ x m z k. omega (arith, C.passed_by x m z k);
    ahead = λ x m z k.
        let other : g x ≢ p = λ e. (P.rule.to-left x m (not_counted x z)).other t.input t.low t.counted (t.here ∙ sym e) in
        omega (arith, C.ahead x m z k);
  }

  -- ---- another position

  module _ {e : ℕ} (t : NoHeadHere counts N p e) where
    filler : FilledBy N (is_counted counts) (position_by counts N) p
    filler = P.rule.filled p (record { low = l; other = t.other })

    filler-idle : get_or counts filler.number 0 ≡ 0
    filler-idle = omega (arith, ltb-false 0 (get_or counts filler.number 0) filler.idle)

    filler-ahead : {from : ℕ} → Cursor counts N p from → from ≤ filler.number
    filler-ahead {from} C =
        let late : ¬ (filler.number < from) = λ k. omega (arith, C.passed_by filler.number filler.low filler-idle k, filler.goes) in
        omega arith

    pub idle-from : {from : ℕ} → N ≤ length counts → Cursor counts N p from → IdleFrom counts from
    idle-from few C =
        let low = filler.low in
        record { input = filler.number; behind = filler-ahead C; within = omega arith; idle = filler-idle }

    -- the next idle input is the one that fills p
    next_fills : {from x : ℕ} → Cursor counts N p from → NextIdle counts from x → x ≡ filler.number
    next_fills {from} {x} C X =
        let y = filler.number in
        let late : ¬ (y < x) = λ k. X.first y (filler-ahead C) k filler-idle in
        let early : ¬ (x < y) = λ k.
        omega (
          arith,
          filler.goes,
          filler.low,
          P.rule.rising x y k filler.low (not_counted x X.idle) filler.idle,
          C.ahead x (omega (arith, filler.low)) X.idle X.behind,
        ) in
        omega arith

    pub next-taker : {from x : ℕ} → Cursor counts N p from → NextIdle counts from x → x ≡ taker p
    next-taker C X = next_fills C X ∙ sym (taker-is filler.number filler.goes)

    pub cursor_next : {from x : ℕ} → Cursor counts N p from → NextIdle counts from x → Cursor counts N (p + 1) (x + 1)
    cursor_next {from} {x} C X =
        let y = filler.number in
        let same = next_fills C X in
        let R = P.rule in
        record {
          passed_by = λ z m q k. go z m q k (ℕ_discrete z y);
          ahead = λ z m q k. omega (arith, filler.goes, R.rising y z (omega arith) m filler.idle (not_counted z q));
        }
      where
        go : (z : ℕ) → z < N → get_or counts z 0 ≡ 0 → z < x + 1 → Dec (z ≡ filler.number) → g z < p + 1
        go z m q k (yes f) = rw f (omega (arith, filler.goes))
        go z m q k (no f) =
            let same = next_fills C X in
            omega (arith, filler.goes, P.rule.rising z filler.number (omega arith) filler.low (not_counted z q) filler.idle)

-- ---- one position more

-- the inputs of the positions, counted from 1
abbrev pub takers : List ℕ → ℕ → ℕ → ℕ
takers counts N q = suc (taker_of N (position_by counts N) q)

module _ {N : ℕ} {counts : List ℕ} (P : Positioned N counts) {old list : List ℕ} (H : PlacesHold (head_input counts N) old)
    (p : ℕ) (l : p < N) (held : list ≡ over (list_of p (takers counts N)) old) {from : ℕ} (C : Cursor counts N p from) where
  -- nothing is changed there yet
  entry : get_or list p 0 ≡ head_input counts N p
  entry = ap (λ a. get_or a p 0) held ∙ over-past p (takers counts N) old p (le_refl p) ∙ H.each p

  pub step_asks : N ≤ length counts → get_or list p 0 ≡ 0 → IdleFrom counts from
  step_asks few z = elim (head-found counts N p) [
    | inl t ↦ absurd (omega (arith, t.is, entry))
    | inr t ↦ idle-from P p l t few C
  ]

  pub step-places : N ≤ length old → {new : List ℕ} {next : ℕ} → PlacedNext counts p from list new next
      → (Cursor counts N (p + 1) next) × (new ≡ over (list_of (p + 1) (takers counts N)) old)
  step-places few {new} {next} S = go (head-found counts N p)
    where
      more : set (over (list_of p (takers counts N)) old) p (takers counts N p) ≡ over (list_of (p + 1) (takers counts N)) old
      more = list_of-over p (takers counts N) old (omega arith)

      go : (HeadHere counts N p (head_input counts N p)) ⊎ (NoHeadHere counts N p (head_input counts N p))
          → (Cursor counts N (p + 1) next) × (new ≡ over (list_of (p + 1) (takers counts N)) old)
      go (inl t) =
          let s = S.head (λ z. absurd (omega (arith, t.is, entry))) in
          let here : get_or list p 0 ≡ takers counts N p = entry ∙ head-taker P p l t in
          (rw s.1 (cursor_head P p l t C), s.0 ∙ sym (set-get_or list p 0) ∙ rw (here, held) more)
      go (inr t) =
          let s = S.free (entry ∙ t.is) in
          let e : next ≡ next - 1 + 1 = omega (arith, s.1) in
          let here : next ≡ takers counts N p = omega (arith, next-taker P p l t C s.2) in
          (rw e (cursor_next P p l t C s.2), s.0 ∙ rw (held, here) more)
