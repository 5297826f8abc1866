-- `side` follows the rule, and nothing else does: walks and loops pass the same pairs, a half is the same along a walk, and of the walk's
-- outputs the one of the least rank lies in the last pair or in the lowest of its loop, so its half is given.
use mathlib.Core.Path.{◌≡◌, refl, sym, ap, ap₂, ◌∙◌, fun_ext}
use mathlib.Core.Logic.{◌≢◌, ◌⊎◌, inl, inr}
use mathlib.Core.List.{List, ◌++◌}
use Prim.Native.Nat.{ℕ, zero, suc, ◌+◌, ◌-◌, ◌*◌, ◌/◌, ◌%◌, ◌^◌, ◌≤◌, ◌<◌}
use native.Mathlib.Nat.{pow-succ'}
use native.Mathlib.Decide.{dec_lt}
use native.Mathlib.Omega.{arith}
use Rattle.lists.proofs.ListsLaws.{list_of_ext}
use Rattle.block_networks.specs.Permutation.{Perm, partner, iterate, walk, key, lowest, side, pick, in_half, permutation_bits}
use Rattle.block_networks.specs.SideRule.{Pair, inputPair, outputPair, Joined, Loop, start, to-input, to-output, Lowest, SideRule}
use Rattle.block_networks.specs.SideRule.{RuleBits, rule-wire, rule-level}
use Rattle.block_networks.proofs.Orbits.{Reach, reach_trans, reach_one}
use Rattle.block_networks.proofs.Loops.{partner-partner, partner-half, partner-even, partner_lt, parity, same-pair, flipped, perm_inj, perm_lt}
use Rattle.block_networks.proofs.Loops.{KeyAt, in_last, elsewhere, key-at, key-other, walk_lt, walk_sym, lowest-at, lowest-low}
use Rattle.block_networks.proofs.Loops.{side-partner, side-at, side-straight, side-last}
use Rattle.block_networks.proofs.Halves.{even_place, odd_place, input-sides, half-perm}

-- ---- loops are classes of pairs

pub loop_trans : {π : ℕ → ℕ} {p q r : Pair} → Loop π p q → Loop π q r → Loop π p r
loop_trans l start = l
loop_trans l (to-input m j) = to-input (loop_trans l m) j
loop_trans l (to-output m j) = to-output (loop_trans l m) j

pub loop_sym : {π : ℕ → ℕ} {p q : Pair} → Loop π p q → Loop π q p
loop_sym start = start
loop_sym (to-input l j) = loop_trans (to-output start j) (loop_sym l)
loop_sym (to-output l j) = loop_trans (to-input start j) (loop_sym l)

-- ---- walks and loops

-- a pair that the walk from m passes: an output of it, or one that takes an input of it
record Passes (π ρ : ℕ → ℕ) (m : ℕ) (pair_of : ℕ → ℕ) (k : ℕ) : Type 0 where
  output : ℕ
  reached : Reach (walk π ρ) m output
  is-there : pair_of output ≡ k

abbrev PassesPair : (π ρ : ℕ → ℕ) (m : ℕ) → Pair → Type 0
PassesPair π ρ m (outputPair i) = Passes π ρ m (λ y. y / 2) i
PassesPair π ρ m (inputPair j) = Passes π ρ m (λ y. π y / 2) j

module _ (h : ℕ) {π ρ : ℕ → ℕ} (P : Perm (2 * h) π ρ) where
  step-joins : (y : ℕ) → Joined π (walk π ρ y / 2) (π y / 2)
  unfolding walk
  step-joins y = record {
    output = ρ (partner (π y));
    leaves = sym (partner-half _);
    enters = ap (λ x. x / 2) (P.fro (partner (π y))) ∙ partner-half (π y);
  }

  -- a walk stays in its loop
  walk_loop : (k x : ℕ) → Loop π (outputPair (x / 2)) (outputPair (iterate (walk π ρ) k x / 2))
  unfolding iterate
  walk_loop zero x = start
  walk_loop (suc k) x =
      let y = iterate (walk π ρ) k x in
      to-output (to-input (walk_loop k x) (record { output = y; leaves = refl; enters = refl })) (step-joins y)

  reach_loop : {x y : ℕ} → Reach (walk π ρ) x y → Loop π (outputPair (x / 2)) (outputPair (y / 2))
  reach_loop {x} r = rw r.ends at (walk_loop r.steps x)

  -- the output before y on its walk takes the partner of the input that y's partner takes
  before : (y : ℕ) → Passes π ρ y (λ z. π z / 2) (π (partner y) / 2)
  unfolding walk
  before y =
      let x = partner (π (partner y)) in
      let e : walk π ρ (ρ x) ≡ y = simp (P.fro, P.to, partner-partner) in
      record {
        output = ρ x;
        reached = walk_sym h P {a = ρ x} {b = y} (rw e at (reach_one (walk π ρ) (ρ x)));
        is-there = ap (λ z. z / 2) (P.fro x) ∙ partner-half (π (partner y));
      }

  -- from an output pair of the walk to an input pair joined to it, and back
  pass_input : {m i j : ℕ} → Passes π ρ m (λ y. y / 2) i → Joined π i j → Passes π ρ m (λ y. π y / 2) j
  pass_input {m} {i} {j} t c = go (same-pair c.output t.output (c.leaves ∙ sym t.is-there))
    where
      go : (c.output ≡ t.output) ⊎ (c.output ≡ partner t.output) → Passes π ρ m (λ y. π y / 2) j
      go (inl e) = record { output = t.output; reached = t.reached; is-there = rw e at c.enters }
      go (inr e) =
          let b = before t.output in
          record { output = b.output; reached = reach_trans t.reached b.reached; is-there = b.is-there ∙ (rw e at c.enters) }

  pass_output : {m i j : ℕ} → Passes π ρ m (λ y. π y / 2) j → Joined π i j → Passes π ρ m (λ y. y / 2) i
  unfolding walk
  pass_output {m} {i} {j} t c = go (same-pair (π c.output) (π t.output) (c.enters ∙ sym t.is-there))
    where
      y : ℕ
      y = t.output

      go : (π c.output ≡ π y) ⊎ (π c.output ≡ partner (π y)) → Passes π ρ m (λ y. y / 2) i
      go (inl e) = record { output = y; reached = t.reached; is-there = ap (λ o. o / 2) (sym (perm_inj P _ _ e)) ∙ c.leaves }
      go (inr e) =
          let o : c.output ≡ ρ (partner (π y)) = sym (P.to c.output) ∙ ap ρ e in
          record {
            output = walk π ρ y;
            reached = reach_trans t.reached (reach_one (walk π ρ) y);
            is-there = partner-half _ ∙ ap (λ z. z / 2) (sym o) ∙ c.leaves;
          }

  -- a walk passes all pairs of its loop
  passes : (m : ℕ) {q : Pair} → Loop π (outputPair (m / 2)) q → PassesPair π ρ m q
  unfolding iterate
  passes m start = record { output = m; reached = record { steps = 0; ends = refl }; is-there = refl }
  passes m (to-input l j) = pass_input (passes m l) j
  passes m (to-output l j) = pass_output (passes m l) j

  -- ---- the side follows the rule

  -- the first output of the lowest pair has the least rank on its walk
  lowest-rank : (i : ℕ) → Lowest h π i → (y : ℕ) → Reach (walk π ρ) (2 * i) y → key h (2 * i) ≤ key h y
  lowest-rank i L y r =
      let d : 2 * i / 2 ≡ i = omega arith in
      let l : Loop π (outputPair i) (outputPair (y / 2)) = rw d at (reach_loop r) in
      let n : suc (2 * i / 2) ≢ h = rw d (L.not_last i start) in
      omega (arith, key-other h (2 * i) n, key-other h y (L.not_last (y / 2) l), L.low (y / 2) l)

  pub side-rule : SideRule h π ρ (side h π ρ)
  side-rule = record {
    outputs-apart = λ o l. side-partner h P o;
    inputs_apart = λ x l. input-sides h P x;
    last-straight = side-last h P;
    lowest-straight = λ i l L. side-straight h P (2 * i) (lowest-rank i L) ∙ omega arith;
  }

  -- ---- and is the only one that does

  module _ {t : ℕ → ℕ} (T : SideRule h π ρ t) where
    -- a half is the same along a walk
    half_step : (y : ℕ) → y < 2 * h → t (walk π ρ y) ≡ t y
    unfolding walk
    half_step y l =
        let o = ρ (partner (π y)) in
        let x = perm_lt P y l in
        let i = rw (P.to y) at (T.inputs_apart (π y) x) in
        omega (arith, T.outputs-apart o (perm_lt (flipped P) (partner (π y)) (partner_lt h (π y) x)))

    half_along : (k y : ℕ) → y < 2 * h → t (iterate (walk π ρ) k y) ≡ t y
    unfolding iterate
    half_along zero y l = refl
    half_along (suc k) y l = half_step (iterate (walk π ρ) k y) (walk_lt h P k y l) ∙ half_along k y l

    -- an output of a straight pair has its own place for its half
    half-straight : (m : ℕ) → m < 2 * h → t (2 * (m / 2)) ≡ 0 → t m ≡ m % 2
    half-straight m l e = go (parity m)
      where
        go : (m % 2 ≡ 0) ⊎ (m % 2 ≡ 1) → t m ≡ m % 2
        go (inl p) = (rw (even_place m p) at e) ∙ sym p
        go (inr p) =
            let q : partner (2 * (m / 2)) ≡ m = partner-even (m / 2) ∙ odd_place m p in
            omega (arith, rw q at (T.outputs-apart (2 * (m / 2)) (omega arith)))

    -- the pair of the least rank is straight
    least-straight : (o m : ℕ) → Reach (walk π ρ) o m → lowest h π ρ o ≡ key h m → m < 2 * h → t (2 * (m / 2)) ≡ 0
    least-straight o m r e l = go (key-at h m)
      where
        beyond : (y : ℕ) → Reach (walk π ρ) m y → key h m ≡ m + 2 → KeyAt h y → (m / 2 ≤ y / 2) × (suc (y / 2) ≢ h)
        beyond y s k (in_last q c) = absurd (omega (arith, lowest-low h P (reach_trans r s)))
        beyond y s k (elsewhere q c) = (omega (arith, lowest-low h P (reach_trans r s)), q)

        further : key h m ≡ m + 2 → (j : ℕ) → Loop π (outputPair (m / 2)) (outputPair j) → (m / 2 ≤ j) × (suc j ≢ h)
        further k j p =
            let c : Passes π ρ m (λ y. y / 2) j = passes m p in
            rw c.is-there at (beyond c.output c.reached k (key-at h c.output))

        go : KeyAt h m → t (2 * (m / 2)) ≡ 0
        go (in_last q k) = T.last-straight (m / 2) q
        go (elsewhere q k) =
            T.lowest-straight (m / 2) (omega arith) (record { low = λ j p. (further k j p).0; not_last = λ j p. (further k j p).1 })

    pub side_unique : (o : ℕ) → o < 2 * h → t o ≡ side h π ρ o
    side_unique o l =
        let a = lowest-at h P o in
        let m = a.place in
        let r = a.reached in
        let small : m < 2 * h = rw r.ends at (walk_lt h P r.steps o l) in
        sym (rw r.ends at (half_along r.steps o l)) ∙ half-straight m small (least-straight o m r a.rank small) ∙ sym (side-at h P o)

-- ---- every bit is fixed

-- sides that agree on the places there are leave the same mapping to a half
half_ext : (h : ℕ) {π ρ s t : ℕ → ℕ} → Perm (2 * h) π ρ → ((x : ℕ) → x < 2 * h → s x ≡ t x) → (c : ℕ) → in_half π s c ≡ in_half π t c
unfolding in_half pick
half_ext h {π} {ρ} {s} {t} P e c = fun_ext (λ i. go i (dec_lt i h))
  where
    beyond : (i a : ℕ) → h ≤ i → a < 2 → π (2 * i + a) / 2 ≡ i
    beyond i a l m = ap (λ x. x / 2) (P.past (2 * i + a) (omega arith)) ∙ omega arith

    go : (i : ℕ) → Dec (i < h) → π (2 * i + (s (2 * i) + c) % 2) / 2 ≡ π (2 * i + (t (2 * i) + c) % 2) / 2
    go i (yes l) = ap (λ a. π (2 * i + (a + c) % 2) / 2) (e (2 * i) (omega arith))
    go i (no l) = beyond i _ (omega arith) (omega arith) ∙ sym (beyond i _ (omega arith) (omega arith))

-- the bits of P's program follow the rule
pub permutation_follows : (n : ℕ) {π ρ : ℕ → ℕ} → Perm (2 ^ n) π ρ → RuleBits n π ρ (permutation_bits n π ρ)
unfolding permutation_bits
permutation_follows zero P = rule-wire
permutation_follows (suc n) {π} {ρ} P =
    let Q : Perm (2 * 2 ^ n) π ρ = rw (pow-succ' 2 n) at P in
    rule-level (side (2 ^ n) π ρ) (side-rule (2 ^ n) Q)
    (permutation_follows n (half-perm (2 ^ n) Q 0 (omega arith))) (permutation_follows n (half-perm (2 ^ n) Q 1 (omega arith)))

parts : {a a' b b' c c' d d' : List ℕ} → a ≡ a' → b ≡ b' → c ≡ c' → d ≡ d' → a ++ (b ++ (c ++ d)) ≡ a' ++ (b' ++ (c' ++ d'))
parts p q r s = cc

-- and no others do
pub permutation_fixed : {n : ℕ} {π ρ : ℕ → ℕ} {bits : List ℕ} → Perm (2 ^ n) π ρ → RuleBits n π ρ bits → bits ≡ permutation_bits n π ρ
unfolding permutation_bits
permutation_fixed P rule-wire = refl
permutation_fixed {π = π} {ρ = ρ} P (rule-level {n = n} {upper = upper} {lower = lower} s S u l) =
    let h : ℕ = 2 ^ n in
    let Q : Perm (2 * h) π ρ = rw (pow-succ' 2 n) at P in
    let e : (x : ℕ) → x < 2 * h → s x ≡ side h π ρ x = side_unique h Q S in
    let d : (x : ℕ) → x < 2 * h → s (ρ x) ≡ side h π ρ (ρ x) = λ x m. e (ρ x) (perm_lt (flipped Q) x m) in
    let π= = half_ext h Q e in
    let ρ= = half_ext h (flipped Q) d in
    let half : (c : ℕ) → c < 2 → Perm h (in_half π s c) (in_half ρ (λ x. s (ρ x)) c) = λ c m. rw (π= c, ρ= c) (half-perm h Q c m) in
    parts (list_of_ext h _ _ (λ j m. d (2 * j) (omega arith)))
    (permutation_fixed (half 0 (omega arith)) u ∙ ap₂ (permutation_bits n) (π= 0) (ρ= 0))
    (permutation_fixed (half 1 (omega arith)) l ∙ ap₂ (permutation_bits n) (π= 1) (ρ= 1))
    (list_of_ext (h - 1) _ _ (λ i m. e (2 * i) (omega arith)))
