-- A walk from a loop's leading pair passes each pair of the loop, and marks it right. Taken in the order of the leading pairs, the loops
-- give every output pair and every input pair its side.
use mathlib.Core.Path.{◌≡◌, refl, sym, ap, ◌∙◌}
use mathlib.Core.Logic.{◌≢◌, ◌⊎◌, inl, inr}
use mathlib.Core.List.{List}
use Prim.Native.Nat.{ℕ, zero, suc, ◌+◌, ◌-◌, ◌*◌, ◌/◌, ◌%◌, ◌≤◌, ◌<◌, suc-le-suc}
use native.Mathlib.Nat.{not-suc-le-zero, le_refl, le-suc_iff}
use native.Mathlib.Numerals.{add-one}
use native.Mathlib.Decide.{ℕ_discrete, dec_lt}
use native.Mathlib.Omega.{arith}
use borrow.Author.Tests.{lt-ltb, le-ltb}
use lib.ListN.{length, get_or, set, length-set}
use lib.Seq.{get_or-set_same, get_or-set_other}
use Rattle.lists.proofs.ListsLaws.{get_d_any}
use Rattle.block_networks.specs.Permutation.{Perm, partner, iterate, walk, key, lowest, side}
use Rattle.block_networks.proofs.Orbits.{Reach, reach_one, reach_trans, once-round, Attained}
use Rattle.block_networks.proofs.Loops.{parity, partner-partner, partner-half, partner-even, partner_lt, same-pair, key-at, key_inj, key-partner, key-last, key-other, KeyAt, in_last, elsewhere, flipped, perm_lt}
use Rattle.block_networks.proofs.Loops.{walk_lt, walk_sym, walk-mirror, lowest-at, lowest-low, lowest-same, lowest-partner, side_along, side-partner}
use Rattle.block_networks.proofs.Halves.{side_lt, output-sides}
use Rattle.block_loops.proofs.FillingLaws.{Filled, filled-all}
use Rattle.block_loops.specs.Mappings.{map_of, Paired, walk_in, side_in, pair_side, input_side, row_sides}
use Rattle.block_loops.specs.Marking.{unmarked, marked, visit_pair, loop_of, output_of, row_side, loop_in, Leads, Traced, Unmarked, Visited}

-- ---- loops

-- output y marks x: its pair, or behind the h output pairs the pair of the input that it takes
pub data Marks (h : ℕ) (π : ℕ → ℕ) (x y : ℕ) : Type 0 where
  its-pair : x ≡ y / 2 → Marks h π x y
  its-input : x ≡ h + π y / 2 → Marks h π x y

-- one of the first j places of the walk from a marks x
pub record Passed (f : ℕ → ℕ) (h : ℕ) (π : ℕ → ℕ) (j a x : ℕ) : Type 0 where
  pub steps : ℕ
  pub few : steps < j
  pub marks : Marks h π x (iterate f steps a)

second-partner : (x : ℕ) → x % 2 ≡ 1 → 2 * (x / 2) ≡ partner x
unfolding partner
second-partner x e = omega arith

module _ (h : ℕ) {π ρ : ℕ → ℕ} (P : Perm (2 * h) π ρ) where
  loop_along : {a b : ℕ} → Reach (walk π ρ) a b → loop_of h π ρ a ≡ loop_of h π ρ b
  unfolding loop_of
  loop_along r = ap (λ k. k / 2) (lowest-same h P r)

  loop-partner : (x : ℕ) → loop_of h π ρ (partner x) ≡ loop_of h π ρ x
  unfolding loop_of
  loop-partner x = sym (lowest-partner h P x).1

  loop-pair : (x y : ℕ) → x / 2 ≡ y / 2 → loop_of h π ρ x ≡ loop_of h π ρ y
  loop-pair x y e = go (same-pair x y e)
    where
      go : (x ≡ y) ⊎ (x ≡ partner y) → loop_of h π ρ x ≡ loop_of h π ρ y
      go (inl p) = ap (loop_of h π ρ) p
      go (inr p) = ap (loop_of h π ρ) p ∙ loop-partner y

  -- ranks of one pair are of one pair of outputs
  ranks_pair : (x y : ℕ) → key h x / 2 ≡ key h y / 2 → (x ≡ y) ⊎ (x ≡ partner y)
  ranks_pair x y e = go (same-pair (key h x) (key h y) e)
    where
      go : (key h x ≡ key h y) ⊎ (key h x ≡ partner (key h y)) → (x ≡ y) ⊎ (x ≡ partner y)
      go (inl p) = inl (key_inj h x y p)
      go (inr p) = inr (key_inj h x (partner y) (p ∙ sym (key-partner h y)))

  -- outputs of one loop: a walk leads from the one to the other or to its partner
  same-loop : (a x : ℕ) → loop_of h π ρ x ≡ loop_of h π ρ a → (Reach (walk π ρ) a x) ⊎ (Reach (walk π ρ) a (partner x))
  unfolding loop_of
  same-loop a x e = go (ranks_pair t.place u.place (rw (t.rank, u.rank) at e))
    where
      t : Attained (walk π ρ) (key h) x (lowest h π ρ x)
      t = lowest-at h P x

      u : Attained (walk π ρ) (key h) a (lowest h π ρ a)
      u = lowest-at h P a

      go : (t.place ≡ u.place) ⊎ (t.place ≡ partner u.place) → (Reach (walk π ρ) a x) ⊎ (Reach (walk π ρ) a (partner x))
      go (inl p) = inl (reach_trans u.reached (walk_sym h P (rw p at t.reached)))
      go (inr p) = inr (reach_trans u.reached (walk_sym h P (rw (p, partner-partner u.place) at (walk-mirror h P t.reached))))

  -- the output that takes the first of the two inputs where o takes one: o itself, or the partner of the next output
  taker-is : (o : ℕ) → ((π o % 2 ≡ 0) × (ρ (2 * (π o / 2)) ≡ o)) ⊎ ((π o % 2 ≡ 1) × (ρ (2 * (π o / 2)) ≡ partner (walk π ρ o)))
  unfolding walk
  taker-is o = go (parity (π o))
    where
      go : (π o % 2 ≡ 0) ⊎ (π o % 2 ≡ 1) → ((π o % 2 ≡ 0) × (ρ (2 * (π o / 2)) ≡ o)) ⊎ ((π o % 2 ≡ 1) × (ρ (2 * (π o / 2)) ≡ partner (partner (ρ (partner (π o))))))
      go (inl e) = inl (e, ap ρ (omega (arith, e)) ∙ P.to o)
      go (inr e) = inr (e, ap ρ (second-partner (π o) e) ∙ sym (partner-partner (ρ (partner (π o)))))

  taker-loop : (o : ℕ) → loop_of h π ρ (ρ (2 * (π o / 2))) ≡ loop_of h π ρ o
  taker-loop o = go (taker-is o)
    where
      go : ((π o % 2 ≡ 0) × (ρ (2 * (π o / 2)) ≡ o)) ⊎ ((π o % 2 ≡ 1) × (ρ (2 * (π o / 2)) ≡ partner (walk π ρ o))) → loop_of h π ρ (ρ (2 * (π o / 2))) ≡ loop_of h π ρ o
      go (inl e) = ap (loop_of h π ρ) e.1
      go (inr e) = ap (loop_of h π ρ) e.1 ∙ loop-partner (walk π ρ o) ∙ sym (loop_along (reach_one (walk π ρ) o))

  taker-side : (o : ℕ) → side h π ρ o ≡ 0 → side h π ρ (ρ (2 * (π o / 2))) ≡ π o % 2
  taker-side o s = go (taker-is o)
    where
      go : ((π o % 2 ≡ 0) × (ρ (2 * (π o / 2)) ≡ o)) ⊎ ((π o % 2 ≡ 1) × (ρ (2 * (π o / 2)) ≡ partner (walk π ρ o))) → side h π ρ (ρ (2 * (π o / 2))) ≡ π o % 2
      go (inl e) = ap (side h π ρ) e.1 ∙ s ∙ sym e.0
      go (inr e) = ap (side h π ρ) e.1 ∙ omega (arith, e.0, s, side_along h P (reach_one (walk π ρ) o), side-partner h P (walk π ρ o))

  -- a walk that is back after suc p steps has marked each pair of its loop
  module _ (a p : ℕ) (back : iterate (walk π ρ) (suc p) a ≡ a) where
    within : (x y : ℕ) → Reach (walk π ρ) a y → Marks h π x y → Passed (walk π ρ) h π (suc p) a x
    within x y r q =
        let t = once-round (walk π ρ) a p r.steps back in
        record { steps = t.steps; few = suc-le-suc t.few; marks = rw (t.ends ∙ r.ends) q }

    passes-pair : (i : ℕ) → loop_of h π ρ (2 * i) ≡ loop_of h π ρ a → Passed (walk π ρ) h π (suc p) a i
    passes-pair i e = go (same-loop a (2 * i) e)
      where
        go : (Reach (walk π ρ) a (2 * i)) ⊎ (Reach (walk π ρ) a (partner (2 * i))) → Passed (walk π ρ) h π (suc p) a i
        go (inl r) = within i (2 * i) r (its-pair (omega arith))
        go (inr r) = within i (partner (2 * i)) r (its-pair (omega (arith, partner-half (2 * i))))

    passes-input : (j : ℕ) → loop_of h π ρ (ρ (2 * j)) ≡ loop_of h π ρ a → Passed (walk π ρ) h π (suc p) a (h + j)
    unfolding walk
    passes-input j e = go (same-loop a (ρ (2 * j)) e)
      where
        y : ℕ
        y = ρ (partner (2 * j))

        next : walk π ρ y ≡ partner (ρ (2 * j))
        next = ap (λ z. partner (ρ (partner z))) (P.fro (partner (2 * j))) ∙ ap (λ z. partner (ρ z)) (partner-partner (2 * j))

        go : (Reach (walk π ρ) a (ρ (2 * j))) ⊎ (Reach (walk π ρ) a (partner (ρ (2 * j)))) → Passed (walk π ρ) h π (suc p) a (h + j)
        go (inl r) = within (h + j) (ρ (2 * j)) r (its-input (omega (arith, P.fro (2 * j))))
        go (inr r) =
            within (h + j) y (reach_trans r (walk_sym h P (rw next at (reach_one (walk π ρ) y))))
            (its-input (omega (arith, P.fro (partner (2 * j)), partner-half (2 * j))))

  -- where x's loop is led by o's pair, it is o's loop
  loop-led : (o x : ℕ) → loop_of h π ρ x ≡ key h o / 2 → loop_of h π ρ x ≡ loop_of h π ρ o
  unfolding loop_of
  loop-led o x e =
      let t = lowest-at h P x in
      loop_along t.reached ∙ go (ranks_pair t.place o (rw t.rank at e))
    where
      go : {y : ℕ} → (y ≡ o) ⊎ (y ≡ partner o) → loop_of h π ρ y ≡ loop_of h π ρ o
      go (inl p) = ap (loop_of h π ρ) p
      go (inr p) = ap (loop_of h π ρ) p ∙ loop-partner o

  -- an output's half is that of its pair's first output, or the other one
  pub side-first : (x : ℕ) → side h π ρ x ≡ (side h π ρ (2 * (x / 2)) + x % 2) % 2
  side-first x = go (parity x)
    where
      bit : side h π ρ x < 2
      bit = side_lt (side h π ρ) (output-sides h P) x

      go : (x % 2 ≡ 0) ⊎ (x % 2 ≡ 1) → side h π ρ x ≡ (side h π ρ (2 * (x / 2)) + x % 2) % 2
      go (inl e) =
          let f : 2 * (x / 2) ≡ x = omega arith in
          omega (arith, e, bit, ap (side h π ρ) f)
      go (inr e) =
          let f : partner (2 * (x / 2)) ≡ x = partner-even (x / 2) ∙ omega arith in
          omega (arith, e, bit, ap (side h π ρ) f, side-partner h P (2 * (x / 2)))

  lowest_le : (x : ℕ) → lowest h π ρ x ≤ key h x
  unfolding iterate
  lowest_le x = lowest-low h P {a = x} {b = x} (record { steps = 0; ends = refl })

-- ---- a mapping of pairs and its inverse, as lists

pub read-map : (l : List ℕ) (x : ℕ) → x < length l → get_or l x 0 ≡ map_of l x
unfolding map_of
read-map l x h = get_d_any l x 0 x h

module _ {p q : List ℕ} (G : Paired p q) where
  pub place_lt : (x : ℕ) → x < length p → get_or p x 0 < length p
  place_lt x l = rw (read-map p x l, ← G.even) (perm_lt G.perm x (rw G.even l))

  pub pair_lt : (x : ℕ) → x < length p → partner x < length p
  pair_lt x l = rw (← G.even) (partner_lt (length p / 2) x (rw G.even l))

  -- the four reads of a step
  pub step_is : (o : ℕ) → o < length p → partner (get_or q (partner (get_or p o 0)) 0) ≡ walk_in p q o
  unfolding walk
  step_is o l =
      let b : partner (get_or p o 0) < length q = rw G.size (pair_lt (get_or p o 0) (place_lt o l)) in
      rw (read-map q (partner (get_or p o 0)) b, read-map p o l)

-- ---- a walk round a loop

pair-output : (p q : List ℕ) (x : ℕ) → x < length p / 2 → output_of p q x ≡ 2 * x
pair-output p q x l = rw (lt-ltb x (length p / 2) l)

input-output : (p q : List ℕ) (j : ℕ) → output_of p q (length p / 2 + j) ≡ map_of q (2 * j)
input-output p q j = rw (le-ltb (length p / 2 + j) (length p / 2) (omega arith)) (ap (λ k. map_of q (2 * k)) (omega arith))

-- the walk from pair i's first output has come to o after j steps, not yet back, and has marked what it passed
pub record Walked (p q : List ℕ) (i : ℕ) (m₀ m : List ℕ) (o j : ℕ) : Type 0 where
  pub here : o ≡ iterate (walk_in p q) j (2 * i)
  pub size : length m ≡ length m₀
  pub away : (k : ℕ) → 1 ≤ k → k ≤ j → iterate (walk_in p q) k (2 * i) ≢ 2 * i
  pub done : (x : ℕ) → Passed (walk_in p q) (length p / 2) (map_of p) j (2 * i) x → get_or m x 0 ≡ row_side p q x
  pub kept : (x : ℕ) → loop_in p q x ≢ loop_in p q i → get_or m x 0 ≡ get_or m₀ x 0

module _ {p q : List ℕ} (G : Paired p q) (i : ℕ) (L : Leads p q i) (m₀ : List ℕ) (ms : length m₀ ≡ length p) where
  abbrev h : ℕ
  h = length p / 2

  abbrev loop : ℕ → ℕ
  loop = loop_of h (map_of p) (map_of q)

  pub walked_none : Walked p q i m₀ m₀ (2 * i) 0
  unfolding iterate
  walked_none =
      record { here = refl; size = refl; away = λ k a b. absurd (omega arith); done = λ x t. absurd (not-suc-le-zero t.few); kept = λ x e. refl }

  -- a place of the walk is an output of the upper half
  on-walk : (j : ℕ) → Reach (walk_in p q) (2 * i) (iterate (walk_in p q) j (2 * i))
  on-walk j = record { steps = j; ends = refl }

  on-side : (j : ℕ) → side_in p q (iterate (walk_in p q) j (2 * i)) ≡ 0
  on-side j = sym (side_along h G.perm (on-walk j)) ∙ L.straight

  pub walked_below : {m : List ℕ} {o j : ℕ} → Walked p q i m₀ m o j → o < length p
  walked_below {m} {o} {j} W = rw (W.here, ← G.even) (walk_lt h G.perm j (2 * i) (omega (arith, L.below)))

  module _ {m : List ℕ} {o j : ℕ} (W : Walked p q i m₀ m o j) where
    -- the input that o takes
    abbrev v : ℕ
    v = map_of p o

    below : o / 2 < h
    below = omega (arith, G.even, walked_below W)

    -- o's pair and its input's pair are marked too
    done_more : (x : ℕ) → Passed (walk_in p q) h (map_of p) (suc j) (2 * i) x → get_or (marked h m o v) x 0 ≡ row_side p q x
    done_more x t = go (ℕ_discrete x (h + v / 2)) (ℕ_discrete x (o / 2))
      where
        even-size : length m ≡ 2 * h
        even-size = W.size ∙ ms ∙ sym G.even

        upper : side_in p q o ≡ 0
        upper = ap (side_in p q) W.here ∙ on-side j

        pair-side : row_side p q (o / 2) ≡ o % 2
        pair-side =
            ap (side_in p q) (pair-output p q (o / 2) below)
            ∙ omega (arith, side-first h G.perm o, upper, side_lt (side_in p q) (output-sides h G.perm) (2 * (o / 2)))

        input-side : row_side p q (h + v / 2) ≡ v % 2
        input-side = ap (side_in p q) (input-output p q (v / 2)) ∙ taker-side h G.perm o upper

        input-below : h + v / 2 < length (set m (o / 2) (o % 2))
        input-below = omega (arith, length-set m (o / 2) (o % 2), even-size, perm_lt G.perm o (rw G.even (walked_below W)))

        marks_it : Marks h (map_of p) x (iterate (walk_in p q) j (2 * i)) → x ≢ h + v / 2 → x ≢ o / 2 → ⊥
        marks_it (its-pair e) n f = f (e ∙ ap (λ y. y / 2) (sym W.here))
        marks_it (its-input e) n f = n (e ∙ ap (λ y. h + map_of p y / 2) (sym W.here))

        earlier : x ≢ h + v / 2 → x ≢ o / 2 → (t.steps ≡ j) ⊎ (t.steps < j) → get_or m x 0 ≡ row_side p q x
        earlier n f (inl e) = absurd (marks_it (rw e at t.marks) n f)
        earlier n f (inr l) = W.done x (record { steps = t.steps; few = l; marks = t.marks })

        go : Dec (x ≡ h + v / 2) → Dec (x ≡ o / 2) → get_or (marked h m o v) x 0 ≡ row_side p q x
        go (yes e) d = rw e (get_or-set_same (set m (o / 2) (o % 2)) (h + v / 2) (v % 2) 0 input-below ∙ sym input-side)
        go (no n) (yes e) =
            get_or-set_other (set m (o / 2) (o % 2)) (h + v / 2) x (v % 2) 0 n
            ∙ rw e (get_or-set_same m (o / 2) (o % 2) 0 (omega (arith, even-size, below)) ∙ sym pair-side)
        go (no n) (no f) =
            get_or-set_other (set m (o / 2) (o % 2)) (h + v / 2) x (v % 2) 0 n ∙ get_or-set_other m (o / 2) x (o % 2) 0 f
            ∙ earlier n f (elim (dec_lt t.steps j) [ yes l ↦ inr l | no g ↦ inl (let b = t.few in omega arith) ])

    kept_more : (x : ℕ) → loop_in p q x ≢ loop_in p q i → get_or (marked h m o v) x 0 ≡ get_or m₀ x 0
    kept_more x n =
        get_or-set_other (set m (o / 2) (o % 2)) (h + v / 2) x (v % 2) 0 (λ e. n (ap (loop_in p q) e
        ∙ ap loop (input-output p q (v / 2)) ∙ taker-loop h G.perm o ∙ this_loop))
        ∙ get_or-set_other m (o / 2) x (o % 2) 0 (λ e. n (ap (loop_in p q) e
        ∙ ap loop (pair-output p q (o / 2) below) ∙ loop-pair h G.perm (2 * (o / 2)) o (omega arith) ∙ this_loop))
        ∙ W.kept x n
      where
        this_loop : loop o ≡ loop_in p q i
        this_loop = ap loop W.here ∙ sym (loop_along h G.perm (on-walk j)) ∙ ap loop (sym (pair-output p q i L.below))

    all-passed : (x : ℕ) → iterate (walk_in p q) (suc j) (2 * i) ≡ 2 * i → loop_in p q x ≡ loop_in p q i → Passed (walk_in p q) h (map_of p) (suc j) (2 * i) x
    all-passed x back e = go (dec_lt x h)
      where
        led : loop_in p q x ≡ loop (2 * i)
        led = e ∙ ap loop (pair-output p q i L.below)

        go : Dec (x < h) → Passed (walk_in p q) h (map_of p) (suc j) (2 * i) x
        go (yes l) = passes-pair h G.perm (2 * i) j back x (ap loop (sym (pair-output p q x l)) ∙ led)
        go (no f) =
            let k : h + (x - h) ≡ x = omega arith in
            rw k at (passes-input h G.perm (2 * i) j back (x - h) (ap loop (sym (input-output p q (x - h))) ∙ ap (loop_in p q) k ∙ led))

    next-is : {o' : ℕ} → o' ≡ walk_in p q o → o' ≡ iterate (walk_in p q) (suc j) (2 * i)
    unfolding iterate
    next-is e = e ∙ ap (walk_in p q) W.here

    marked-size : length (marked h m o v) ≡ length m₀
    marked-size = length-set (set m (o / 2) (o % 2)) (h + v / 2) (v % 2) ∙ length-set m (o / 2) (o % 2) ∙ W.size

    -- one more step, which does not come back to the start
    pub walked_more : {o' x : ℕ} → x ≡ v → o' ≡ walk_in p q o → o' ≢ 2 * i → Walked p q i m₀ (marked h m o x) o' (j + 1)
    walked_more {o'} ev e n =
        rw (ev, add-one j) record { here = next-is e; size = marked-size; away = λ k a b. far k a (le-suc_iff.0 b); done = done_more; kept = kept_more }
      where
        far : (k : ℕ) → 1 ≤ k → (k ≤ j) ⊎ (k ≡ suc j) → iterate (walk_in p q) k (2 * i) ≢ 2 * i
        far k a (inl l) = W.away k a l
        far k a (inr c) = λ r. n (next-is e ∙ ap (λ t. iterate (walk_in p q) t (2 * i)) (sym c) ∙ r)

    -- the step that comes back
    pub walked_round : {o' x : ℕ} → x ≡ v → o' ≡ walk_in p q o → o' ≡ 2 * i → Traced p q i m₀ (marked h m o x)
    walked_round ev e b =
        rw ev record { size = marked-size; done = λ x c. done_more x (all-passed x (sym (next-is e) ∙ b) c); kept = kept_more }

-- ---- all loops

pub unmarked-more : {m : List ℕ} {i : ℕ} → i < length m → Unmarked i m → Unmarked (i + 1) (set m i unmarked)
unmarked-more {m} {i} l u = record { each = λ x d. go x d (ℕ_discrete x i) }
  where
    go : (x : ℕ) → x < i + 1 → Dec (x ≡ i) → get_or (set m i unmarked) x 0 ≡ unmarked
    go x d (yes e) = rw e (get_or-set_same m i unmarked 0 l)
    go x d (no n) = get_or-set_other m i x unmarked 0 n ∙ u.each x (omega arith)

visit_lt : (h k : ℕ) → k < h → visit_pair h k < h
unfolding visit_pair
visit_lt h zero l = omega arith
visit_lt h (suc k) l = omega arith

-- the pairs are taken in the order of their ranks
visit_key : (h k : ℕ) → k < h → key h (2 * visit_pair h k) ≡ 2 * k
unfolding visit_pair
visit_key h zero l = key-last h (2 * visit_pair h zero) (omega arith) ∙ omega arith
visit_key h (suc k) l = key-other h (2 * visit_pair h (suc k)) (λ e. absurd (omega arith)) ∙ omega arith

key_lt : (h x : ℕ) → x < 2 * h → key h x < 2 * h
key_lt h x l = go (key-at h x)
  where
    go : KeyAt h x → key h x < 2 * h
    go (in_last e k) = omega arith
    go (elsewhere n k) = omega arith

-- the loops that are led by the first k pairs taken are marked, and no others
pub record Swept (p q : List ℕ) (k : ℕ) (m : List ℕ) : Type 0 where
  pub size : length m ≡ length p
  pub done : (x : ℕ) → x < length p → loop_in p q x < k → get_or m x 0 ≡ row_side p q x
  pub left : (x : ℕ) → x < length p / 2 → k ≤ loop_in p q x → get_or m x 0 ≡ unmarked

pub swept_none : {p m : List ℕ} (q : List ℕ) → length m ≡ length p → Unmarked (length p / 2) m → Swept p q 0 m
swept_none q e u = record { size = e; done = λ x l d. absurd (not-suc-le-zero d); left = λ x l d. u.each x l }

module _ {p q : List ℕ} (G : Paired p q) where
  -- pair i is the next to be taken, as number k
  module _ {k : ℕ} (kh : k < length p / 2) {m : List ℕ} (S : Swept p q k m) {i : ℕ} (ei : i ≡ visit_pair (length p / 2) k) where
    i-key : key (length p / 2) (2 * i) ≡ 2 * k
    i-key = ap (λ x. key (length p / 2) (2 * x)) ei ∙ visit_key (length p / 2) k kh

    visit_below : i < length p / 2
    visit_below = rw ei (visit_lt (length p / 2) k kh)

    i-loop : loop_in p q i ≡ loop_of (length p / 2) (map_of p) (map_of q) (2 * i)
    i-loop = ap (loop_of (length p / 2) (map_of p) (map_of q)) (pair-output p q i visit_below)

    -- if it is unmarked, it leads its loop
    lowest-is : get_or m i 0 ≡ unmarked → lowest (length p / 2) (map_of p) (map_of q) (2 * i) ≡ 2 * k
    unfolding loop_of
    lowest-is e = go (dec_lt (lowest (length p / 2) (map_of p) (map_of q) (2 * i)) (2 * k))
      where
        go : Dec (lowest (length p / 2) (map_of p) (map_of q) (2 * i) < 2 * k) → lowest (length p / 2) (map_of p) (map_of q) (2 * i) ≡ 2 * k
        go (yes l) =
            absurd (omega (
              arith,
              e,
              S.done i (omega (arith, visit_below)) (omega (arith, i-loop)),
              side_lt (side_in p q) (output-sides (length p / 2) G.perm) (output_of p q i),
            ))
        go (no f) = omega (arith, i-key, lowest_le (length p / 2) G.perm (2 * i))

    pub leads : get_or m i 0 ≡ unmarked → Leads p q i
    unfolding side
    leads e = record { below = visit_below; straight = omega (arith, lowest-is e) }

    loop-is : get_or m i 0 ≡ unmarked → loop_in p q i ≡ k
    unfolding loop_of
    loop-is e = i-loop ∙ omega (arith, lowest-is e)

    -- if it is marked, it leads none
    no_loop : get_or m i 0 ≢ unmarked → (x : ℕ) → loop_in p q x ≢ k
    no_loop n x e =
        n (S.left i visit_below (omega (arith, e, i-loop, loop-led (length p / 2) G.perm (2 * i) (output_of p q x) (omega (arith, e, i-key)))))

    pub swept_more : {m' : List ℕ} → Visited p q i m m' → Swept p q (k + 1) m'
    swept_more {m'} T = go (ℕ_discrete (get_or m i 0) unmarked)
      where
        go : Dec (get_or m i 0 ≡ unmarked) → Swept p q (k + 1) m'
        go (yes e) = record {
          size = (T.new e).size ∙ S.size;
          done = λ x l d. elim (ℕ_discrete (loop_in p q x) k) [
            | yes c ↦ (T.new e).done x (c ∙ sym (loop-is e))
            | no f ↦ (T.new e).kept x (λ c. f (c ∙ loop-is e)) ∙ S.done x l (omega arith)
          ];
          left = λ x l d. (T.new e).kept x (λ c. absurd (omega (arith, c, loop-is e))) ∙ S.left x l (omega arith);
        }
        go (no n) = rw (T.old n) record {
          size = S.size;
          done = λ x l d. S.done x l (elim (ℕ_discrete (loop_in p q x) k) [ yes c ↦ absurd (no_loop n x c) | no g ↦ omega arith ]);
          left = λ x l d. S.left x l (omega arith);
        }

  -- every loop is led by one of the pairs
  led : (y : ℕ) → y < 2 * (length p / 2) → loop_of (length p / 2) (map_of p) (map_of q) y < length p / 2
  unfolding loop_of
  led y l = omega (arith, lowest_le (length p / 2) G.perm y, key_lt (length p / 2) y l)

  pub swept_all : {k : ℕ} {m : List ℕ} → length p / 2 ≤ k → Swept p q k m → m ≡ row_sides p q
  swept_all {k} {m} l S = filled-all filled (le_refl (length p / 2)) (le_refl (length p / 2))
    where
      right : (x y : ℕ) → x < length p → y < 2 * (length p / 2) → output_of p q x ≡ y → get_or m x 0 ≡ side_in p q y
      right x y d b e = S.done x d (omega (arith, ap (loop_of (length p / 2) (map_of p) (map_of q)) e, led y b)) ∙ ap (side_in p q) e

      filled : Filled (length p / 2) (pair_side p q) (input_side p q) m (length p / 2) (length p / 2)
      filled = record {
        size = S.size ∙ sym G.even;
        upper = λ x d. right x (2 * x) (omega (arith, G.even)) (omega arith) (pair-output p q x d);
        lower = λ x d. right (length p / 2 + x) (map_of q (2 * x)) (omega (arith, G.even)) (perm_lt (flipped G.perm) (2 * x) (omega arith)) (input-output p q x);
      }

pub visit_first : (h : ℕ) → h - 1 ≡ visit_pair h 0
unfolding visit_pair
visit_first h = refl

pub visit_next : (h k : ℕ) → 1 ≤ k → k - 1 ≡ visit_pair h k
unfolding visit_pair
visit_next h zero l = absurd (not-suc-le-zero l)
visit_next h (suc k) l = omega arith
