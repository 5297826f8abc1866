-- A list that is given place by place is a one-to-one mapping if its function is one, with the same program bits. So the bits of a level
-- are those of its input rows, of the two halves' lists, and of its output rows.
use mathlib.Core.Path.{◌≡◌, refl, sym, ap, ◌∙◌, fun_ext}
use mathlib.Core.Logic.{◌⊎◌, inl, inr}
use mathlib.Core.List.{List, ◌++◌}
use Prim.Native.Nat.{ℕ, suc, ◌+◌, ◌-◌, ◌*◌, ◌/◌, ◌%◌, ◌^◌, ◌≤◌, ◌<◌}
use native.Mathlib.Nat.{ne_of_lt}
use native.Mathlib.Decide.{dec_lt}
use native.Mathlib.Omega.{arith}
use lib.ListN.{length, get_or, set, take, drop, length-set, length-append, length-take, get_or-eq_default}
use lib.Seq.{ext_get_or, get_or-set_same, get_or-set_other, get_or-take, take_at, drop_at, take-take}
use Rattle.lists.specs.Lists.{list_of}
use Rattle.lists.proofs.ListsLaws.{length-list_of, get_or-list_of, get_or-list_of-all, list_of_ext, list_of-front}
use Rattle.block_elements.specs.Bits.{AreBits, store_bits}
use Rattle.block_elements.proofs.BitsLaws.{bits-append, bits-list_of}
use Rattle.block_bits.specs.Stores.{low_bits}
use Rattle.block_bits.proofs.PackingLaws.{low_bits-same}
use Rattle.block_networks.specs.Permutation.{Perm, side, pick, in_half, permutation_count, permutation_bits}
use Rattle.block_networks.proofs.Loops.{parity, flipped, perm_inj, perm_lt}
use Rattle.block_networks.proofs.Halves.{half-perm, side_lt, output-sides}
use Rattle.block_networks.proofs.Routing.{length-permutation_bits, permutation_bits-bits}
use Rattle.block_networks.specs.Wanted.{taker_of}
use Rattle.block_networks.proofs.WantedLaws.{taker-perm}
use Rattle.block_loops.specs.Mappings.{map_of, inverse_of, IsPerm, list_bits, Paired, side_in, pair_side, inverse_list, input_side, input_sides, output_sides, row_sides, rows_stored, half_entry, half_list, sides_of, Levelled}
use Rattle.block_loops.proofs.MarkingLaws.{read-map}

-- ---- lists given place by place

same-list_of : {j k : ℕ} {f g : ℕ → ℕ} → j ≡ k → ((i : ℕ) → i < k → f i ≡ g i) → list_of j f ≡ list_of k g
same-list_of {j} {k} {f} {g} e h = ap (λ n. list_of n f) e ∙ list_of_ext k f g h

take-list_of : (f : ℕ → ℕ) (j k : ℕ) → j ≤ k → take j (list_of k f) ≡ list_of j f
take-list_of f j k l =
    let t = list_of-front f {j = j} k l in
    ap (take j) t.1 ∙ take_at (list_of j f) t.0 j (length-list_of j f)

map-list_of : (n : ℕ) (f : ℕ → ℕ) → ((i : ℕ) → n ≤ i → f i ≡ i) → map_of (list_of n f) ≡ f
unfolding map_of
map-list_of n f past = fun_ext (λ i. get_or-list_of-all n f i i (past i))

-- a mapping has one inverse, the one that looks for the taker
taker-is : {N : ℕ} {π ρ : ℕ → ℕ} → Perm N π ρ → taker_of N π ≡ ρ
taker-is {N} {π} {ρ} P =
    let T = taker-perm N π (perm_lt P) P.past (λ a b la lb e. perm_inj P a b e) in
    fun_ext (λ x. ap (taker_of N π) (sym (P.fro x)) ∙ T.to (ρ x))

module _ {N : ℕ} {π ρ : ℕ → ℕ} (P : Perm N π ρ) where
  inverse-listed : inverse_of (list_of N π) ≡ ρ
  unfolding inverse_of
  inverse-listed = rw (length-list_of N π, map-list_of N π P.past) (taker-is P)

  pub perm-listed : IsPerm (list_of N π)
  perm-listed = record { perm = rw (inverse-listed, length-list_of N π, map-list_of N π P.past) P }

  pub bits-listed : (n : ℕ) → list_bits n (list_of N π) ≡ permutation_bits n π ρ
  unfolding list_bits
  bits-listed n = rw (inverse-listed, map-list_of N π P.past)

pub length-list_bits : (n : ℕ) (p : List ℕ) → length (list_bits n p) ≡ permutation_count n
unfolding list_bits
length-list_bits n p = length-permutation_bits n (map_of p) (inverse_of p)

pub list_bits-bits : (n : ℕ) {p : List ℕ} → length p ≡ 2 ^ n → IsPerm p → AreBits (list_bits n p)
unfolding list_bits
list_bits-bits n e P = permutation_bits-bits n (rw e at P.perm)

-- ---- the inverse, store by store

pub record Inverted (p q : List ℕ) (i : ℕ) : Type 0 where
  pub size : length q ≡ length p
  pub done : (o : ℕ) → o < i → get_or q (map_of p o) 0 ≡ o

module _ {p : List ℕ} (P : IsPerm p) where
  pub entry_lt : (o : ℕ) → o < length p → get_or p o 0 < length p
  entry_lt o l = rw (read-map p o l) (perm_lt P.perm o l)

  inverted-more : {q : List ℕ} {i : ℕ} → i < length p → Inverted p q i → Inverted p (set q (get_or p i 0) i) (i + 1)
  inverted-more {q} {i} l W = rw (read-map p i l) record {
    size = length-set q (map_of p i) i ∙ W.size;
    done = λ o d. go o d (dec_lt o i);
  }
    where
      go : (o : ℕ) → o < i + 1 → Dec (o < i) → get_or (set q (map_of p i) i) (map_of p o) 0 ≡ o
      go o d (yes m) = get_or-set_other q (map_of p i) (map_of p o) i 0 (λ e. ne_of_lt m (perm_inj P.perm o i e)) ∙ W.done o m
      go o d (no n) =
          let e : o ≡ i = omega arith in
          rw e (get_or-set_same q (map_of p i) i 0 (rw W.size (perm_lt P.perm i l)))

  -- a pair of outputs
  pub inverted-pair : {q : List ℕ} {i a b : ℕ} → i < length p / 2 → a ≡ get_or p (2 * i) 0 → b ≡ get_or p (2 * i + 1) 0 → Inverted p q (2 * i)
      → Inverted p (set (set q a (2 * i)) b (2 * i + 1)) (2 * (i + 1))
  inverted-pair {q} {i} l ea eb W =
      let e : 2 * (i + 1) ≡ 2 * i + 1 + 1 = omega arith in
      rw (ea, eb, e) (inverted-more (omega arith) (inverted-more (omega arith) W))

  pub inverted-all : {q : List ℕ} {i : ℕ} → length p ≤ i → Inverted p q i → q ≡ inverse_list p
  inverted-all {q} {i} l W =
      ext_get_or 0 q (inverse_list p) (W.size ∙ sym (length-list_of (length p) (inverse_of p))) (λ x d.
      let b : x < length p = rw W.size at d in
      ap (λ y. get_or q y 0) (sym (P.perm.fro x))
      ∙ W.done (inverse_of p x) (omega (arith, perm_lt (flipped P.perm) x b))
      ∙ sym (get_or-list_of (length p) (inverse_of p) x 0 b))

-- ---- one level

module _ (h : ℕ) {p : List ℕ} (lp : length p ≡ 2 * h) (P : IsPerm p) where
  halved : length p / 2 ≡ h
  halved = omega arith

  perm₂ : Perm (2 * h) (map_of p) (inverse_of p)
  perm₂ = rw lp at P.perm

  map-inverse : map_of (inverse_list p) ≡ inverse_of p
  map-inverse = map-list_of (length p) (inverse_of p) (flipped P.perm).past

  pub paired : Paired p (inverse_list p)
  paired = record { even = omega arith; size = length-list_of (length p) (inverse_of p); perm = rw (map-inverse, halved) perm₂ }

  side-is : side_in p (inverse_list p) ≡ side h (map_of p) (inverse_of p)
  side-is = rw (map-inverse, halved)

  pub sides-bits : AreBits (sides_of p)
  sides-bits = bits-list_of (length p / 2) (λ i. rw side-is (side_lt (side h (map_of p) (inverse_of p)) (output-sides h perm₂) (2 * i)))

  pub inputs-bits : AreBits (input_sides p (inverse_list p))
  inputs-bits = bits-list_of (length p / 2) (λ j. rw side-is (side_lt (side h (map_of p) (inverse_of p)) (output-sides h perm₂) (map_of (inverse_list p) (2 * j))))

  side-at : (i : ℕ) → i < h → get_or (sides_of p) i 0 ≡ side h (map_of p) (inverse_of p) (2 * i)
  side-at i l = get_or-list_of (length p / 2) (pair_side p (inverse_list p)) i 0 (rw halved l) ∙ ap (λ (f : ℕ → ℕ). f (2 * i)) side-is

  inputs_are_lem : input_sides p (inverse_list p) ≡ list_of h (λ j. side h (map_of p) (inverse_of p) (inverse_of p (2 * j)))
  inputs_are_lem = same-list_of halved (λ j l. ap (λ (f : ℕ → ℕ). f (map_of (inverse_list p) (2 * j))) side-is ∙ ap (λ (g : ℕ → ℕ). side h (map_of p) (inverse_of p) (g (2 * j))) map-inverse)

  outputs_are : output_sides (sides_of p) ≡ list_of (h - 1) (λ i. side h (map_of p) (inverse_of p) (2 * i))
  outputs_are =
      ap (λ n. take (n - 1) (sides_of p)) (length-list_of (length p / 2) (pair_side p (inverse_list p)))
      ∙ take-list_of (pair_side p (inverse_list p)) (length p / 2 - 1) (length p / 2) (omega arith)
      ∙ same-list_of (ap (λ n. n - 1) halved) (λ i l. ap (λ (f : ℕ → ℕ). f (2 * i)) side-is)

  half_is_lem : (c : ℕ) → half_list c p (sides_of p) ≡ list_of h (in_half (map_of p) (side h (map_of p) (inverse_of p)) c)
  unfolding in_half pick
  half_is_lem c =
      same-list_of halved (λ i l.
      let s = side h (map_of p) (inverse_of p) (2 * i) in
      ap (λ y. get_or p (2 * i + (y + c) % 2) 0 / 2) (side-at i l)
      ∙ ap (λ y. y / 2) (read-map p (2 * i + (s + c) % 2) (omega arith)))

  pub half-size : (c : ℕ) → length (half_list c p (sides_of p)) ≡ h
  half-size c = length-list_of (length p / 2) _ ∙ halved

  pub half-listed : (c : ℕ) → c < 2 → IsPerm (half_list c p (sides_of p))
  half-listed c l = rw (half_is_lem c) (perm-listed (half-perm h perm₂ c l))

  half-bits : (n c : ℕ) → c < 2
      → list_bits n (half_list c p (sides_of p))
      ≡ permutation_bits n (in_half (map_of p) (side h (map_of p) (inverse_of p)) c) (in_half (inverse_of p) (λ x. side h (map_of p) (inverse_of p) (inverse_of p x)) c)
  half-bits n c l = ap (list_bits n) (half_is_lem c) ∙ bits-listed (half-perm h perm₂ c l) n

-- input rows, upper, lower, output rows
pub level-bits : (n : ℕ) {p : List ℕ} → length p ≡ 2 * 2 ^ n → IsPerm p
    → list_bits (suc n) p
    ≡ input_sides p (inverse_list p)
    ++ (list_bits n (half_list 0 p (sides_of p)) ++ (list_bits n (half_list 1 p (sides_of p)) ++ output_sides (sides_of p)))
level-bits n lp P =
    let h = 2 ^ n in
    rw (inputs_are_lem h lp P, outputs_are h lp P, half-bits h lp P n 0 (omega arith), half-bits h lp P n 1 (omega arith))
    (unfold list_bits permutation_bits in refl)

-- ---- what the calls of a level hand on

pub bits-take : (n : ℕ) {m : List ℕ} → AreBits m → AreBits (take n m)
bits-take n {m} h = record { each = λ i. go i (dec_lt i n) }
  where
    go : (i : ℕ) → Dec (i < n) → get_or (take n m) i 0 < 2
    go i (yes l) = rw (get_or-take n m i 0 l) (h.each i)
    go i (no f) = rw (get_or-eq_default (take n m) 0 {n = i} (omega (arith, length-take n m))) (omega arith)

-- an entry of a half's mapping, by the side of its pair
pub half-entry : (c : ℕ) (p m : List ℕ) (i : ℕ) {r : ℕ} → ((get_or m i 0 + c) % 2 ≡ 0 → r ≡ get_or p (2 * i) 0 / 2)
    → ((get_or m i 0 + c) % 2 ≡ 1 → r ≡ get_or p (2 * i + 1) 0 / 2) → r ≡ half_entry c p m i
half-entry c p m i {r} first second = go (parity (get_or m i 0 + c))
  where
    go : ((get_or m i 0 + c) % 2 ≡ 0) ⊎ ((get_or m i 0 + c) % 2 ≡ 1) → r ≡ half_entry c p m i
    go (inl e) = first e ∙ ap (λ k. get_or p k 0 / 2) (omega (arith, e))
    go (inr e) = second e ∙ ap (λ k. get_or p (2 * i + k) 0 / 2) (sym e)

module _ {p : List ℕ} (P : IsPerm p) (even : 2 * (length p / 2) ≡ length p) where
  abbrev h : ℕ
  h = length p / 2

  abbrev rows : List ℕ
  rows = row_sides p (inverse_list p)

  length-sides : length (sides_of p) ≡ h
  length-sides = length-list_of h (pair_side p (inverse_list p))

  length-inputs : length (input_sides p (inverse_list p)) ≡ h
  length-inputs = length-list_of h (input_side p (inverse_list p))

  half-rows : length rows / 2 ≡ h
  half-rows = ap (λ n. n / 2) (length-append (sides_of p) (input_sides p (inverse_list p))) ∙ omega (arith, length-sides, length-inputs)

  front-rows : take h rows ≡ sides_of p
  front-rows = take_at (sides_of p) (input_sides p (inverse_list p)) h length-sides

  inputs-low : low_bits (drop h rows) ≡ input_sides p (inverse_list p)
  inputs-low =
      ap low_bits (drop_at (sides_of p) (input_sides p (inverse_list p)) h length-sides)
      ∙ low_bits-same (input_sides p (inverse_list p)) (inputs-bits h (sym even) P)

  outputs-low : low_bits (take (h - 1) rows) ≡ output_sides (sides_of p)
  outputs-low =
      ap low_bits (sym (take-take (h - 1) h rows (omega arith)) ∙ ap (take (h - 1)) front-rows)
      ∙ low_bits-same (take (h - 1) (sides_of p)) (bits-take (h - 1) (sides-bits h (sym even) P))
      ∙ ap (λ n. take (n - 1) (sides_of p)) (sym length-sides)

  pub rows-bits : AreBits rows
  rows-bits = bits-append (sides-bits h (sym even) P) (inputs-bits h (sym even) P)

  pub levelled : {w maps before after : List ℕ} {start part n : ℕ} → n ≡ h → w ≡ rows → after ≡ rows_stored before start part w
      → maps ≡ half_list 0 p (take n w) ++ half_list 1 p (take n w) → Levelled p maps start part before after
  levelled {w} {maps} {before} {after} {start} {part} {n} en ew stored maps-are =
      record {
        halved = maps-are ∙ ap (λ m. half_list 0 p m ++ half_list 1 p m) (ap (take n) ew ∙ ap (λ k. take k rows) en ∙ front-rows);
        stored =
            stored ∙ ap (rows_stored before start part) ew
            ∙ ap (λ n. store_bits (store_bits before start (low_bits (drop n rows))) (start + n + part + part) (low_bits (take (n - 1) rows))) half-rows
            ∙ ap (λ b. store_bits (store_bits before start b) (start + h + part + part) (low_bits (take (h - 1) rows))) inputs-low
            ∙ ap (store_bits (store_bits before start (input_sides p (inverse_list p))) (start + h + part + part)) outputs-low;
      }
