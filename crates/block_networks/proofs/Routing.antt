-- For any bits P joins inputs and outputs one to one: X rows, the two halves and X rows again are one to one each.
-- Programmed for π, output o comes through the half of its side, in which output o / 2 takes input π o / 2, and leaves the input X rows at π o.
use mathlib.Core.Path.{◌≡◌, refl, sym, ap, ap₂, ◌∙◌, fun_ext}
use mathlib.Core.Logic.{◌⊎◌, inl, inr}
use mathlib.Core.List.{List, ◌++◌, append_assoc}
use Prim.Native.Nat.{ℕ, zero, suc, ◌+◌, ◌-◌, ◌*◌, ◌/◌, ◌%◌, ◌^◌, ◌≤◌, ◌<◌, zero-le, suc-le-suc}
use native.Mathlib.Nat.{pow-succ', min-le_left}
use native.Mathlib.Omega.{arith}
use native.Mathlib.Decide.{dec_lt}
use lib.ListN.{length, get_or, take, drop, length-take, length-append, get_or-eq_default}
use lib.Seq.{take_at, drop_at}
use Rattle.lists.specs.Lists.{list_of}
use Rattle.lists.proofs.ListsLaws.{length-list_of, get_or-list_of-all}
use Rattle.block_elements.specs.Rows.{choose}
use Rattle.block_elements.specs.Bits.{AreBits}
use Rattle.block_elements.proofs.BitsLaws.{bits-append, bits-list_of}
use Rattle.block_networks.specs.Permutation.{permutation_count, Perm, partner, side, in_half, permutation_bits}
use Rattle.block_networks.proofs.Sources.{cross, through, input_bits, upper_bits, lower_bits, output_bits, source, target}
use Rattle.block_networks.proofs.Loops.{partner-partner, partner-half, parity, flipped, perm_lt, side-past, side-last}
use Rattle.block_networks.proofs.Halves.{Sides, even_place, odd_place, side_lt, side-pair, own-half, output-sides, input-sides, half-perm}

-- ---- X rows, and two halves side by side

crossed-half : (q x : ℕ) → choose q x (partner x) / 2 ≡ x / 2
unfolding choose
crossed-half zero x = refl
crossed-half (suc q) x = partner-half x

crossed-twice : (q x : ℕ) → choose q (choose q x (partner x)) (partner (choose q x (partner x))) ≡ x
unfolding choose
crossed-twice zero x = refl
crossed-twice (suc q) x = partner-partner x

pub cross-half : (bits : List ℕ) (x : ℕ) → cross bits x / 2 ≡ x / 2
unfolding cross
cross-half bits x = crossed-half (get_or bits (x / 2) 0) x

-- crossing twice is no crossing
pub cross-twice : (bits : List ℕ) (x : ℕ) → cross bits (cross bits x) ≡ x
unfolding cross
cross-twice bits x = rw (crossed-half (get_or bits (x / 2) 0) x) (crossed-twice (get_or bits (x / 2) 0) x)

pub cross-past : (bits : List ℕ) (x : ℕ) → length bits ≤ x / 2 → cross bits x ≡ x
unfolding cross choose
cross-past bits x h = rw (get_or-eq_default bits 0 {n = x / 2} h)

through-at : (f g : ℕ → ℕ) (i c : ℕ) → c < 2 → through f g (2 * i + c) ≡ 2 * choose c (f i) (g i) + c
unfolding through
through-at f g i c l =
    let d : (2 * i + c) / 2 ≡ i = omega arith in
    let m : (2 * i + c) % 2 ≡ c = omega arith in
    rw (d, m)

choose-same : (c a : ℕ) → choose c a a ≡ a
unfolding choose
choose-same zero a = refl
choose-same (suc c) a = refl

chosen : (c : ℕ) (f : ℕ → ℕ → ℕ) (i : ℕ) → c < 2 → choose c (f 0 i) (f 1 i) ≡ f c i
unfolding choose
chosen zero f i l = refl
chosen (suc zero) f i l = refl
chosen (suc (suc c)) f i l = absurd (omega arith)

choose-back : (f g f' g' : ℕ → ℕ) (i c : ℕ) → f' (f i) ≡ i → g' (g i) ≡ i
    → choose c (f' (choose c (f i) (g i))) (g' (choose c (f i) (g i))) ≡ i
unfolding choose
choose-back f g f' g' i zero e d = e
choose-back f g f' g' i (suc c) e d = d

through-back : (f g f' g' : ℕ → ℕ) → ((i : ℕ) → f' (f i) ≡ i) → ((i : ℕ) → g' (g i) ≡ i) → (x : ℕ) → through f' g' (through f g x) ≡ x
through-back f g f' g' ef eg x =
    let i = x / 2 in
    let c = x % 2 in
    let e : through f g x ≡ 2 * choose c (f i) (g i) + c = unfold through in refl in
    rw (e, through-at f' g' (choose c (f i) (g i)) c (omega arith), choose-back f g f' g' i c (ef i) (eg i)) (omega arith)

through-past : (f g : ℕ → ℕ) (x : ℕ) → f (x / 2) ≡ x / 2 → g (x / 2) ≡ x / 2 → through f g x ≡ x
unfolding through
through-past f g x ef eg = rw (ef, eg, choose-same (x % 2) (x / 2)) (omega arith)

layers_back : (I O : List ℕ) (f g f' g' : ℕ → ℕ) → ((i : ℕ) → f' (f i) ≡ i) → ((i : ℕ) → g' (g i) ≡ i) → (o : ℕ)
    → cross O (through f' g' (cross I (cross I (through f g (cross O o))))) ≡ o
layers_back I O f g f' g' ef eg o =
    rw (cross-twice I (through f g (cross O o)), through-back f g f' g' ef eg (cross O o)) (cross-twice O o)

-- ---- one to one, for any bits

length-take-le : (k : ℕ) (l : List ℕ) → length (take k l) ≤ k
length-take-le k l = rw (length-take k l) (min-le_left k (length l))

pub source-perm : (n : ℕ) (bits : List ℕ) → Perm (2 ^ n) (source n bits) (target n bits)
unfolding source target
source-perm zero bits = record { to = λ o. refl; fro = λ o. refl; past = λ o h. refl }
source-perm (suc n) bits =
    let U = source-perm n (upper_bits n bits) in
    let L = source-perm n (lower_bits n bits) in
    let I = input_bits n bits in
    let O = output_bits n bits in
    record {
      to = λ o. layers_back I O _ _ _ _ U.to L.to o;
      fro = λ x. layers_back O I _ _ _ _ U.fro L.fro x;
      past = λ o h.
          let l : 2 ^ n ≤ o / 2 = omega (arith, pow-succ' 2 n) in
          ap (λ x. cross I (through (source n (upper_bits n bits)) (source n (lower_bits n bits)) x))
          (cross-past O o (omega (arith, length-take-le (2 ^ n - 1) (drop (permutation_count n) (lower_bits n bits)))))
          ∙ ap (cross I) (through-past _ _ o (U.past (o / 2) l) (L.past (o / 2) l))
          ∙ cross-past I o (omega (arith, length-take-le (2 ^ n) bits));
    }

-- ---- as wanted, where it is programmed

pub length-permutation_bits : (n : ℕ) (π ρ : ℕ → ℕ) → length (permutation_bits n π ρ) ≡ permutation_count n
unfolding permutation_bits permutation_count
length-permutation_bits zero π ρ = refl
length-permutation_bits (suc n) π ρ = simp (length-append, length-list_of, length-permutation_bits n)

-- X rows whose bits are the sides of the pairs' first places: each place goes to the place of its side in its pair
cross-to : (q x r : ℕ) → q < 2 → r < 2 → (x % 2 + (q + r)) % 2 ≡ 0 → choose q x (partner x) ≡ 2 * (x / 2) + r
unfolding choose partner
cross-to zero x r hq hr e = omega arith
cross-to (suc q) x r hq hr e = omega arith

cross-sides : (bits : List ℕ) (s : ℕ → ℕ) → Sides s → ((i : ℕ) → get_or bits i 0 ≡ s (2 * i)) → (x : ℕ) → cross bits x ≡ 2 * (x / 2) + s x
unfolding cross
cross-sides bits s S e x = rw (e (x / 2)) (cross-to (s (2 * (x / 2))) x (s x) (side_lt s S _) (side_lt s S x) (go (parity x)))
  where
    go : (x % 2 ≡ 0) ⊎ (x % 2 ≡ 1) → (x % 2 + (s (2 * (x / 2)) + s x)) % 2 ≡ 0
    go (inl p) = rw (even_place x p) (omega arith)
    go (inr p) = omega (arith, ap s (odd_place x p), side-pair s S (x / 2))

-- the half of an output's side takes it to its input's pair
own-choice : (s : ℕ → ℕ) → Sides s → (π : ℕ → ℕ) (o : ℕ) → choose (s o) (in_half π s 0 (o / 2)) (in_half π s 1 (o / 2)) ≡ π o / 2
own-choice s S π o = chosen (s o) (in_half π s) (o / 2) (side_lt s S o) ∙ own-half s S π o

-- P(1) is a wire
alone : {π ρ : ℕ → ℕ} → Perm 1 π ρ → (o : ℕ) → π o ≡ o
alone {π} P zero = let l = perm_lt P 0 (suc-le-suc zero-le) in omega arith
alone P (suc o) = P.past (suc o) (suc-le-suc zero-le)

module _ (h : ℕ) {π ρ : ℕ → ℕ} (P : Perm (2 * h) π ρ) where
  input-bit : (j : ℕ) → get_or (list_of h (λ j. side h π ρ (ρ (2 * j)))) j 0 ≡ side h π ρ (ρ (2 * j))
  input-bit j = get_or-list_of-all h (λ j. side h π ρ (ρ (2 * j))) j 0 (λ l.
      rw ((flipped P).past (2 * j) (omega arith)) (side-past h P (2 * j) (omega arith) ∙ omega arith))

  output-bit : (i : ℕ) → get_or (list_of (h - 1) (λ i. side h π ρ (2 * i))) i 0 ≡ side h π ρ (2 * i)
  output-bit i = get_or-list_of-all (h - 1) (λ i. side h π ρ (2 * i)) i 0 (λ l. go l (dec_lt i h))
    where
      go : h - 1 ≤ i → Dec (i < h) → side h π ρ (2 * i) ≡ 0
      go l (yes m) = side-last h P i (omega arith)
      go l (no f) = side-past h P (2 * i) (omega arith) ∙ omega arith

  -- through the halves' own mappings, between X rows with the sides' bits
  halves_join : (o : ℕ) → let s : ℕ → ℕ = side h π ρ in
      cross (list_of h (λ j. s (ρ (2 * j)))) (through (in_half π s 0) (in_half π s 1) (cross (list_of (h - 1) (λ i. s (2 * i))) o)) ≡ π o
  halves_join o =
      let s : ℕ → ℕ = side h π ρ in
      let t : ℕ → ℕ = λ x. s (ρ x) in
      let I : List ℕ = list_of h (λ j. t (2 * j)) in
      ap (λ x. cross I (through (in_half π s 0) (in_half π s 1) x)) (cross-sides _ s (output-sides h P) output-bit o)
      ∙ ap (cross I) (through-at (in_half π s 0) (in_half π s 1) (o / 2) (s o) (side_lt s (output-sides h P) o))
      ∙ ap (λ y. cross I (2 * y + s o)) (own-choice s (output-sides h P) π o)
      ∙ ap (λ y. cross I (2 * (π o / 2) + s y)) (sym (P.to o))
      ∙ ap (cross I) (sym (cross-sides I t (input-sides h P) input-bit (π o)))
      ∙ cross-twice I (π o)

-- the bits by their parts
source-parts : (n : ℕ) (I U L O rest : List ℕ) (o : ℕ)
    → length I ≡ 2 ^ n → length U ≡ permutation_count n → length L ≡ permutation_count n → length O ≡ 2 ^ n - 1
    → source (suc n) ((I ++ (U ++ (L ++ O))) ++ rest) o
    ≡ cross I (through (source n (U ++ (L ++ (O ++ rest)))) (source n (L ++ (O ++ rest))) (cross O o))
unfolding source
source-parts n I U L O rest o hI hU hL hO = simp (append_assoc, take_at, drop_at)

-- programmed for π, output o takes input π o, whatever bits come after
pub source_programmed : (n : ℕ) {π ρ : ℕ → ℕ} → Perm (2 ^ n) π ρ → (rest : List ℕ) (o : ℕ) → source n (permutation_bits n π ρ ++ rest) o ≡ π o
unfolding permutation_bits
source_programmed zero P rest o = unfold source in sym (alone P o)
source_programmed (suc n) {π} {ρ} P rest o =
    let h : ℕ = 2 ^ n in
    let Q : Perm (2 * h) π ρ = rw (pow-succ' 2 n) at P in
    let s : ℕ → ℕ = side h π ρ in
    let t : ℕ → ℕ = λ x. s (ρ x) in
    let I : List ℕ = list_of h (λ j. t (2 * j)) in
    let O : List ℕ = list_of (h - 1) (λ i. s (2 * i)) in
    let U : List ℕ = permutation_bits n (in_half π s 0) (in_half ρ t 0) in
    let L : List ℕ = permutation_bits n (in_half π s 1) (in_half ρ t 1) in
    let upper = fun_ext (source_programmed n (half-perm h Q 0 (omega arith)) (L ++ (O ++ rest))) in
    let lower = fun_ext (source_programmed n (half-perm h Q 1 (omega arith)) (O ++ rest)) in
    source-parts n I U L O rest o (length-list_of h _) (length-permutation_bits n _ _) (length-permutation_bits n _ _) (length-list_of (h - 1) _)
    ∙ ap₂ (λ (f g : ℕ → ℕ). cross I (through f g (cross O o))) upper lower
    ∙ halves_join h Q o

-- they are bits
pub permutation_bits-bits : (n : ℕ) {π ρ : ℕ → ℕ} → Perm (2 ^ n) π ρ → AreBits (permutation_bits n π ρ)
unfolding permutation_bits
permutation_bits-bits zero P = record { each = λ i. omega arith }
permutation_bits-bits (suc n) {π} {ρ} P =
    let h : ℕ = 2 ^ n in
    let Q : Perm (2 * h) π ρ = rw (pow-succ' 2 n) at P in
    let lt : (x : ℕ) → side h π ρ x < 2 = side_lt (side h π ρ) (output-sides h Q) in
    bits-append (bits-list_of h (λ j. lt (ρ (2 * j))))
    (bits-append (permutation_bits-bits n (half-perm h Q 0 (omega arith)))
    (bits-append (permutation_bits-bits n (half-perm h Q 1 (omega arith))) (bits-list_of (h - 1) (λ i. lt (2 * i)))))
