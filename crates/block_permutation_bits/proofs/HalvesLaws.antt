-- The halves of a block: a level leaves their mappings one behind the other, and what they store completes the bits of the block.
use mathlib.Core.Path.{◌≡◌, refl, sym, ap, ◌∙◌}
use mathlib.Core.Logic.{◌≢◌}
use mathlib.Core.List.{List, [], ◌∷◌, ◌++◌}
use Prim.Native.Nat.{ℕ, zero, suc, ◌+◌, ◌-◌, ◌*◌, ◌/◌, ◌^◌, ◌≤◌, ◌<◌}
use native.Mathlib.Decide.{ℕ_discrete, dec_lt}
use native.Mathlib.Omega.{arith}
use lib.Pow.{pow_mono}
use lib.ListN.{length, get_or, take, drop}
use lib.Seq.{get_or-set_same, get_or-set_other, set_out, take_at, drop_at}
use Rattle.lists.proofs.ListsLaws.{length-list_of}
use Rattle.block_elements.specs.Bits.{bit_byte, bit_place, with_bit, set_bit, store_bits, AreBits}
use Rattle.block_elements.proofs.BitsLaws.{AreBytes}
use Rattle.block_bits.proofs.StoreLaws.{store_level}
use Rattle.block_networks.specs.Permutation.{permutation_count}
use Rattle.powers.proofs.PowersLaws.{ceil_log-power}
use Rattle.block_sizes.specs.Sizes.{level_of, SizeIs}
use Rattle.block_loops.specs.Mappings.{IsPerm, list_bits, input_sides, output_sides, half_list, inverse_list, sides_of, Levelled}
use Rattle.block_loops.specs.Levels.{BlockBuffers}
use Rattle.block_loops.proofs.MappingsLaws.{half-size, half-listed, level-bits, length-list_bits, list_bits-bits, sides-bits, inputs-bits, bits-take}
use Rattle.block_loops.proofs.LevelsLaws.{Halving, halving}
use Rattle.block_permutation_bits.specs.ProgramCalls.{mapping_bits}

-- ---- what is bytes when bits are stored in it, was bytes before

with_bit-below : (k b x : ℕ) → k < 8 → with_bit k b x < 256 → x < 256
with_bit-below zero b x l h = omega arith
with_bit-below (suc zero) b x l h = omega arith
with_bit-below (suc (suc zero)) b x l h = omega arith
with_bit-below (suc (suc (suc zero))) b x l h = omega arith
with_bit-below (suc (suc (suc (suc zero)))) b x l h = omega arith
with_bit-below (suc (suc (suc (suc (suc zero))))) b x l h = omega arith
with_bit-below (suc (suc (suc (suc (suc (suc zero)))))) b x l h = omega arith
with_bit-below (suc (suc (suc (suc (suc (suc (suc zero))))))) b x l h = omega arith
with_bit-below (suc (suc (suc (suc (suc (suc (suc (suc k)))))))) b x l h = absurd (omega arith)

set_bit-before : (s : List ℕ) (p b : ℕ) → AreBytes (set_bit s p b) → AreBytes s
unfolding set_bit
set_bit-before s p b h = record { each = λ i. go i (ℕ_discrete i (bit_byte p)) (dec_lt (bit_byte p) (length s)) }
  where
    new : ℕ
    new = with_bit (bit_place p) b (get_or s (bit_byte p) 0)

    go : (i : ℕ) → Dec (i ≡ bit_byte p) → Dec (bit_byte p < length s) → get_or s i 0 < 256
    go i (no d) l = rw (get_or-set_other s (bit_byte p) i new 0 d) at (h.each i)
    go i (yes e) (no l) = rw (set_out s (bit_byte p) new (omega arith)) at (h.each i)
    go i (yes e) (yes l) =
        rw e (with_bit-below (bit_place p) b _ (omega arith) (rw (get_or-set_same s (bit_byte p) new 0 l) at (h.each (bit_byte p))))

store_bits-before : (s : List ℕ) (p : ℕ) (bs : List ℕ) → AreBytes (store_bits s p bs) → AreBytes s
unfolding store_bits
store_bits-before s p [] h = h
store_bits-before s p (b ∷ bs) h = set_bit-before s p b (store_bits-before (set_bit s p b) (suc p) bs h)

-- ---- blocks by their number of places

-- the level of 2 ^ k places
level_at : {N : ℕ} (k : ℕ) → N ≡ 2 ^ k → level_of N ≡ k
level_at k e = ap level_of e ∙ ceil_log-power k

pub is_pair : {N : ℕ} → N ≡ 2 → level_of N ≡ 1
is_pair e = level_at 1 e

pub is_one : {N : ℕ} → SizeIs N → N ≤ 4 → N ≢ 2 → N ≢ 4 → level_of N ≡ 0
is_one {N} size few n₂ n₄ = go (level_of N) size.power
  where
    go : (k : ℕ) → 2 ^ k ≡ N → k ≡ 0
    go zero e = refl
    go (suc zero) e = absurd (n₂ (sym e))
    go (suc (suc zero)) e = absurd (n₄ (sym e))
    go (suc (suc (suc k))) e = let l : 2 ^ 3 ≤ 2 ^ (suc (suc (suc k))) = pow_mono {i = 3} {j = suc (suc (suc k))} (omega arith) in absurd (omega arith)

-- a block above P(4) is above level 2, and where it is P(8) its halves are P(4)
high : {N : ℕ} (k : ℕ) → N ≡ 2 ^ k → 4 < N → 2 < k
high zero e l = absurd (omega arith)
high (suc zero) e l = absurd (omega arith)
high (suc (suc zero)) e l = absurd (omega arith)
high (suc (suc (suc k))) e l = omega arith

eight : {N : ℕ} (k : ℕ) → N ≡ 2 ^ k → 4 < N → N ≤ 8 → N ≡ 8
eight zero e l m = absurd (omega arith)
eight (suc zero) e l m = absurd (omega arith)
eight (suc (suc zero)) e l m = absurd (omega arith)
eight (suc (suc (suc zero))) e l m = e
eight (suc (suc (suc (suc k)))) e l m = let h : 2 ^ 4 ≤ 2 ^ (suc (suc (suc (suc k)))) = pow_mono {i = 4} {j = suc (suc (suc (suc k)))} (omega arith) in absurd (omega arith)

-- ---- the halves

-- a block above P(4), and its halves, whose rows are counted
pub record HalvesFit (N start part : ℕ) : Type 0 where
  pub sizes : Halving (level_of N) N
  pub some : 0 < level_of N
  pub below : level_of (N / 2) ≡ level_of N - 1
  pub four : N ≤ 8 → N / 2 ≡ 4
  pub level_fits : start + N / 2 + part + part + N / 2 < 2 ^ 64
  pub upper_fits : start + N / 2 + permutation_count (level_of (N / 2)) < 2 ^ 32
  pub lower_fits : start + N / 2 + part + permutation_count (level_of (N / 2)) < 2 ^ 32

pub halves-fit : {N a b start part : ℕ} → BlockBuffers (level_of N) N a b → 4 < N → start + permutation_count (level_of N) < 2 ^ 32
    → part ≡ permutation_count (level_of (N / 2)) → HalvesFit N start part
halves-fit {N} {a} {b} {start} {part} room big fits counted =
    let some : 0 < level_of N = omega (arith, high (level_of N) room.size big) in
    let H = halving (level_of N) room some in
    let below = level_at (level_of N - 1) H.half in
    let is : part ≡ permutation_count (level_of N - 1) = counted ∙ ap permutation_count below in
    record {
      sizes = H;
      some = some;
      below = below;
      four = λ m. omega (arith, eight (level_of N) room.size big m);
      level_fits = omega (arith, H.count);
      upper_fits = rw below (omega (arith, H.count));
      lower_fits = rw below (omega (arith, H.count));
    }

pub half-room : {N x y z start part : ℕ} → HalvesFit N start part → x ≡ N / 2 → y ≡ N / 2 → z ≡ N / 2 → BlockBuffers (level_of x) x y z
half-room h ex ey ez =
    let is = ap level_of ex ∙ h.below in
    rw is record { size = ex ∙ h.sizes.half; few = omega (arith, h.sizes.few); scratch_size = ey ∙ sym ex; marks_size = ez ∙ sym ex }

pub fits_at : (at : ℕ) {x n : ℕ} → x ≡ n → at + permutation_count (level_of n) < 2 ^ 32 → at + permutation_count (level_of x) < 2 ^ 32
fits_at at e fits = rw e fits

module _ {p scratch before after : List ℕ} {start part : ℕ} (P : IsPerm p) (h : HalvesFit (length p) start part) (L : Levelled p scratch start part before after) where
  abbrev half : ℕ
  half = length p / 2

  half-length : (c : ℕ) → length (half_list c p (sides_of p)) ≡ half
  half-length c = half-size half (sym h.sizes.even) P c

  upper-is : take half scratch ≡ half_list 0 p (sides_of p)
  upper-is = ap (take half) L.halved ∙ take_at (half_list 0 p (sides_of p)) (half_list 1 p (sides_of p)) half (half-length 0)

  lower-is : drop half scratch ≡ half_list 1 p (sides_of p)
  lower-is = ap (drop half) L.halved ∙ drop_at (half_list 0 p (sides_of p)) (half_list 1 p (sides_of p)) half (half-length 0)

  pub upper-mapped : {l : List ℕ} → l ≡ take half scratch → IsPerm l
  upper-mapped e = rw (e ∙ upper-is) (half-listed half (sym h.sizes.even) P 0 (omega arith))

  pub lower-mapped : {l : List ℕ} → l ≡ drop half scratch → IsPerm l
  lower-mapped e = rw (e ∙ lower-is) (half-listed half (sym h.sizes.even) P 1 (omega arith))

  half-bits : (c : ℕ) {l : List ℕ} → l ≡ half_list c p (sides_of p) → mapping_bits l ≡ list_bits (level_of (length p) - 1) (half_list c p (sides_of p))
  half-bits c e = rw e (ap (λ k. list_bits k (half_list c p (sides_of p))) (ap level_of (half-length c) ∙ h.below))

  -- the bits of the level and of its halves are those of the block
  pub halves-stored : {upper lower up low : List ℕ} → up ≡ take half scratch → low ≡ drop half scratch → part ≡ permutation_count (level_of half)
      → upper ≡ store_bits after (start + half) (mapping_bits up)
      → lower ≡ store_bits upper (start + half + part) (mapping_bits low)
      → AreBytes lower → lower ≡ store_bits before start (mapping_bits p)
  halves-stored {upper} {lower} {up} {low} u l ep eu el bytes =
      let n = level_of (length p) - 1 in
      let H = h.sizes in
      let I = input_sides p (inverse_list p) in
      let U = list_bits n (half_list 0 p (sides_of p)) in
      let D = list_bits n (half_list 1 p (sides_of p)) in
      let O = output_sides (sides_of p) in
      let S = sides-bits half (sym H.even) P in
      let hI : AreBits I = inputs-bits half (sym H.even) P in
      let hO : AreBits O = bits-take (length (sides_of p) - 1) S in
      let hU : AreBits U = list_bits-bits n (half-length 0 ∙ H.half) (half-listed half (sym H.even) P 0 (omega arith)) in
      let hD : AreBits D = list_bits-bits n (half-length 1 ∙ H.half) (half-listed half (sym H.even) P 1 (omega arith)) in
      let rows : permutation_count n ≡ part = ap permutation_count (sym h.below) ∙ sym ep in
      let li : length I ≡ half = length-list_of _ _ in
      let next : level_of (length p) ≡ suc n = omega (arith, h.some) in
      let all : mapping_bits p ≡ I ++ (U ++ (D ++ O)) =
      ap (λ k. list_bits k p) next ∙ level-bits n {p = p} (sym H.even ∙ ap (λ k. 2 * k) H.half) P in
      let is : lower ≡ store_bits (store_bits (store_bits (store_bits before start I) (start + half + part + part) O) (start + half) U) (start + half + part) D =
      el ∙ ap (λ t. store_bits upper (start + half + part) t) (half-bits 1 (l ∙ lower-is))
      ∙ ap (λ s. store_bits s (start + half + part) D) (eu ∙ ap (λ t. store_bits after (start + half) t) (half-bits 0 (u ∙ upper-is)))
      ∙ ap (λ s. store_bits (store_bits s (start + half) U) (start + half + part) D) L.stored in
      is
      ∙ store_level I U D O start half part (bytes-of I U D O is) hI hU hD hO li (length-list_bits n _ ∙ rows) (length-list_bits n _ ∙ rows)
      ∙ ap (store_bits before start) (sym all)
    where
      bytes-of : (I U D O : List ℕ)
          → lower ≡ store_bits (store_bits (store_bits (store_bits before start I) (start + half + part + part) O) (start + half) U) (start + half + part) D
          → AreBytes before
      bytes-of I U D O e =
          store_bits-before before start _
          (store_bits-before _ (start + half + part + part) _ (store_bits-before _ (start + half) _ (store_bits-before _ (start + half + part) _ (rw e at bytes))))
