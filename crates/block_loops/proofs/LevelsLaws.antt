-- The recursion of the programming: sizes go down by halves, and what the halves store completes the bits of the level.
use mathlib.Core.Path.{◌≡◌, refl, sym, ap, ◌∙◌}
use mathlib.Core.List.{List, [], ◌∷◌}
use Prim.Native.Nat.{ℕ, zero, suc, ◌+◌, ◌-◌, ◌*◌, ◌/◌, ◌%◌, ◌^◌, ◌≤◌, ◌<◌}
use native.Mathlib.Nat.{not-suc-le-zero, pow-succ'}
use native.Mathlib.Omega.{arith}
use lib.ListN.{length, get_or}
use lib.Pow.{pow_pos}
use Rattle.lists.specs.Lists.{list_of}
use Rattle.block_elements.specs.Bits.{set_bit, store_bits}
use Rattle.block_networks.specs.Permutation.{permutation_count, partner, iterate, walk, key, least, lowest, side, permutation_bits}
use Rattle.block_networks.specs.Wanted.{taker_of}
use Rattle.block_networks.proofs.Loops.{perm_inj, perm_lt}
use Rattle.block_sizes.specs.Sizes.{max_size, max_level}
use Rattle.block_sizes.proofs.SizesLaws.{power_small}
use Rattle.block_loops.specs.Mappings.{map_of, IsPerm, inverse_of, list_bits}
use Rattle.block_loops.specs.Levels.{LevelBuffers, BlockBuffers}

-- a block that has halves
pub record Halving (level N : ℕ) : Type 0 where
  pub half : N / 2 ≡ 2 ^ (level - 1)
  pub even : 2 * (N / 2) ≡ N
  pub some : 2 ≤ N
  pub small : N ≤ max_size
  pub few : level - 1 < max_level
  pub count : permutation_count level ≡ N / 2 + permutation_count (level - 1) + permutation_count (level - 1) + (N / 2 - 1)

pub halving : (level : ℕ) {N a b : ℕ} → BlockBuffers level N a b → 0 < level → Halving level N
unfolding permutation_count
halving zero room l = absurd (not-suc-le-zero l)
halving (suc n) {N} room l =
    let m : suc n - 1 ≡ n = omega arith in
    let d : N ≡ 2 * 2 ^ n = room.size ∙ pow-succ' 2 n in
    let one = pow_pos n in
    let h : N / 2 ≡ 2 ^ n = omega arith in
    record {
      half = rw m h;
      even = omega arith;
      some = omega arith;
      small = rw room.size (power_small (suc n) room.few);
      few = rw m room.few;
      count = rw (m, h) (omega arith);
    }

pub level_buffers : (level : ℕ) {N a b : ℕ} → BlockBuffers level N a b → 0 < level → LevelBuffers N a b
level_buffers level room l =
    let H = halving level room l in
    record { even = H.even; some = H.some; small = H.small; scratch_size = room.scratch_size; marks_size = room.marks_size }

-- P(1) is a wire
pub no_bits : (level start : ℕ) (p before : List ℕ) → level ≤ 0 → before ≡ store_bits before start (list_bits level p)
unfolding list_bits permutation_bits store_bits
no_bits zero start p before l = refl
no_bits (suc n) start p before l = absurd (not-suc-le-zero l)

-- P(2) has one row, crossed where its first output takes the second input
pair_of : (x y : ℕ) → x < 2 → y < 2 → (x ≡ y → ⊥) → list_bits 1 (x ∷ y ∷ []) ≡ x ∷ []
unfolding list_bits permutation_bits map_of inverse_of taker_of list_of side lowest least key walk partner iterate
pair_of zero zero l m d = absurd (d refl)
pair_of zero (suc zero) l m d = refl
pair_of (suc zero) zero l m d = refl
pair_of (suc zero) (suc zero) l m d = absurd (d refl)
pair_of (suc (suc x)) y l m d = absurd (omega arith)
pair_of zero (suc (suc y)) l m d = absurd (omega arith)
pair_of (suc zero) (suc (suc y)) l m d = absurd (omega arith)

pair-bits : (p : List ℕ) → IsPerm p → length p ≡ 2 → list_bits 1 p ≡ get_or p 0 0 ∷ []
unfolding map_of
pair-bits [] ok e = absurd (omega arith)
pair-bits (x ∷ []) ok e = absurd (omega arith)
pair-bits (x ∷ y ∷ []) ok e =
    pair_of x y (perm_lt ok.perm 0 (omega arith)) (perm_lt ok.perm 1 (omega arith)) (λ q. let z : 0 ≡ 1 = perm_inj ok.perm 0 1 q in omega (arith, z))
pair-bits (x ∷ y ∷ z ∷ p) ok e = absurd (omega arith)

module _ {level : ℕ} (p : List ℕ) (ok : IsPerm p) (size : length p ≡ 2 ^ level) (low : level ≤ 1) (some : 0 < level) where
  one : level ≡ 1
  one = omega arith

  pair_size : length p ≡ 2
  pair_size = size ∙ ap (λ n. 2 ^ n) one

  pair-some : 0 < length p
  pair-some = omega (arith, pair_size)

  pub pair-first : get_or p 0 0 < 2
  unfolding map_of
  pair-first = rw pair_size at (perm_lt ok.perm 0 pair-some)

  pub pair-stored : (before : List ℕ) (start : ℕ) → set_bit before start (get_or p 0 0 % 2) ≡ store_bits before start (list_bits level p)
  unfolding store_bits
  pair-stored before start =
      let bit : get_or p 0 0 % 2 ≡ get_or p 0 0 = omega (arith, pair-first) in
      ap (set_bit before start) bit ∙ sym (ap (store_bits before start) (ap (λ n. list_bits n p) one ∙ pair-bits p ok pair_size))
