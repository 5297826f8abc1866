-- P at level n + 1 from its input wires: the input rows on pairs of the list, behind them what is written from numbers. P at level 0 is a wire.
use mathlib.Core.Path.{◌≡◌, refl, sym, ap, ◌∙◌}
use mathlib.Core.List.{List, ◌++◌}
use Prim.Native.Nat.{ℕ, zero, suc, ◌+◌, ◌-◌, ◌*◌, ◌^◌, ◌≤◌}
use native.Mathlib.Nat.{pow-succ'}
use native.Mathlib.Omega.{arith}
use lib.ListN.{length, get_or, take}
use lib.Pow.{pow_pos}
use lib.Seq.{get_or-drop}
use Rattle.lists.proofs.ListsLaws.{list_of_ext}
use Rattle.fault.specs.Buffers.{over, part_of, with_part}
use Rattle.fault.proofs.PartsLaws.{over-part}
use Rattle.elements.specs.declared.Kind.{Kind}
use Rattle.block_elements.specs.Rows.{X, stride, flat, row_of}
use Rattle.block_elements.proofs.RowsLaws.{flat_append}
use Rattle.block_networks.specs.Permutation.{permutation_count, input_rows, permutation_outs, permutation_rows}
use Rattle.block_sizes.specs.Sizes.{level_of}
use Rattle.block_rows.specs.Rows.{pair_rows, rows_put}
use Rattle.block_rows.proofs.ClampLaws.{part-is}
use Rattle.block_rows.proofs.RowsLaws.{length-pair_rows, rows-put}
use Rattle.block_rows.proofs.WiresLaws.{wires-copied}
use Rattle.block_write_checks.specs.WriteChecks.{WritePasses}
use Rattle.block_permutation_rows.specs.declared.level.LevelOuts.{LevelOuts}
use Rattle.block_permutation_rows.specs.Levels.{inner_rows, inner_count, OutsAt, outs_list, LevelRoom, OutsRoom}
use Rattle.block_permutation_rows.proofs.SwitchesLaws.{length-inputs}
use Rattle.block_permutation_rows.proofs.HalvesLaws.{length_inner, outs-made, outs-above}

-- the input rows on a list and on its part from place 1 on
input-pairs : (count : ℕ) (ins : List ℕ) → pair_rows Kind.X count ins (part_of 1 ins) 2 ≡ input_rows count ins
unfolding pair_rows input_rows row_of
input-pairs count ins = list_of_ext count _ _ λ i l. ap (X (get_or ins (2 * i) 0)) (next (2 * i))
  where
    next : (i : ℕ) → get_or (part_of 1 ins) i 0 ≡ get_or ins (i + 1) 0
    next i =
        let e : i + 1 ≡ 1 + i = omega arith in
        rw (part-is 1 ins, e) (get_or-drop 1 ins i 0)

split_rows : (n : ℕ) (ins : List ℕ) (next : ℕ) → flat (input_rows (2 ^ n) ins) ++ flat (inner_rows n next) ≡ flat (permutation_rows (suc n) ins next)
unfolding permutation_rows inner_rows
split_rows n ins next = sym (flat_append (input_rows (2 ^ n) ins) _)

module _ {n next inputs entries places : ℕ} (room : LevelRoom n inputs next entries places) where
  -- the output wires of P fit
  pub outs-room : (half : ℕ) (p : LevelOuts) → half ≡ 2 ^ n → OutsAt n next p → OutsRoom (2 * (half - 1)) p places
  outs-room half p e o =
      let made = outs-made o in
      let some = pow_pos n in
      record { room = omega arith; rise = omega arith; upper_made = omega arith; lower_made = omega arith }

  pub rows_written : (half place : ℕ) (ins R₀ R₁ F : List ℕ) → length R₀ ≡ entries → half ≡ 2 ^ n → place ≡ stride * half
      → R₁ ≡ rows_put (pair_rows Kind.X half ins (part_of 1 ins) 2) R₀ → F ≡ over (flat (inner_rows n next)) (part_of place R₁)
      → with_part place R₁ F ≡ over (flat (permutation_rows (suc n) ins next)) R₀
  rows_written half place ins R₀ R₁ F long e at pairs inner =
      let k = length-pair_rows Kind.X half ins (part_of 1 ins) 2 in
      let a = length-inputs half ins in
      let b = length_inner n next in
      let put : R₁ ≡ over (flat (input_rows half ins)) R₀ =
      pairs ∙ rows-put (pair_rows Kind.X half ins (part_of 1 ins) 2) R₀ (rw k (omega arith)) ∙ ap (λ r. over (flat r) R₀) (input-pairs half ins) in
      over-part (flat (input_rows half ins)) R₀ R₁ place (omega arith) (omega arith) put (flat (inner_rows n next)) F (omega arith) inner
      ∙ ap (λ h. over (flat (input_rows h ins) ++ flat (inner_rows n next)) R₀) e
      ∙ ap (λ l. over l R₀) (split_rows n ins next)

  pub wires-written : (half : ℕ) (p : LevelOuts) (ins W Q : List ℕ) → half ≡ 2 ^ n → OutsAt n next p → Q ≡ over (outs_list (2 * (half - 1)) p) W
      → Q ≡ over (permutation_outs (suc n) ins next) W
  wires-written half p ins W Q e o put = put ∙ ap (λ h. over (outs_list (2 * (h - 1)) p) W) e ∙ ap (λ l. over l W) (outs-above n ins next p o)

-- ---- where the checks pass

-- P(1) is a wire
pub wire-written : (level : ℕ) (ins : List ℕ) (next : ℕ) (R W Q : List ℕ) → level ≡ 0 → length ins ≤ length W → Q ≡ over (take (length W) ins) W
    → (R ≡ over (flat (permutation_rows level ins next)) R) × (Q ≡ over (permutation_outs level ins next) W)
unfolding permutation_rows permutation_outs flat
wire-written zero ins next R W Q e h copied = (refl, copied ∙ wires-copied ins W h)
wire-written (suc n) ins next R W Q e h copied = absurd (omega arith)

count-above : (n : ℕ) → permutation_count (suc n) ≡ 2 ^ n + inner_count n
unfolding permutation_count
count-above n = refl

pub level-room : (N : ℕ) (ins : List ℕ) (next rows outputs level : ℕ) → WritePasses N ins next rows outputs → level ≡ level_of N → (level ≡ 0 → ⊥)
    → LevelRoom (level - 1) (length ins) next rows outputs
level-room N ins next rows outputs level passes at some =
    let n = level - 1 in
    let above : level_of N ≡ suc n = omega arith in
    let count : permutation_count (level_of N) ≡ 2 ^ n + inner_count n = ap permutation_count above ∙ count-above n in
    let power : 2 ^ level_of N ≡ 2 * 2 ^ n = ap (λ k. 2 ^ k) above ∙ pow-succ' 2 n in
    let p = pow_pos n in
    let w = passes.wires (omega arith) in
    record {
      fit = record { small = omega arith; wires = omega arith };
      inputs_are = omega arith;
      row_room = omega arith;
      wire_room = omega arith;
    }
