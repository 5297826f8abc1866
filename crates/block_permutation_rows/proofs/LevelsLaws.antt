-- Writing P behind its input rows, in the code's order: its parts follow each other in the table, and its output wires come from its halves'.
use mathlib.Core.Path.{◌≡◌, refl, sym, ap, ap₂, subst, ◌∙◌}
use mathlib.Core.List.{List, ◌++◌, append_assoc}
use Prim.Native.Nat.{ℕ, ◌+◌, ◌-◌, ◌*◌, ◌^◌, ◌≤◌}
use native.Mathlib.Omega.{arith}
use lib.ListN.{length, get_or, length-append}
use Rattle.fault.specs.Buffers.{over, part_of, with_part}
use Rattle.fault.proofs.PartsLaws.{over-part}
use Rattle.elements.specs.Elements.{max_wires}
use Rattle.block_elements.specs.Rows.{Row, stride, flat}
use Rattle.block_elements.proofs.RowsLaws.{flat_append}
use Rattle.block_networks.specs.Permutation.{permutation_count, input_rows, output_rows, firsts, seconds, upper_next, lower_next}
use Rattle.block_networks.specs.Permutation.{permutation_rows, upper_outs, lower_outs}
use Rattle.block_permutation_rows.specs.declared.level.LevelOuts.{LevelOuts}
use Rattle.block_permutation_rows.specs.declared.level.LevelParts.{LevelParts}
use Rattle.block_permutation_rows.specs.Levels.{rising_rows, inner_rows, inner_count, OutsAt, outs_list, join_rows, SmallRoom, LevelPartsAt}
use Rattle.block_permutation_rows.proofs.SwitchesLaws.{length-inputs, inputs-rise, seconds-rise, length-outputs, outs-last, outputs_join}
use Rattle.block_permutation_rows.proofs.HalvesLaws.{rows_split, length_inner, outs-made, outs_are}

-- the table's part after each step: R₁ to R₄, with what a callee left of the part that it was lent, and the output wires of the halves
pub record LevelSteps (n next : ℕ) (p : LevelParts) (above below : LevelOuts) (R₀ R₁ F₁ F₂ F₃ F₄ : List ℕ) : Type 0 where
  pub inputs : R₁ ≡ over (flat (rising_rows p.inputs next (next + 2) 4)) R₀
  pub upper_rows : F₁ ≡ over (flat (inner_rows (n - 1) p.upper_next.0)) (part_of p.upper R₁)
  pub upper_wires : OutsAt (n - 1) p.upper_next.0 above
  pub lower_inputs : F₂ ≡ over (flat (rising_rows p.inputs (next + 1) (next + 3) 4)) (part_of p.lower (with_part p.upper R₁ F₁))
  pub lower_rows :
      F₃ ≡ over (flat (inner_rows (n - 1) p.lower_next.0)) (part_of p.lower_inner (with_part p.lower (with_part p.upper R₁ F₁) F₂))
  pub lower_wires : OutsAt (n - 1) p.lower_next.0 below
  pub output_rows :
      F₄ ≡ over (flat (join_rows p.half above below))
      (part_of p.outputs (with_part p.lower_inner (with_part p.lower (with_part p.upper R₁ F₁) F₂) F₃))

-- what is written: the rows in front of the table's part, and which wires they end on
pub record InnerWritten (n next : ℕ) (R₀ R : List ℕ) (p : LevelOuts) : Type 0 where
  pub rows : R ≡ over (flat (inner_rows n next)) R₀
  pub wires : OutsAt n next p

-- the rows of the parts
split_parts : (i u j l o : List Row) → flat ((i ++ u) ++ ((j ++ l) ++ o)) ≡ (((flat i ++ flat u) ++ flat j) ++ flat l) ++ flat o
split_parts i u j l o = simp (flat_append, append_assoc)

inner_is : (n next : ℕ) {u l : List Row} → permutation_rows n (firsts (2 ^ n) next) (upper_next n next) ≡ u
    → permutation_rows n (seconds (2 ^ n) next) (lower_next n next) ≡ l
    → inner_rows n next ≡ u ++ (l ++ output_rows (2 ^ n - 1) (upper_outs n next) (lower_outs n next))
unfolding inner_rows
inner_is n next eu el = ap₂ (λ (u l : List Row). u ++ (l ++ output_rows (2 ^ n - 1) (upper_outs n next) (lower_outs n next))) eu el

inner_parts : (n next : ℕ) → 1 ≤ n → flat (inner_rows n next)
    ≡ (((flat (input_rows (2 ^ (n - 1)) (firsts (2 ^ n) next)) ++ flat (inner_rows (n - 1) (upper_next n next)))
    ++ flat (input_rows (2 ^ (n - 1)) (seconds (2 ^ n) next))) ++ flat (inner_rows (n - 1) (lower_next n next)))
    ++ flat (output_rows (2 ^ n - 1) (upper_outs n next) (lower_outs n next))
inner_parts n next some =
    ap flat (inner_is n next (rows_split n (firsts (2 ^ n) next) (upper_next n next) some) (rows_split n (seconds (2 ^ n) next) (lower_next n next) some))
    ∙ split_parts (input_rows (2 ^ (n - 1)) (firsts (2 ^ n) next)) _ (input_rows (2 ^ (n - 1)) (seconds (2 ^ n) next)) _ _

module _ (n next : ℕ) (some : 1 ≤ n) (p : LevelParts) (at : LevelPartsAt n next p) (above below : LevelOuts) (R₀ R₁ F₁ F₂ F₃ F₄ : List ℕ)
    (room : stride * inner_count n ≤ length R₀) (s : LevelSteps n next p above below R₀ R₁ F₁ F₂ F₃ F₄) where
  above-is : OutsAt (n - 1) (upper_next n next) above
  above-is = subst (λ (k : ℕ). OutsAt (n - 1) k above) at.upper_from s.upper_wires

  below-is : OutsAt (n - 1) (lower_next n next) below
  below-is = subst (λ (k : ℕ). OutsAt (n - 1) k below) at.lower_from s.lower_wires

  upper-outs : outs_list (2 ^ n - 2) above ≡ upper_outs n next
  upper-outs = outs_are n (firsts (2 ^ n) next) (upper_next n next) above some above-is

  lower-outs : outs_list (2 ^ n - 2) below ≡ lower_outs n next
  lower-outs = outs_are n (seconds (2 ^ n) next) (lower_next n next) below some below-is

  -- the input rows of a half
  fed : (first right : ℕ) → right ≡ first + 2 → first ≤ next + 1
      → rising_rows p.inputs first right 4 ≡ input_rows (2 ^ (n - 1)) (firsts (2 ^ n) first)
  fed first right e l =
      let double : 2 * p.inputs ≡ 2 ^ n = omega arith in
      inputs-rise p.inputs first right e (omega arith) ∙ ap₂ (λ h k. input_rows h (firsts k first)) at.inputs_are double

  joined : join_rows p.half above below ≡ output_rows (2 ^ n - 1) (upper_outs n next) (lower_outs n next)
  joined =
      let a = above-is in
      let b = below-is in
      let ma = outs-made above-is in
      let mb = outs-made below-is in
      outputs_join p.half above below (omega arith) (omega arith) (omega arith) (omega arith) (omega arith)
      ∙ ap (λ h. output_rows (h - 1) (outs_list (h - 2) above) (outs_list (h - 2) below)) at.half_is
      ∙ ap₂ (output_rows (2 ^ n - 1)) upper-outs lower-outs

  -- the last output of a half is its lower half's last
  wires-written : OutsAt n next (record { first = p.output_next; upper = above.lower; lower = below.lower })
  wires-written =
      let size : 2 ^ n - 1 ≡ 2 ^ n - 2 + 1 = omega arith in
      record {
        first_is = at.output_from;
        upper_is = sym (outs-last (2 ^ n - 2) above 1 (2 ^ n - 1) size) ∙ ap (λ (l : List ℕ). get_or l (2 ^ n - 1) 0) upper-outs;
        lower_is = sym (outs-last (2 ^ n - 2) below 1 (2 ^ n - 1) size) ∙ ap (λ (l : List ℕ). get_or l (2 ^ n - 1) 0) lower-outs;
      }

  abbrev R₄ : List ℕ
  R₄ = with_part p.lower_inner (with_part p.lower (with_part p.upper R₁ F₁) F₂) F₃

  rows_written : with_part p.outputs R₄ F₄ ≡ over (flat (inner_rows n next)) R₀
  rows_written =
      let m = n - 1 in
      let R₂ = with_part p.upper R₁ F₁ in
      let R₃ = with_part p.lower R₂ F₂ in
      let A = flat (input_rows (2 ^ m) (firsts (2 ^ n) next)) in
      let B = flat (inner_rows m (upper_next n next)) in
      let C = flat (input_rows (2 ^ m) (seconds (2 ^ n) next)) in
      let D = flat (inner_rows m (lower_next n next)) in
      let E = flat (output_rows (2 ^ n - 1) (upper_outs n next) (lower_outs n next)) in
      let a = length-inputs (2 ^ m) (firsts (2 ^ n) next) in
      let b = length_inner m (upper_next n next) in
      let c = length-inputs (2 ^ m) (seconds (2 ^ n) next) in
      let d = length_inner m (lower_next n next) in
      let e = length-outputs (2 ^ n - 1) (upper_outs n next) (lower_outs n next) in
      let e₁ : R₁ ≡ over A R₀ = s.inputs ∙ ap (λ r. over (flat r) R₀) (fed next (next + 2) refl (omega arith)) in
      let f₁ : F₁ ≡ over B (part_of p.upper R₁) =
      s.upper_rows ∙ ap (λ k. over (flat (inner_rows m k)) (part_of p.upper R₁)) at.upper_from in
      let f₂ : F₂ ≡ over C (part_of p.lower R₂) =
      s.lower_inputs
      ∙ ap (λ r. over (flat r) (part_of p.lower R₂))
      (fed (next + 1) (next + 3) (omega arith) (omega arith) ∙ ap (input_rows (2 ^ m)) (sym (seconds-rise (2 ^ n) next))) in
      let f₃ : F₃ ≡ over D (part_of p.lower_inner R₃) =
      s.lower_rows ∙ ap (λ k. over (flat (inner_rows m k)) (part_of p.lower_inner R₃)) at.lower_from in
      let f₄ : F₄ ≡ over E (part_of p.outputs R₄) = s.output_rows ∙ ap (λ r. over (flat r) (part_of p.outputs R₄)) joined in
      let ab = length-append A B in
      let abc = length-append (A ++ B) C in
      let abcd = length-append ((A ++ B) ++ C) D in
      let e₂ = over-part A R₀ R₁ p.upper (omega arith) (omega arith) e₁ B F₁ (omega arith) f₁ in
      let e₃ = over-part (A ++ B) R₀ R₂ p.lower (omega arith) (omega arith) e₂ C F₂ (omega arith) f₂ in
      let e₄ = over-part ((A ++ B) ++ C) R₀ R₃ p.lower_inner (omega arith) (omega arith) e₃ D F₃ (omega arith) f₃ in
      let e₅ = over-part (((A ++ B) ++ C) ++ D) R₀ R₄ p.outputs (omega arith) (omega arith) e₄ E F₄ (omega arith) f₄ in
      e₅ ∙ ap (λ l. over l R₀) (sym (inner_parts n next some))

  pub level-written : InnerWritten n next R₀ (with_part p.outputs R₄ F₄) (record { first = p.output_next; upper = above.lower; lower = below.lower })
  level-written = record { rows = rows_written; wires = wires-written }

-- ---- P(8)

-- where its parts begin
abbrev pub eight_parts : ℕ → LevelParts
eight_parts next = record {
  half = 4;
  inputs = 2;
  upper = 2 * stride;
  lower = 5 * stride;
  lower_inner = 7 * stride;
  outputs = 10 * stride;
  upper_next = record { 0 = next + 8 };
  lower_next = record { 0 = next + 18 };
  output_next = record { 0 = next + 28 };
}

eight-at : (next : ℕ) → next + 34 ≤ max_wires → LevelPartsAt 2 next (eight_parts next)
unfolding permutation_count
eight-at next h = record {
  half_is = refl;
  inputs_are = refl;
  double = refl;
  some = omega arith;
  small = omega arith;
  whole = refl;
  upper_at = refl;
  lower_at = refl;
  lower_inner_at = refl;
  outputs_at = refl;
  few = omega arith;
  upper_from = omega arith;
  lower_from = omega arith;
  output_from = omega arith;
  wires = omega arith;
}

module _ (next : ℕ) (above below : LevelOuts) (R₀ R₁ F₁ F₂ F₃ F₄ : List ℕ) (room : SmallRoom 34 13 next (length R₀)) where
  pub eight-written : LevelSteps 2 next (eight_parts next) above below R₀ R₁ F₁ F₂ F₃ F₄ → InnerWritten 2 next R₀
      (with_part (10 * stride) (with_part (7 * stride) (with_part (5 * stride) (with_part (2 * stride) R₁ F₁) F₂) F₃) F₄)
      (record { first = record { 0 = next + 28 }; upper = above.lower; lower = below.lower })
  unfolding permutation_count
  eight-written s = level-written 2 next (omega arith) (eight_parts next) (eight-at next room.made) above below R₀ R₁ F₁ F₂ F₃ F₄ room.room s
