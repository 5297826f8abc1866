-- X rows on wires that rise by a step: their entries, and that P's input rows and output rows are such rows.
use mathlib.Core.Path.{◌≡◌, refl, sym, ap, ap₂, ◌∙◌}
use mathlib.Core.List.{List, [], ◌∷◌, ◌++◌}
use Prim.Native.Nat.{ℕ, suc, ◌+◌, ◌-◌, ◌*◌, ◌%◌, ◌<◌, ◌≤◌}
use native.Mathlib.Nat.{mod-eq_of_lt}
use native.Mathlib.Omega.{arith}
use lib.ListN.{length, get_or, get_or-append}
use lib.Seq.{get_or-append-add}
use Rattle.lists.specs.Lists.{list_of}
use Rattle.lists.proofs.ListsLaws.{length-list_of, get_or-list_of, list_of_ext}
use Rattle.fault.specs.Buffers.{over, part_of, with_part}
use Rattle.fault.proofs.PartsLaws.{over-part}
use Rattle.elements.specs.Elements.{max_wires}
use Rattle.block_elements.specs.Rows.{Row, X, stride, inputs_of, entries, flat, InFamily}
use Rattle.block_elements.proofs.RowsLaws.{flat_append}
use Rattle.block_networks.specs.Permutation.{input_rows, output_rows, firsts, seconds}
use Rattle.block_networks.proofs.PermutationRun.{get_or-firsts}
use Rattle.block_rows.proofs.RowsLaws.{length-flat-list, list-more}
use Rattle.block_permutation_rows.specs.declared.level.LevelOuts.{LevelOuts}
use Rattle.block_permutation_rows.specs.Levels.{rising_rows, outs_list, join_rows, JoinRoom}

x-family : (l r : ℕ) → InFamily (X l r)
unfolding inputs_of
x-family l r = refl

pub length-rising : (count left right step : ℕ) → length (flat (rising_rows count left right step)) ≡ stride * count
unfolding rising_rows
length-rising count left right step = length-flat-list _ (λ i. x-family _ _) count

-- one row more
pub rising-more : (left right step i n : ℕ) (L P F : List ℕ) → n ≡ stride * i → stride * (i + 1) ≤ length L
    → P ≡ over (flat (rising_rows i left right step)) L
    → F ≡ over (entries (X ((left + step * i) % max_wires) ((right + step * i) % max_wires))) (part_of n P)
    → with_part n P F ≡ over (flat (rising_rows (i + 1) left right step)) L
unfolding rising_rows
rising-more left right step = list-more _ (λ i. x-family _ _)

-- ---- input rows

pub length-inputs : (h : ℕ) (ins : List ℕ) → length (flat (input_rows h ins)) ≡ stride * h
unfolding input_rows
length-inputs h ins = length-flat-list _ (λ i. x-family _ _) h

-- the input rows of a block on the wires first, first + 2, ..
pub inputs-rise : (h first right : ℕ) → right ≡ first + 2 → first + 4 * h ≤ suc max_wires
    → rising_rows h first right 4 ≡ input_rows h (firsts (2 * h) first)
unfolding rising_rows input_rows
inputs-rise h first right e fit =
    list_of_ext h _ _ λ i l.
    let a : (first + 4 * i) % max_wires ≡ get_or (firsts (2 * h) first) (2 * i) 0 =
    omega (arith, get_or-firsts (2 * h) first (2 * i) (omega arith)) in
    let b : (right + 4 * i) % max_wires ≡ get_or (firsts (2 * h) first) (2 * i + 1) 0 =
    omega (arith, get_or-firsts (2 * h) first (2 * i + 1) (omega arith)) in
    ap₂ X a b

-- what feeds the lower half rises as what feeds the upper half does, one wire later
pub seconds-rise : (h next : ℕ) → seconds h next ≡ firsts h (next + 1)
unfolding firsts seconds
seconds-rise h next = list_of_ext h _ _ (λ i l. omega arith)

-- ---- output wires and output rows

pub length-outputs : (k : ℕ) (us ls : List ℕ) → length (flat (output_rows k us ls)) ≡ stride * k
unfolding output_rows
length-outputs k us ls = length-flat-list _ (λ i. x-family _ _) k

module _ (k : ℕ) (p : LevelOuts) where
  pub outs-rise : (i : ℕ) → i < k → get_or (outs_list k p) i 0 ≡ p.first.0 + i
  unfolding outs_list
  outs-rise i l =
      let long = length-list_of k (λ o. p.first.0 + o) in
      get_or-append (list_of k (λ o. p.first.0 + o)) _ 0 i (omega arith) ∙ get_or-list_of k _ i 0 l

  -- the last pair
  pub outs-last : (j i : ℕ) → i ≡ k + j → get_or (outs_list k p) i 0 ≡ get_or (p.upper.0 ∷ p.lower.0 ∷ []) j 0
  unfolding outs_list
  outs-last j i e =
      let at : i ≡ length (list_of k (λ o. p.first.0 + o)) + j = omega (arith, length-list_of k (λ o. p.first.0 + o)) in
      rw (at, get_or-append-add (list_of k (λ o. p.first.0 + o)) (p.upper.0 ∷ p.lower.0 ∷ []) j 0)

-- the output rows on two halves' output wires
pub outputs_join : (half : ℕ) (above below : LevelOuts) → 2 ≤ half → above.first.0 + half ≤ max_wires + 2 → below.first.0 + half ≤ max_wires + 2
    → above.upper.0 < max_wires → below.upper.0 < max_wires
    → join_rows half above below ≡ output_rows (half - 1) (outs_list (half - 2) above) (outs_list (half - 2) below)
unfolding join_rows rising_rows output_rows list_of
outputs_join half above below some ha hb ua ub =
    let k = half - 2 in
    let e : half - 1 ≡ suc k = omega arith in
    let U = outs_list k above in
    let L = outs_list k below in
    let rise : list_of k (λ i. X ((above.first.0 + 1 * i) % max_wires) ((below.first.0 + 1 * i) % max_wires)) ≡ list_of k (λ i. X (get_or U i 0) (get_or L i 0)) =
    list_of_ext k _ _ (λ i l. ap₂ X (omega (arith, outs-rise k above i l)) (omega (arith, outs-rise k below i l))) in
    let last : X (above.upper.0 % max_wires) (below.upper.0 % max_wires) ≡ X (get_or U k 0) (get_or L k 0) =
    ap₂ X (mod-eq_of_lt ua ∙ sym (outs-last k above 0 k (omega arith))) (mod-eq_of_lt ub ∙ sym (outs-last k below 0 k (omega arith))) in
    ap₂ (λ (r : List Row) (x : Row). r ++ (x ∷ [])) rise last ∙ ap (λ n. list_of n (λ i. X (get_or U i 0) (get_or L i 0))) (sym e)

-- they are stored: the rising ones, and the last behind them
pub join_stored : (half place : ℕ) (above below : LevelOuts) (R R₁ F : List ℕ) → place ≡ stride * (half - 2) → JoinRoom half (length R)
    → R₁ ≡ over (flat (rising_rows (half - 2) above.first.0 below.first.0 1)) R
    → F ≡ over (entries (X (above.upper.0 % max_wires) (below.upper.0 % max_wires))) (part_of place R₁)
    → with_part place R₁ F ≡ over (flat (join_rows half above below)) R
unfolding join_rows entries flat
join_stored half place above below R R₁ F at room before part =
    let rising = rising_rows (half - 2) above.first.0 below.first.0 1 in
    let last = X (above.upper.0 % max_wires) (below.upper.0 % max_wires) in
    let long = length-rising (half - 2) above.first.0 below.first.0 1 in
    over-part (flat rising) R R₁ place (omega arith) (omega arith) before (entries last) F (omega arith) part
    ∙ ap (λ l. over l R) (sym (flat_append rising (last ∷ [])))
