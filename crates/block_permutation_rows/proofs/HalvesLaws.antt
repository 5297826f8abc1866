-- P at level n above 0 by its input rows and what is behind them, and its output wires where they rise but for the last pair.
use mathlib.Core.Path.{◌≡◌, refl, sym, ap, ap₂, subst, ◌∙◌}
use mathlib.Core.List.{List, [], ◌∷◌, ◌++◌, append_assoc}
use Prim.Native.Nat.{ℕ, zero, suc, ◌+◌, ◌-◌, ◌*◌, ◌%◌, ◌^◌, ◌<◌, ◌≤◌}
use native.Mathlib.Nat.{pow-succ', mul_comm, mod-eq_of_lt, not-suc-le-zero}
use native.Mathlib.Numerals.{sub-one}
use native.Mathlib.Omega.{arith}
use lib.ListN.{length, set, length-append}
use lib.Pow.{pow_pos}
use Rattle.lists.specs.Lists.{list_of}
use Rattle.lists.proofs.ListsLaws.{length-list_of, list_of_ext}
use Rattle.fault.specs.Buffers.{over, part_of, with_part}
use Rattle.fault.proofs.BuffersLaws.{over-more}
use Rattle.fault.proofs.PartsLaws.{over-part}
use Rattle.elements.specs.Elements.{max_wires}
use Rattle.block_elements.specs.Rows.{Row, X, stride, entries, flat}
use Rattle.block_elements.proofs.RowsLaws.{flat_append, length-flat}
use Rattle.block_networks.specs.Permutation.{permutation_count, input_rows, output_rows, firsts, seconds, upper_next, lower_next, output_next}
use Rattle.block_networks.specs.Permutation.{permutation_outs, upper_outs, lower_outs, permutation_rows}
use Rattle.block_networks.proofs.PermutationLaws.{permutation_count_lem, length-permutation_rows, permutation_totals, half-wires}
use Rattle.block_rows.specs.Wires.{wires_put}
use Rattle.block_rows.proofs.WiresLaws.{wires-put}
use Rattle.block_permutation_rows.specs.declared.level.LevelOuts.{LevelOuts}
use Rattle.block_permutation_rows.specs.Levels.{inner_rows, inner_count, OutsAt, outs_list, InnerRoom, SmallRoom, OutsRoom}
use Rattle.block_permutation_rows.proofs.SwitchesLaws.{length-outputs}

-- ---- numbers

-- a level n above 0 whose halves have `inputs` places
pub record SizedAt (n inputs : ℕ) : Type 0 where
  pub double : 2 ^ n ≡ 2 * inputs
  pub some : 1 ≤ inputs
  pub count : 2 * inputs * n + 1 ≡ permutation_count n + 2 * inputs
  pub whole : permutation_count n ≡ inputs + inner_count (n - 1)

pub sized-at : (n inputs : ℕ) → 1 ≤ n → inputs ≡ 2 ^ (n - 1) → SizedAt n inputs
unfolding permutation_count
sized-at zero inputs h e = absurd (not-suc-le-zero h)
sized-at (suc m) inputs h e =
    let at : inputs ≡ 2 ^ m = rw (sub-one (suc m)) at e in
    let double : 2 ^ suc m ≡ 2 * inputs = pow-succ' 2 m ∙ ap (λ k. 2 * k) (sym at) in
    let count = permutation_count_lem (suc m) in
    let product : suc m * 2 ^ suc m ≡ 2 * inputs * suc m = mul_comm (suc m) (2 ^ suc m) ∙ ap (λ k. k * suc m) double in
    record {
      double = double;
      some = omega (arith, pow_pos m);
      count = omega arith;
      whole = rw (sub-one (suc m)) (omega arith);
    }

-- ---- rows

-- the input rows, and the rows behind them
pub rows_split : (n : ℕ) (ins : List ℕ) (next : ℕ) → 1 ≤ n → permutation_rows n ins next ≡ input_rows (2 ^ (n - 1)) ins ++ inner_rows (n - 1) next
unfolding permutation_rows inner_rows
rows_split zero ins next h = absurd (not-suc-le-zero h)
rows_split (suc m) ins next h = rw (sub-one (suc m))

pub length-rows : (n : ℕ) (ins : List ℕ) (next : ℕ) → length (flat (permutation_rows n ins next)) ≡ stride * permutation_count n
length-rows n ins next =
    length-flat (permutation_totals n ins next).family ∙ ap (λ k. stride * k) (length-permutation_rows n ins next)

pub length_inner : (n next : ℕ) → length (flat (inner_rows n next)) ≡ stride * inner_count n
unfolding inner_rows
length_inner n next =
    let upper = permutation_rows n (firsts (2 ^ n) next) (upper_next n next) in
    let lower = permutation_rows n (seconds (2 ^ n) next) (lower_next n next) in
    let outputs = output_rows (2 ^ n - 1) (upper_outs n next) (lower_outs n next) in
    rw (flat_append upper (lower ++ outputs), flat_append lower outputs, length-append (flat upper) (flat lower ++ flat outputs), length-append (flat lower) (flat outputs))
    (omega (
      arith,
      length-rows n (firsts (2 ^ n) next) (upper_next n next),
      length-rows n (seconds (2 ^ n) next) (lower_next n next),
      length-outputs (2 ^ n - 1) (upper_outs n next) (lower_outs n next),
    ))

-- ---- output wires

-- the last pair is made before the output rows
pub record OutsMade (p : LevelOuts) (limit : ℕ) : Type 0 where
  pub upper : p.upper.0 < limit
  pub lower : p.lower.0 < limit

pub outs-made : {n next : ℕ} {p : LevelOuts} → OutsAt n next p → OutsMade p (output_next n next)
outs-made {n} {next} {p} o =
    let w = half-wires n next in
    let some = pow_pos n in
    record {
      upper = omega (arith, o.upper_is, w.upper-given (2 ^ n - 1) (omega arith));
      lower = omega (arith, o.lower_is, w.lower-given (2 ^ n - 1) (omega arith));
    }

pair-behind : (k : ℕ) {a a' b b' c c' : ℕ} → a ≡ a' → b ≡ b' → c ≡ c'
    → list_of k (λ o. a + o) ++ (b ∷ c ∷ []) ≡ list_of k (λ o. a' + o) ++ (b' ∷ c' ∷ [])
pair-behind k ea eb ec = rw (ea, eb, ec)

pub outs-above : (m : ℕ) (ins : List ℕ) (next : ℕ) (p : LevelOuts) → OutsAt m next p → outs_list (2 * (2 ^ m - 1)) p ≡ permutation_outs (suc m) ins next
unfolding permutation_outs outs_list
outs-above m ins next p o = pair-behind (2 * (2 ^ m - 1)) o.first_is o.upper_is o.lower_is

pub outs_are : (n : ℕ) (ins : List ℕ) (next : ℕ) (p : LevelOuts) → 1 ≤ n → OutsAt (n - 1) next p → outs_list (2 ^ n - 2) p ≡ permutation_outs n ins next
outs_are zero ins next p h o = absurd (not-suc-le-zero h)
outs_are (suc m) ins next p h o =
    let e : 2 ^ suc m - 2 ≡ 2 * (2 ^ m - 1) = omega (arith, pow-succ' 2 m) in
    ap (λ k. outs_list k p) e ∙ outs-above m ins next p (subst (λ (k : ℕ). OutsAt k next p) (sub-one (suc m)) o)

-- the rising wires are put in front, and behind them the last pair
pub outs-put : (k : ℕ) (p : LevelOuts) (W Q : List ℕ) → OutsRoom k p (length W) → Q ≡ wires_put k p.first.0 1 W
    → set (set Q k (p.upper.0 % max_wires)) (k + 1) (p.lower.0 % max_wires) ≡ over (outs_list k p) W
unfolding outs_list
outs-put k p W Q r e =
    let A = list_of k (λ o. p.first.0 + o) in
    let u = p.upper.0 in
    let l = p.lower.0 in
    let long : length A ≡ k = length-list_of k (λ o. p.first.0 + o) in
    let more : length (A ++ (u ∷ [])) ≡ k + 1 = length-append A (u ∷ []) ∙ omega arith in
    let held : Q ≡ over A W =
    e ∙ wires-put k p.first.0 1 W (record { room = omega arith; each = λ i l. omega arith })
    ∙ ap (λ t. over t W) (list_of_ext k _ _ (λ i l. omega arith)) in
    let one : set (over A W) k u ≡ over (A ++ (u ∷ [])) W = ap (λ n. set (over A W) n u) (sym long) ∙ over-more A W u (omega arith) in
    let two : set (over (A ++ (u ∷ [])) W) (k + 1) l ≡ over ((A ++ (u ∷ [])) ++ (l ∷ [])) W =
    ap (λ n. set (over (A ++ (u ∷ [])) W) n l) (sym more) ∙ over-more (A ++ (u ∷ [])) W l (omega arith) in
    rw (mod-eq_of_lt r.upper_made, mod-eq_of_lt r.lower_made)
    (ap (λ t. set (set t k u) (k + 1) l) held ∙ ap (λ t. set t (k + 1) l) one ∙ two ∙ ap (λ t. over t W) (append_assoc A (u ∷ []) (l ∷ [])))

-- ---- P(2) and P(4)

pub pair-kept : (n next : ℕ) (R : List ℕ) → n ≡ 0 → R ≡ over (flat (inner_rows n next)) R
unfolding inner_rows permutation_rows output_rows list_of flat
pair-kept zero next R e = refl
pair-kept (suc n) next R e = absurd (omega arith)

pub pair-outs : (n next : ℕ) (p : LevelOuts) → n ≡ 0 → p.first.0 ≡ next + 2 → p.upper.0 ≡ next → p.lower.0 ≡ next + 1 → OutsAt n next p
unfolding permutation_outs permutation_count firsts seconds list_of
pair-outs zero next p e ef eu el = record { first_is = omega arith; upper_is = omega arith; lower_is = omega arith }
pair-outs (suc n) next p e ef eu el = absurd (omega arith)

pub four-outs : (next : ℕ) (p : LevelOuts) → p.first.0 ≡ next + 8 → p.upper.0 ≡ next + 5 → p.lower.0 ≡ next + 7 → OutsAt 1 next p
unfolding permutation_outs permutation_count firsts seconds list_of
four-outs next p ef eu el = record { first_is = omega arith; upper_is = omega arith; lower_is = omega arith }

small-room : (n : ℕ) {next entries : ℕ} → InnerRoom n next entries → SmallRoom (2 * (2 ^ n + inner_count n)) (inner_count n) next entries
small-room n r = record { made = omega arith; room = r.room }

pub four-room : {n next entries : ℕ} → n ≡ 1 → InnerRoom n next entries → SmallRoom 10 3 next entries
unfolding permutation_count
four-room {next = next} {entries = entries} e r = small-room 1 (subst (λ (k : ℕ). InnerRoom k next entries) e r)

pub eight-room : {n next entries : ℕ} → n ≡ 2 → InnerRoom n next entries → SmallRoom 34 13 next entries
unfolding permutation_count
eight-room {next = next} {entries = entries} e r = small-room 2 (subst (λ (k : ℕ). InnerRoom k next entries) e r)

four-rows : (next : ℕ) → next + 10 ≤ max_wires
    → X (next % max_wires) ((next + 2) % max_wires) ∷ X ((next + 1) % max_wires) ((next + 3) % max_wires) ∷ X ((next + 4) % max_wires) ((next + 6) % max_wires) ∷ []
    ≡ inner_rows 1 next
unfolding inner_rows permutation_rows input_rows output_rows firsts seconds permutation_outs permutation_count list_of
four-rows next h = three (ap₂ X (omega arith) (omega arith)) (ap₂ X (omega arith) (omega arith)) (ap₂ X (omega arith) (omega arith))
  where
    three : {a a' b b' c c' : Row} → a ≡ a' → b ≡ b' → c ≡ c' → a ∷ b ∷ c ∷ [] ≡ a' ∷ b' ∷ c' ∷ []
    three ea eb ec = rw (ea, eb, ec)

pub four-written : (next : ℕ) (R₀ R₁ F₂ F₃ : List ℕ) → SmallRoom 10 3 next (length R₀) → R₁ ≡ over (entries (X (next % max_wires) ((next + 2) % max_wires))) R₀
    → F₂ ≡ over (entries (X ((next + 1) % max_wires) ((next + 3) % max_wires))) (part_of stride R₁)
    → F₃ ≡ over (entries (X ((next + 4) % max_wires) ((next + 6) % max_wires))) (part_of (2 * stride) (with_part stride R₁ F₂))
    → with_part (2 * stride) (with_part stride R₁ F₂) F₃ ≡ over (flat (inner_rows 1 next)) R₀
unfolding entries flat
four-written next R₀ R₁ F₂ F₃ r f₁ f₂ f₃ =
    let a = entries (X (next % max_wires) ((next + 2) % max_wires)) in
    let b = entries (X ((next + 1) % max_wires) ((next + 3) % max_wires)) in
    let c = entries (X ((next + 4) % max_wires) ((next + 6) % max_wires)) in
    let e₂ = over-part a R₀ R₁ stride refl (omega arith) f₁ b F₂ (omega arith) f₂ in
    let e₃ = over-part (a ++ b) R₀ (with_part stride R₁ F₂) (2 * stride) refl (omega arith) e₂ c F₃ (omega arith) f₃ in
    e₃ ∙ ap (λ l. over (flat l) R₀) (four-rows next r.made)
