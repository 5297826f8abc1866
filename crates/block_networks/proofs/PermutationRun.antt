-- The run of P's rows, over values of any type: for any bits output o carries what input `source n bits o` carried, and programmed for π
-- it carries what input π o carried. By the parts of P: X rows swap within pairs, the halves follow by induction, earlier wires keep.
use mathlib.Core.Path.{◌≡◌, refl, sym, ap, ◌∙◌}
use mathlib.Core.Logic.{◌⊎◌, inl, inr}
use mathlib.Core.List.{List, [], ◌∷◌, ◌++◌}
use Prim.Native.Nat.{ℕ, zero, suc, ◌+◌, ◌-◌, ◌*◌, ◌/◌, ◌%◌, ◌^◌, ◌<◌}
use native.Mathlib.Nat.{le_step, add-zero, pow-succ'}
use native.Mathlib.Decide.{dec_lt}
use native.Mathlib.Omega.{arith}
use lib.ListN.{length, get_or, take, drop, length-take, get_or-append}
use lib.Pow.{pow_pos}
use lib.Seq.{get_or-append-add, get_or-take, drop_at}
use Rattle.lists.specs.Lists.{list_of, Below}
use Rattle.lists.proofs.ListsLaws.{length-list_of, get_or-list_of}
use Rattle.block_elements.specs.Rows.{Row, choose, State, on, run, Delivered}
use Rattle.block_elements.proofs.RowsLaws.{run-append, run_keeps, run-wires, run-bits, run-gates}
use Rattle.block_networks.specs.Permutation.{permutation_count, input_rows, output_rows, firsts, seconds, upper_next, lower_next, output_next}
use Rattle.block_networks.specs.Permutation.{permutation_outs, upper_outs, lower_outs, permutation_rows, Perm, permutation_bits}
use Rattle.block_networks.proofs.Sources.{cross, through, upper_bits, source, target}
use Rattle.block_networks.proofs.Loops.{parity, perm_lt}
use Rattle.block_networks.proofs.XRun.{operand, operand_at, operand-list, operand_lt, chosen-listed, cross_lt, cross_ext}
use Rattle.block_networks.proofs.XRun.{run_x, run_x-made, run_x-left, run_x_keeps, run_x-at}
use Rattle.block_networks.proofs.PermutationLaws.{permutation_totals, half-wires}
use Rattle.block_networks.proofs.Routing.{cross-half, cross-past, source-perm, source_programmed, length-permutation_bits}

pub get_or-firsts : (h next i : ℕ) → i < h → get_or (firsts h next) i 0 ≡ next + 2 * i
unfolding firsts
get_or-firsts h next i l = get_or-list_of h _ i 0 l

pub get_or-seconds : (h next i : ℕ) → i < h → get_or (seconds h next) i 0 ≡ next + 2 * i + 1
unfolding seconds
get_or-seconds h next i l = get_or-list_of h _ i 0 l

-- from output o of P(2 * 2 ^ n) back to the outputs of its input rows, where `bits` are those after the input rows' own
inside : ℕ → List ℕ → ℕ → ℕ
inside n bits o =
    let lower : List ℕ = drop (permutation_count n) bits in
    through (source n bits) (source n lower) (cross (take (2 ^ n - 1) (drop (permutation_count n) lower)) o)

source-inside : (n : ℕ) (bits : List ℕ) (o : ℕ) → cross (take (2 ^ n) bits) (inside n (upper_bits n bits) o) ≡ source (suc n) bits o
unfolding inside source
source-inside n bits o = refl

inside_lt : (n : ℕ) (bits : List ℕ) (o : ℕ) → o < 2 ^ suc n → inside n (upper_bits n bits) o < 2 * 2 ^ n
inside_lt n bits o l =
    let x = inside n (upper_bits n bits) o in
    omega (arith, pow-succ' 2 n, cross-half (take (2 ^ n) bits) x, ap (λ y. y / 2) (source-inside n bits o), perm_lt (source-perm (suc n) bits) o l)

module _ {A : Type 0} (none : A) (gate : ℕ → List ℕ → List A → A) where
  -- ---- the parts of P

  -- the input rows: place y of their outputs carries what that input place carried with which it is crossed
  split_inputs : (h : ℕ) (ins : List ℕ) (next : ℕ) (s : State A) → length ins ≡ 2 * h → Below next ins → length s.wires ≡ next
      → (y : ℕ) → y < 2 * h
      → on none (run none gate (input_rows h ins) s) (next + y) ≡ on none s (get_or ins (cross (take h s.bits) y) 0)
  unfolding input_rows
  split_inputs h ins next s e b m y l =
      let f : ℕ → ℕ = λ i. get_or ins (2 * i) 0 in
      let g : ℕ → ℕ = λ i. get_or ins (2 * i + 1) 0 in
      ap (λ w. on none (run_x none gate h f g s) (w + y)) (sym m)
      ∙ run_x-at none gate h f g s (λ i k. rw m (b.each (2 * i) (omega arith))) (λ i k. rw m (b.each (2 * i + 1) (omega arith))) y l
      ∙ ap (on none s) (operand-list ins (cross s.bits y))
      ∙ ap (λ x. on none s (get_or ins x 0)) (cross_ext s.bits (take h s.bits) y (sym (get_or-take h s.bits (y / 2) 0 (omega arith))))

  -- the output rows, and the last pair, which has none
  join_outputs : (k : ℕ) (us ls : List ℕ) (next : ℕ) (s : State A) → ((i : ℕ) → i < suc k → get_or us i 0 < next)
      → ((i : ℕ) → i < suc k → get_or ls i 0 < next) → length s.wires ≡ next → (o : ℕ) → o < 2 * suc k
      → on none (run none gate (output_rows k us ls) s) (get_or (list_of (2 * k) (λ o. next + o) ++ (get_or us k 0 ∷ get_or ls k 0 ∷ [])) o 0)
      ≡ on none s (operand (λ i. get_or us i 0) (λ i. get_or ls i 0) (cross (take k s.bits) o))
  unfolding output_rows
  join_outputs k us ls next s hu hl w o l = go (dec_lt o (2 * k))
    where
      f : ℕ → ℕ
      f i = get_or us i 0

      g : ℕ → ℕ
      g i = get_or ls i 0

      made : List ℕ
      made = list_of (2 * k) (λ o. next + o)

      all : List ℕ
      all = made ++ (f k ∷ g k ∷ [])

      size : length made ≡ 2 * k
      size = length-list_of (2 * k) (λ o. next + o)

      value : ℕ → A
      value x = on none s (operand f g x)

      pair : (c : ℕ) → c < 2 → get_or (f k ∷ g k ∷ []) c 0 ≡ operand f g (2 * k + c)
      pair c m = chosen-listed (f k) (g k) c m ∙ sym (operand_at f g k c m)

      straight : (c : ℕ) → o ≡ 2 * k + c → c < 2 → get_or all o 0 ≡ operand f g o
      straight c p m =
          let q : o ≡ length made + c = rw size p in
          ap (λ i. get_or all i 0) q ∙ get_or-append-add made _ c 0 ∙ pair c m ∙ ap (operand f g) (sym p)

      go : Dec (o < 2 * k) → on none (run_x none gate k f g s) (get_or all o 0) ≡ value (cross (take k s.bits) o)
      go (yes m) =
          let e : get_or all o 0 ≡ length s.wires + o = get_or-append made _ 0 o (rw size m) ∙ get_or-list_of (2 * k) _ o 0 m ∙ rw w in
          ap (on none (run_x none gate k f g s)) e
          ∙ run_x-at none gate k f g s (λ i n. rw w (hu i (le_step n))) (λ i n. rw w (hl i (le_step n))) o m
          ∙ ap value (cross_ext s.bits (take k s.bits) o (sym (get_or-take k s.bits (o / 2) 0 (omega arith))))
      go (no m) =
          ap (on none (run_x none gate k f g s)) (straight (o - 2 * k) (omega arith) (omega arith))
          ∙ run_x_keeps none gate k f g s _ (rw w (operand_lt f g (suc k) next o hu hl l))
          ∙ ap value (sym (cross-past (take k s.bits) o (omega (arith, length-take k s.bits))))

  -- P(2 ^ n) on any wires and bits: output o carries what input `source n bits o` carried
  Routes : ℕ → Type 0
  Routes n =
      (ins : List ℕ) (next : ℕ) (s : State A) → length ins ≡ 2 ^ n → Below next ins → length s.wires ≡ next → (o : ℕ) → o < 2 ^ n
      → on none (run none gate (permutation_rows n ins next) s) (get_or (permutation_outs n ins next) o 0)
      ≡ on none s (get_or ins (source n s.bits o) 0)

  pub permutation_made : (n : ℕ) (ins : List ℕ) (next : ℕ) (s : State A)
      → length (run none gate (permutation_rows n ins next) s).wires ≡ length s.wires + 2 * permutation_count n
  permutation_made n ins next s = run-wires none gate _ s ∙ ap (λ k. length s.wires + k) (permutation_totals n ins next).wires

  pub permutation_left : (n : ℕ) (ins : List ℕ) (next : ℕ) (s : State A)
      → (run none gate (permutation_rows n ins next) s).bits ≡ drop (permutation_count n) s.bits
  permutation_left n ins next s = run-bits none gate _ s ∙ ap (λ k. drop k s.bits) (permutation_totals n ins next).bits

  pub permutation_gates : (n : ℕ) (ins : List ℕ) (next : ℕ) (s : State A) → (run none gate (permutation_rows n ins next) s).gates ≡ s.gates
  permutation_gates n ins next s = run-gates none gate _ s ∙ rw ((permutation_totals n ins next).gates, add-zero)

  -- the two halves, after the input rows
  module _ (n : ℕ) (route : Routes n) (next : ℕ) (s : State A) (made : length s.wires ≡ upper_next n next) where
    after_upper : State A
    after_upper = run none gate (permutation_rows n (firsts (2 ^ n) next) (upper_next n next)) s

    after_lower : State A
    after_lower = run none gate (permutation_rows n (seconds (2 ^ n) next) (lower_next n next)) after_upper

    made-upper : length after_upper.wires ≡ lower_next n next
    unfolding after_upper
    made-upper = permutation_made n _ _ s ∙ ap (λ k. k + 2 * permutation_count n) made

    upper_carries : (i : ℕ) → i < 2 ^ n → on none after_lower (get_or (upper_outs n next) i 0) ≡ on none s (next + 2 * source n s.bits i)
    unfolding Routes after_upper after_lower
    upper_carries i l =
        let w = half-wires n next in
        run_keeps none gate _ after_upper _ none (rw made-upper (w.upper-given i l))
        ∙ route (firsts (2 ^ n) next) (upper_next n next) s w.upper-size w.upper-fed made i l
        ∙ ap (on none s) (get_or-firsts (2 ^ n) next _ (perm_lt (source-perm n s.bits) i l))

    lower_carries : (i : ℕ) → i < 2 ^ n
        → on none after_lower (get_or (lower_outs n next) i 0) ≡ on none s (next + 2 * source n (drop (permutation_count n) s.bits) i + 1)
    unfolding Routes after_upper after_lower
    lower_carries i l =
        let w = half-wires n next in
        let bits = drop (permutation_count n) s.bits in
        let small = perm_lt (source-perm n bits) i l in
        route (seconds (2 ^ n) next) (lower_next n next) after_upper w.lower-size w.lower-fed made-upper i l
        ∙ ap (λ (b : List ℕ). on none after_upper (get_or (seconds (2 ^ n) next) (source n b i) 0)) (permutation_left n _ _ s)
        ∙ ap (on none after_upper) (get_or-seconds (2 ^ n) next _ small)
        ∙ run_keeps none gate _ s _ none (rw made (omega arith))

    halves_carry : (x : ℕ) → x < 2 * 2 ^ n → on none after_lower (operand (λ i. get_or (upper_outs n next) i 0) (λ i. get_or (lower_outs n next) i 0) x)
        ≡ on none s (next + through (source n s.bits) (source n (drop (permutation_count n) s.bits)) x)
    unfolding operand through choose
    halves_carry x l = go (parity x)
      where
        U : ℕ → ℕ
        U = source n s.bits

        L : ℕ → ℕ
        L = source n (drop (permutation_count n) s.bits)

        i : ℕ
        i = x / 2

        go : (x % 2 ≡ 0) ⊎ (x % 2 ≡ 1) → on none after_lower (choose (x % 2) (get_or (upper_outs n next) i 0) (get_or (lower_outs n next) i 0))
            ≡ on none s (next + (2 * choose (x % 2) (U i) (L i) + x % 2))
        go (inl e) = rw e (upper_carries i (omega arith) ∙ ap (on none s) (omega arith))
        go (inr e) = rw e (lower_carries i (omega arith) ∙ ap (on none s) (omega arith))

    made-lower : length after_lower.wires ≡ output_next n next
    unfolding after_lower
    made-lower = permutation_made n _ _ after_upper ∙ ap (λ k. k + 2 * permutation_count n) made-upper

    left-lower : after_lower.bits ≡ drop (permutation_count n) (drop (permutation_count n) s.bits)
    unfolding after_upper after_lower
    left-lower = permutation_left n _ _ after_upper ∙ ap (drop (permutation_count n)) (permutation_left n _ _ s)

    -- the halves and the output rows
    outputs_carry : (ins : List ℕ) (o : ℕ) → o < 2 * 2 ^ n
        → let O : List Row = output_rows (2 ^ n - 1) (upper_outs n next) (lower_outs n next) in
        on none (run none gate O after_lower) (get_or (permutation_outs (suc n) ins next) o 0) ≡ on none s (next + inside n s.bits o)
    unfolding permutation_outs inside
    outputs_carry ins o l =
        let w = half-wires n next in
        let p = pow_pos n in
        let x : List ℕ → ℕ = λ (b : List ℕ). cross (take (2 ^ n - 1) b) o in
        join_outputs (2 ^ n - 1) (upper_outs n next) (lower_outs n next) (output_next n next) after_lower
        (λ i m. omega (arith, w.upper-given i (omega arith))) (λ i m. w.lower-given i (omega arith)) made-lower o (omega arith)
        ∙ ap (λ (b : List ℕ). on none after_lower (operand (λ i. get_or (upper_outs n next) i 0) (λ i. get_or (lower_outs n next) i 0) (x b))) left-lower
        ∙ halves_carry _ (cross_lt _ (2 ^ n) o l)

  input-made : (n : ℕ) (ins : List ℕ) (s : State A) → length (run none gate (input_rows (2 ^ n) ins) s).wires ≡ upper_next n (length s.wires)
  unfolding input_rows
  input-made n ins s = run_x-made none gate (2 ^ n) _ _ s

  input-left : (n : ℕ) (ins : List ℕ) (s : State A) → (run none gate (input_rows (2 ^ n) ins) s).bits ≡ upper_bits n s.bits
  unfolding input_rows
  input-left n ins s = run_x-left none gate (2 ^ n) _ _ s

  -- for any bits output o carries what the input that it is joined to carried
  pub permutation_routes : (n : ℕ) (ins : List ℕ) (next : ℕ) (s : State A) → length ins ≡ 2 ^ n → Below next ins → length s.wires ≡ next
      → (o : ℕ) → o < 2 ^ n
      → on none (run none gate (permutation_rows n ins next) s) (get_or (permutation_outs n ins next) o 0)
      ≡ on none s (get_or ins (source n s.bits o) 0)
  unfolding permutation_rows Routes after_upper after_lower
  permutation_routes zero ins next s e b m o l = unfold run permutation_outs source in refl
  permutation_routes (suc n) ins next s e b m o l =
      let two = pow-succ' 2 n in
      let s₁ : State A = run none gate (input_rows (2 ^ n) ins) s in
      let s₂ : State A = run none gate (permutation_rows n (firsts (2 ^ n) next) (upper_next n next)) s₁ in
      let m₁ : length s₁.wires ≡ upper_next n next = input-made n ins s ∙ ap (upper_next n) m in
      ap (λ (t : State A). on none t (get_or (permutation_outs (suc n) ins next) o 0))
      (run-append none gate (input_rows (2 ^ n) ins) _ s ∙ run-append none gate _ _ s₁ ∙ run-append none gate _ _ s₂)
      ∙ outputs_carry n (permutation_routes n) next s₁ m₁ ins o (omega arith)
      ∙ ap (λ (a : List ℕ). on none s₁ (next + inside n a o)) (input-left n ins s)
      ∙ split_inputs (2 ^ n) ins next s (omega arith) b m (inside n (upper_bits n s.bits) o) (inside_lt n s.bits o l)
      ∙ ap (λ x. on none s (get_or ins x 0)) (source-inside n s.bits o)

  -- ---- the promises

  -- P(2 ^ n), run from s, joins output o to input π o and leaves the bits `rest`
  abbrev pub PermutationDelivers : ℕ → (ℕ → ℕ) → List ℕ → ℕ → State A → List ℕ → Type 0
  PermutationDelivers n π ins next s rest =
      Delivered none (2 ^ n) π ins (permutation_outs n ins next) s (run none gate (permutation_rows n ins next) s) (2 * permutation_count n) rest

  -- for any bits, even too few, the outputs are a rearrangement of the inputs, which the bits alone decide
  pub permutation_rearranges : (n : ℕ) (ins : List ℕ) (next : ℕ) (s : State A) → length ins ≡ 2 ^ n → Below next ins → length s.wires ≡ next
      → (Perm (2 ^ n) (source n s.bits) (target n s.bits))
      × (PermutationDelivers n (source n s.bits) ins next s (drop (permutation_count n) s.bits))
  permutation_rearranges n ins next s e b m = (
    source-perm n s.bits,
    record {
      carried = permutation_routes n ins next s e b m;
      kept = λ w l. run_keeps none gate _ s w none l;
      wires = permutation_made n ins next s;
      bits = permutation_left n ins next s;
      gates = permutation_gates n ins next s;
    },
  )

  -- programmed for π, output o carries what input π o carried; the bits after the program are untouched
  pub permutation_delivers : (n : ℕ) {π ρ : ℕ → ℕ} → Perm (2 ^ n) π ρ → (ins : List ℕ) (next : ℕ) (s : State A) (rest : List ℕ)
      → length ins ≡ 2 ^ n → Below next ins → length s.wires ≡ next → s.bits ≡ permutation_bits n π ρ ++ rest
      → PermutationDelivers n π ins next s rest
  permutation_delivers n {π} {ρ} P ins next s rest e b m bits =
      let d = (permutation_rearranges n ins next s e b m).1 in
      let same : (o : ℕ) → source n s.bits o ≡ π o = λ o. rw bits (source_programmed n P rest o) in
      record {
        carried = λ o l. d.carried o l ∙ ap (λ x. on none s (get_or ins x 0)) (same o);
        kept = d.kept;
        wires = d.wires;
        bits = d.bits ∙ rw bits (drop_at (permutation_bits n π ρ) rest (permutation_count n) (length-permutation_bits n π ρ));
        gates = d.gates;
      }
