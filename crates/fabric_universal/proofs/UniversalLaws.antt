-- What U(2 ^ n) consists of, by one induction over the levels each: its rows, its wires, its bits, 2 ^ n gates; 2 ^ n output wires, each made;
-- and each row's wires are made before it. With S inside K(n² + n) + 2K - 1 rows and K(2n² + 4) - 3 wires.
use mathlib.Core.Path.{◌≡◌, refl, ap, ◌∙◌}
use mathlib.Core.List.{List, [], ◌∷◌}
use Prim.Native.Nat.{ℕ, zero, suc, ◌+◌, ◌*◌, ◌^◌, ◌<◌}
use native.Mathlib.Nat.{mul-add, mul_assoc, mul_comm, mul-suc, suc-mul}
use native.Mathlib.Omega.{arith}
use lib.ListN.{length, get_or, take, length-append}
use lib.Seq.{get_or-take}
use lib.Pow.{pow_pos}
use Rattle.lists.specs.Lists.{Below}
use Rattle.lists.proofs.ListsLaws.{length-list_of, get_or-list_of, below-append, below_more, below-pair}
use Rattle.lists.proofs.CountingLaws.{one_lt}
use Rattle.blocks.specs.Elements.{inputs_of, operands, gate_bits, MadeBefore, made_none, made_more, Totals, AreBits}
use Rattle.blocks.proofs.ElementsLaws.{made_before-append, totals-append, gate-totals, y-list, y-made_before, bits-append, bits-list_of}
use Rattle.fabric_universal.specs.Selector.{pin_count, Selector, SelectorShape, selection}
use Rattle.fabric_universal.specs.Universal.{mix_rows, wires_from}
use Rattle.fabric_universal.specs.Universal.{universal_count, universal_wires, universal_takes, select_next, mix_next, lower_half_next, universal_outs, selected_outs}
use Rattle.fabric_universal.specs.Universal.{lower_pins, universal_rows, Gates, table_program, is_of, mix_bits, universal_bits}
use Rattle.fabric_universal.proofs.SelectorLaws.{double, selection-shape, half_count, half-made}
use Rattle.fabric_universal.proofs.UniversalProgram.{wanted-selected}

-- ---- what the closed forms need: K times (n + 1)², and twice the half's

next-square : (n K : ℕ) → K * (suc n * suc n) ≡ K * (n * n) + 2 * (K * n) + K
next-square n K = rw (suc-mul n (suc n), mul-suc n n, mul-add K (n * n + n) (suc n), mul-add K (n * n) n, mul-suc K n) (omega arith)

twice : (n m : ℕ) → 2 ^ suc n * m ≡ 2 * (2 ^ n * m)
twice n m = rw (double n) (mul_assoc 2 (2 ^ n) m)

-- ---- what U consists of

module _ (S : Selector) where
  pub length-universal_outs : (n next : ℕ) → length (universal_outs S n next) ≡ 2 ^ n
  unfolding universal_outs
  length-universal_outs zero next = refl
  length-universal_outs (suc n) next =
      length-append (universal_outs S n next) _
      ∙ omega (arith, double n, length-universal_outs n next, length-universal_outs n (lower_half_next S n next))

  -- every output wire is made
  pub universal_below : (n next : ℕ) → Below (next + universal_wires S n) (universal_outs S n next)
  unfolding universal_outs universal_wires
  universal_below zero next = record { each = at }
    where
      at : (i : ℕ) → i < 1 → get_or (next ∷ []) i 0 < next + 1
      at zero l = omega arith
      at (suc i) l = absurd (omega arith)
  universal_below (suc n) next =
      below-append (below_more _ (universal_below n next) (omega arith)) (below_more _ (universal_below n (lower_half_next S n next)) (omega arith))

  module _ (shape : SelectorShape S) where
    pub length-universal_rows : (n : ℕ) (pins : List ℕ) (next : ℕ) → length (universal_rows S n pins next) ≡ universal_count S n
    unfolding universal_rows universal_count mix_rows
    length-universal_rows zero pins next = refl
    length-universal_rows (suc n) pins next = simp (
      length-append,
      length-universal_rows n (take (pin_count n) pins) next,
      length-universal_rows n (lower_pins S n next) (lower_half_next S n next),
      (shape.at n).size,
      length-list_of,
    )

    pub universal_totals : (n : ℕ) (pins : List ℕ) (next : ℕ) → Totals (universal_rows S n pins next) (universal_wires S n) (universal_takes S n) (2 ^ n)
    unfolding universal_rows universal_wires universal_takes mix_rows
    universal_totals zero pins next = gate-totals (get_or pins 0 0) (get_or pins 1 0)
    universal_totals (suc n) pins next =
        let t = totals-append (universal_totals n (take (pin_count n) pins) next)
        (totals-append ((shape.at n).totals (universal_outs S n next) (select_next S n next))
        (totals-append (y-list (pin_count n) _ _) (universal_totals n (lower_pins S n next) (lower_half_next S n next)))) in
        record { wires = t.wires; bits = t.bits; gates = omega (arith, t.gates, double n); family = t.family }

-- ---- its wires

-- the pins of U(2 ^ n) are made wires
pub record Fed (n next : ℕ) (pins : List ℕ) : Type 0 where
  pub each : (i : ℕ) → i < pin_count n → get_or pins i 0 < next

pub fed-below : {n next : ℕ} {pins : List ℕ} → length pins ≡ pin_count n → Below next pins → Fed n next pins
fed-below e b = record { each = λ i l. b.each i (rw e l) }

pub upper-pins-fed : {n next : ℕ} {pins : List ℕ} → Fed (suc n) next pins → Fed n next (take (pin_count n) pins)
upper-pins-fed {n} {next} {pins} F = record {
  each = λ i l. rw (get_or-take (pin_count n) pins i 0 l) (F.each i (omega (arith, double n)));
}

-- the pins that the Y rows read from the block's own
pub mixed-fed : {n next : ℕ} {pins : List ℕ} → Fed (suc n) next pins → (j : ℕ) → j < pin_count n → get_or pins (pin_count n + j) 0 < next
mixed-fed {n} F j l = F.each (pin_count n + j) (omega (arith, double n))

mix_bits-bits : (G : Gates) (base h : ℕ) → AreBits (mix_bits G base h)
unfolding mix_bits
mix_bits-bits G base h = bits-list_of (operands * h) (λ j. one_lt (is_of G base h (G.operand (operands * (base + h) + j))))

module _ (S : Selector) where
  pub get_or-lower_pins : (n next j : ℕ) → j < pin_count n → get_or (lower_pins S n next) j 0 ≡ mix_next S n next + j
  unfolding wires_from
  get_or-lower_pins n next j l = get_or-list_of (pin_count n) _ j 0 l

  pub lower-pins-fed : (n next : ℕ) → Fed n (lower_half_next S n next) (lower_pins S n next)
  lower-pins-fed n next = record { each = λ j l. rw (get_or-lower_pins n next j l) (omega arith) }

  module _ (shape : SelectorShape S) where
    pub selected-fed : (n next j : ℕ) → 0 < next → j < pin_count n → get_or (selected_outs S n next) j 0 < mix_next S n next
    selected-fed n next j z l =
        ((shape.at n).below (universal_outs S n next) (select_next S n next) (omega arith) (universal_below S n next)).each j
        (rw ((shape.at n).outputs (universal_outs S n next) (select_next S n next) (length-universal_outs S n next)) l)

    pub universal_made_before : (n : ℕ) (pins : List ℕ) (next : ℕ) → 0 < next → Fed n next pins → MadeBefore next (universal_rows S n pins next)
    unfolding universal_rows mix_rows inputs_of
    universal_made_before zero pins next z F = made_more (below-pair (F.each 0 (omega arith)) (F.each 1 (omega arith))) made_none
    universal_made_before (suc n) pins next z F =
        let outs = universal_outs S n next in
        let after = select_next S n next in
        made_before-append (universal_made_before n (take (pin_count n) pins) next z (upper-pins-fed F))
        (ap (λ k. next + k) (universal_totals S shape n (take (pin_count n) pins) next).wires)
        (made_before-append ((shape.at n).made_before outs after (length-universal_outs S n next) (omega arith) (universal_below S n next))
        (ap (λ k. after + k) ((shape.at n).totals outs after).wires)
        (made_before-append
        (y-made_before (mix_next S n next) (pin_count n) _ _ (λ j l. omega (arith, mixed-fed F j l)) (λ j l. omega (arith, selected-fed n next j z l)))
        (ap (λ k. mix_next S n next + k) (y-list (pin_count n) _ _).wires)
        (universal_made_before n (lower_pins S n next) (lower_half_next S n next) (omega arith) (lower-pins-fed n next))))

    -- ---- its program bits

    pub length-universal_bits : (G : Gates) (n base : ℕ) → length (universal_bits S G n base) ≡ universal_takes S n
    unfolding universal_bits universal_takes mix_bits table_program
    length-universal_bits G zero base = length-list_of gate_bits _
    length-universal_bits G (suc n) base =
        simp (length-append, length-universal_bits G n base, length-universal_bits G n (base + 2 ^ n), (shape.at n).program, length-list_of)

    pub universal_bits-bits : (G : Gates) (n base : ℕ) → AreBits (universal_bits S G n base)
    unfolding universal_bits table_program
    universal_bits-bits G zero base = bits-list_of gate_bits (λ i. omega arith)
    universal_bits-bits G (suc n) base =
        bits-append (universal_bits-bits G n base)
        (bits-append ((shape.at n).are_bits (wanted-selected G base (2 ^ n) (pow_pos n))) (bits-append (mix_bits-bits G base (2 ^ n)) (universal_bits-bits G n (base + 2 ^ n))))

  -- a bit for each row, and three more for each gate
  pub universal_takes_lem : (n : ℕ) → universal_takes S n ≡ universal_count S n + 3 * 2 ^ n
  unfolding universal_takes universal_count
  universal_takes_lem zero = refl
  universal_takes_lem (suc n) = omega (arith, universal_takes_lem n, double n)

-- ---- the closed forms, with document 01's S inside

-- K(n² + n) + 2K - 1 rows
pub universal_count_lem : (n : ℕ) → universal_count selection n + 1 ≡ 2 ^ n * (n * n + n) + 2 * 2 ^ n
unfolding universal_count
universal_count_lem zero = refl
universal_count_lem (suc n) = rw (mul-add (2 ^ suc n) (suc n * suc n) (suc n), next-square n (2 ^ suc n), mul-suc (2 ^ suc n) n) (omega (
  arith,
  universal_count_lem n,
  mul-add (2 ^ n) (n * n) n,
  half_count n,
  mul_comm (suc n) (2 ^ suc n),
  mul-suc (2 ^ suc n) n,
  twice n (n * n),
  twice n n,
  double n,
))

pub universal_rows_lem : (n : ℕ) (pins : List ℕ) (next : ℕ) → length (universal_rows selection n pins next) + 1 ≡ 2 ^ n * (n * n + n) + 2 * 2 ^ n
universal_rows_lem n pins next = rw (length-universal_rows selection selection-shape n pins next) (universal_count_lem n)

-- K(2n² + 4) - 3 wires
pub universal_made : (n : ℕ) → universal_wires selection n + 3 ≡ 2 * (2 ^ n * (n * n)) + 4 * 2 ^ n
unfolding universal_wires
universal_made zero = refl
universal_made (suc n) = rw (next-square n (2 ^ suc n)) (omega (
  arith,
  universal_made n,
  half-made n,
  mul_comm (suc n) (2 ^ suc n),
  mul-suc (2 ^ suc n) n,
  twice n (n * n),
  twice n n,
  double n,
))
