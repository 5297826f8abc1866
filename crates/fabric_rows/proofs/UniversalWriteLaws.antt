-- Writing U, in the code's order: the upper half's output wires feed the selection block, the Y rows' output wires the lower half.
use mathlib.Core.Path.{◌≡◌, sym, ap, ap₂, ◌∙◌}
use mathlib.Core.List.{List, ◌++◌, append_assoc}
use Prim.Native.Nat.{ℕ, suc, ◌+◌, ◌≤◌}
use native.Mathlib.Omega.{arith}
use lib.ListN.{length, get_or, take, drop}
use lib.Seq.{length_front, length-take-le, drop_at, get_or-drop, get_or-append-add}
use Rattle.lists.specs.Lists.{list_of}
use Rattle.lists.proofs.ListsLaws.{list_of_ext}
use Rattle.fault.specs.Buffers.{with_part}
use Rattle.blocks.specs.Elements.{Y, flat}
use Rattle.blocks.proofs.ElementsLaws.{flat_append}
use Rattle.blocks.specs.Networks.{selection_rows, selection_outs, selection_count, selection_wires}
use Rattle.blocks.proofs.NetworksLaws.{length-selection_outs}
use Rattle.fabric_universal.specs.Selector.{pin_count, selection}
use Rattle.fabric_universal.specs.Universal.{mix_rows, wires_from, select_next, lower_half_next, universal_outs, selected_outs, lower_pins, universal_rows}
use Rattle.fabric_universal.proofs.UniversalLaws.{length-universal_outs, universal_below}
use Rattle.fabric_universal.specs.Fabric.{gate_level}
use Rattle.fabric_rows.specs.declared.block.UniversalParts.{UniversalParts}
use Rattle.fabric_rows.specs.Block.{middle_rows, middle_pins, MiddleRoom, UniversalWriteRoom, UniversalPartsAt}
use Rattle.fabric_rows.proofs.StretchesLaws.{stretch_of, with_stretch, WrittenTo, front_put, length_lent, stretch_put, last_put}

-- the entries of its parts, one behind the other
flat-parts : (n : ℕ) (pins : List ℕ) (next : ℕ) → (flat (universal_rows selection n (take (pin_count n) pins) next)
    ++ flat ((selection n).rows (universal_outs selection n next) (select_next selection n next)
    ++ mix_rows (pin_count n) pins (selected_outs selection n next)))
    ++ flat (universal_rows selection n (lower_pins selection n next) (lower_half_next selection n next))
    ≡ flat (universal_rows selection (suc n) pins next)
unfolding universal_rows
flat-parts n pins next = simp (flat_append, append_assoc)

-- The steps. L is the table's part, P₀ are the pins
module _ {gates next : ℕ} {p : UniversalParts} (L P₀ : List ℕ) (room : UniversalWriteRoom next (length L) (length P₀) gates)
    (at : UniversalPartsAt gates next p) where
  pins_are_lem : p.pins ≡ pin_count (gate_level p.half)
  pins_are_lem = omega (arith, at.pins_are, at.half_is)

  count-is : selection_count p.half p.pins ≡ (selection (gate_level p.half)).count
  count-is = ap₂ selection_count at.half_is pins_are_lem

  wires_are : selection_wires p.half p.pins ≡ (selection (gate_level p.half)).wires
  wires_are = ap₂ selection_wires at.half_is pins_are_lem

  fits : p.upper + p.middle ≤ length L
  fits = omega (arith, at.whole, room.row_room)

  upper-put : {A : List ℕ} → length A ≡ length (take p.upper L) → WrittenTo p.upper A L (A ++ drop p.upper L)
  upper-put {A} e = front_put A L p.upper (omega (arith, fits)) e

  -- the upper half is written, O are its output wires
  module _ (O : List ℕ) (outs : O ≡ universal_outs selection (gate_level p.half) next) where
    length-outs : length O ≡ p.half
    length-outs = ap length outs ∙ length-universal_outs selection (gate_level p.half) next ∙ sym at.half_is

    -- its rows are A, and X stands in the places of its pins
    pub middle-room : (A X : List ℕ) → length A ≡ length (take p.upper L) → length X ≡ length (take gates P₀)
        → MiddleRoom p O (length (stretch_of p.upper (p.upper + p.middle) (A ++ drop p.upper L))) (length (X ++ drop gates P₀))
    middle-room A X la lx =
        let lent = length_lent (upper-put la) (p.upper + p.middle) (omega arith) fits in
        let kept = length_front P₀ X gates lx in
        let few = at.few in
        let pins_are = at.pins_are in
        let double = at.double in
        let pin_room = room.pin_room in
        record {
          select = record {
            sizes = record {
              some_inputs = at.some;
              inputs = omega arith;
              some_outputs = omega (arith, at.some);
              outputs = omega arith;
            };
            inputs = length-outs;
            made = rw (outs, at.select_from) (universal_below selection (gate_level p.half) next);
            wires = λ _. omega (arith, at.select_from, at.mix_from, at.lower_from, at.made, wires_are);
            row_room = omega (arith, at.select_at, count-is);
            output_room = omega arith;
          };
          out_room = length-outs;
          select_at = omega (arith, at.select_at, count-is);
          row_room = omega (arith, at.middle_at);
          pin_room = omega arith;
          wires = omega (arith, at.mix_from, at.lower_from, at.made, pins_are_lem);
        }

    -- what the selection block gives, and its rows
    select-outs : selection_outs p.half p.pins O p.select_next.0 ≡ selected_outs selection (gate_level p.half) next
    select-outs =
        let n : ℕ = gate_level p.half in
        ap (λ o. selection_outs p.half p.pins o p.select_next.0) outs
        ∙ ap (selection_outs p.half p.pins (universal_outs selection n next)) at.select_from
        ∙ ap₂ (λ h m. selection_outs h m (universal_outs selection n next) (select_next selection n next)) at.half_is pins_are_lem

    select-rows :
        selection_rows p.half p.pins O p.select_next.0
        ≡ (selection (gate_level p.half)).rows (universal_outs selection (gate_level p.half) next) (select_next selection (gate_level p.half) next)
    select-rows =
        let n : ℕ = gate_level p.half in
        ap (λ o. selection_rows p.half p.pins o p.select_next.0) outs
        ∙ ap (selection_rows p.half p.pins (universal_outs selection n next)) at.select_from
        ∙ ap₂ (λ h m. selection_rows h m (universal_outs selection n next) (select_next selection n next)) at.half_is pins_are_lem

    -- the Y rows' output wires are the lower half's pins
    lower-are : drop gates (middle_pins p O) ≡ lower_pins selection (gate_level p.half) next
    unfolding middle_pins
    lower-are =
        let S = selection_outs p.half p.pins O p.select_next.0 in
        let long : length S ≡ gates = length-selection_outs p.half p.pins O p.select_next.0 ∙ sym at.double in
        drop_at S (wires_from p.pins p.mix_next.0) gates long ∙ ap₂ wires_from pins_are_lem at.mix_from

    pub outs-written : {H : List ℕ} → H ≡ universal_outs selection (gate_level p.half) p.lower_next.0
        → O ++ H ≡ universal_outs selection (gate_level gates) next
    unfolding universal_outs
    outs-written e =
        ap₂ ◌++◌ outs (e ∙ ap (universal_outs selection (gate_level p.half)) at.lower_from)
        ∙ ap (λ m. universal_outs selection m next) (sym at.level)

    -- X stands in the places of its pins
    module _ (X : List ℕ) (lx : length X ≡ length (take gates P₀)) where
      size : length X ≡ gates
      size = lx ∙ length-take-le gates P₀ (omega (arith, room.pin_room))

      -- the lower half's pins are as they were
      pins-stay : (j : ℕ) → get_or (X ++ drop gates P₀) (p.pins + j) 0 ≡ get_or P₀ (p.pins + j) 0
      pins-stay j =
          let e : p.pins ≡ length X = omega (arith, at.double, size) in
          ap (λ k. get_or (X ++ drop gates P₀) (k + j) 0) e ∙ get_or-append-add X (drop gates P₀) j 0 ∙ get_or-drop gates P₀ j 0
          ∙ ap (λ k. get_or P₀ (k + j) 0) at.double

      mixed : (W : List ℕ) → mix_rows p.pins (X ++ drop gates P₀) W ≡ mix_rows (pin_count (gate_level p.half)) P₀ W
      unfolding mix_rows
      mixed W =
          list_of_ext p.pins _ _ (λ j l. ap (λ w. Y w (get_or W j 0)) (pins-stay j))
          ∙ ap (λ k. list_of k (λ j. Y (get_or P₀ (k + j) 0) (get_or W j 0))) pins_are_lem

      middle_are :
          let n : ℕ = gate_level p.half in
          middle_rows p O (X ++ drop gates P₀)
          ≡ (selection n).rows (universal_outs selection n next) (select_next selection n next) ++ mix_rows (pin_count n) P₀ (selected_outs selection n next)
      unfolding middle_rows
      middle_are = ap₂ ◌++◌ select-rows (ap (mix_rows p.pins (X ++ drop gates P₀)) select-outs ∙ mixed _)

      -- the entries of all parts
      pub halves_written : {A M Z Q D : List ℕ} → length A ≡ length (take p.upper L)
          → length M ≡ length (stretch_of p.upper (p.upper + p.middle) (A ++ drop p.upper L))
          → A ≡ flat (universal_rows selection (gate_level p.half) (take gates P₀) next)
          → M ≡ flat (middle_rows p O (X ++ drop gates P₀)) → Z ≡ middle_pins p O → Q ≡ drop gates Z
          → D ≡ flat (universal_rows selection (gate_level p.half) Q p.lower_next.0)
          → with_part (p.upper + p.middle) (with_stretch p.upper (p.upper + p.middle) (A ++ drop p.upper L) M) D
          ≡ flat (universal_rows selection (gate_level gates) P₀ next)
      halves_written {A} {M} {D = D} la lm ea em ez eq ed =
          let put = stretch_put (upper-put la) M (p.upper + p.middle) (omega arith) fits lm in
          let n : ℕ = gate_level p.half in
          let upper = ea ∙ ap (λ k. flat (universal_rows selection n (take k P₀) next)) (at.double ∙ pins_are_lem) in
          let middle = em ∙ ap flat middle_are in
          let fed = eq ∙ ap (drop gates) ez ∙ lower-are in
          let lower = ed ∙ ap₂ (λ pins k. flat (universal_rows selection n pins k)) fed at.lower_from in
          last_put put D ∙ ap₂ ◌++◌ (ap₂ ◌++◌ upper middle) lower ∙ flat-parts n P₀ next ∙ ap (λ m. flat (universal_rows selection m P₀ next)) (sym at.level)
