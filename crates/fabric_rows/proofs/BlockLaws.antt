-- The rows and wires that the parts of U write, as their definitions have them.
use mathlib.Core.Path.{◌≡◌, sym, ap, ap₂, ◌∙◌}
use mathlib.Core.List.{List, [], ◌∷◌, ◌++◌, append-nil}
use Prim.Native.Nat.{ℕ, ◌+◌, ◌*◌, ◌%◌, ◌^◌, ◌≤◌}
use native.Mathlib.Omega.{arith}
use lib.ListN.{length, get_or, take, drop, length-drop, drop_of_length-le, get_or-append}
use lib.Seq.{take_at, drop_at, take_all, length-take-le, get_or-drop, get_or-append-add}
use Rattle.lists.specs.Lists.{list_of}
use Rattle.lists.proofs.ListsLaws.{length-list_of, list_of_ext}
use Rattle.fault.specs.Buffers.{over, part_of, with_part}
use Rattle.elements.specs.declared.Kind.{Kind}
use Rattle.elements.specs.Elements.{max_wires}
use Rattle.elements.specs.declared.Counts.{Counts}
use Rattle.blocks.specs.Elements.{Y, Gate, stride, entries, flat, row_of, wires_put, pair_rows, rows_put}
use Rattle.blocks.proofs.ElementsLaws.{flat_append, length-flat, wires-put, wire_after, length-pair_rows, length-flat-pairs, rows-put}
use Rattle.blocks.specs.Networks.{selection_rows, selection_outs, selection_count, selection_wires}
use Rattle.blocks.proofs.NetworksLaws.{length-selection_rows, selection-totals, length-selection_outs}
use Rattle.blocks.specs.Calls.{selection_write_fault, SelectionWritePasses, selection_written_rows, selection_written_outputs}
use Rattle.blocks.proofs.CallsLaws.{selection_write_succeeds}
use Rattle.fabric_universal.specs.Selector.{pin_count, selection}
use Rattle.fabric_universal.specs.Universal.{mix_rows, wires_from, universal_count, universal_wires, universal_outs, universal_rows}
use Rattle.fabric_universal.specs.Fabric.{gate_level}
use Rattle.fabric_sizes.specs.Parts.{SelectionIs, UniversalIs}
use Rattle.fabric_sizes.proofs.PartsLaws.{one-gate, Halved}
use Rattle.fabric_rows.specs.declared.block.UniversalParts.{UniversalParts}
use Rattle.fabric_rows.specs.Block.{middle_rows, middle_pins, MiddleRoom, UniversalWires, UniversalPartsAt}
use Rattle.fabric_rows.proofs.StretchesLaws.{front_put, rest_lent, last_put}

-- a buffer that is filled to its end
pub over-filled : {A : Type 0} (new old : List A) → length new ≡ length old → over new old ≡ new
over-filled new old e = rw (drop_of_length-le old {i = length new} (omega arith)) (append-nil new)

-- ---- the parts of U

module _ {gates half next : ℕ} {upper select : Counts} (w : UniversalWires gates next) (h : Halved gates half)
    (u : UniversalIs (gate_level half) upper) (s : SelectionIs half (pin_count (gate_level half)) select) where
  abbrev n : ℕ
  n = gate_level half

  pins_are_lem : pin_count n ≡ gates
  pins_are_lem = omega (arith, h.power, h.twice)

  count-is : select.rows ≡ (selection n).count
  count-is = s.is_rows ∙ ap (λ m. selection_count m (pin_count n)) h.power

  made-is : select.wires ≡ (selection n).wires
  made-is = s.is_wires ∙ ap (λ m. selection_wires m (pin_count n)) h.power

  step_count : universal_count selection (gate_level gates)
      ≡ universal_count selection n + ((selection n).count + (pin_count n + universal_count selection n))
  unfolding universal_count
  step_count = rw h.level

  step-wires : universal_wires selection (gate_level gates)
      ≡ universal_wires selection n + ((selection n).wires + (pin_count n + universal_wires selection n))
  unfolding universal_wires
  step-wires = rw h.level

  -- the wires of the upper half, of the selection block and of the Y rows, and then the lower half's
  wires-fit : next + (upper.wires + select.wires + gates) + universal_wires selection n ≤ max_wires
  wires-fit = omega (arith, w.wires, step-wires, made-is, u.is_wires, pins_are_lem)

  -- a wire that the code counts from `next` on, in 32 bits
  pub part-wire : (k x : ℕ) → k ≤ upper.wires + select.wires + gates → x ≡ (next + k) % 2 ^ 32 → x ≡ next + k
  part-wire k x l e = e ∙ wire_after next k (omega (arith, wires-fit))

-- what the code computes from the counts of the upper half and of the selection block
pub record UniversalPlaced (gates next : ℕ) (upper select : Counts) (p : UniversalParts) : Type 0 where
  pub pins_are : p.pins ≡ gates
  pub upper_at : p.upper ≡ stride * upper.rows
  pub select_at : p.select ≡ stride * select.rows
  pub middle_at : p.middle ≡ stride * (select.rows + gates)
  pub select_from : p.select_next.0 ≡ next + upper.wires
  pub mix_from : p.mix_next.0 ≡ next + (upper.wires + select.wires)
  pub lower_from : p.lower_next.0 ≡ next + (upper.wires + select.wires + gates)

pub parts_at : {gates next : ℕ} {upper select : Counts} {p : UniversalParts} → UniversalWires gates next → Halved gates p.half
    → UniversalIs (gate_level p.half) upper → SelectionIs p.half (pin_count (gate_level p.half)) select
    → UniversalPlaced gates next upper select p → UniversalPartsAt gates next p
parts_at w h u s at =
    let pins = pins_are_lem w h u s in
    let count = count-is w h u s in
    let made = made-is w h u s in
    record {
      half_is = h.power;
      pins_are = omega (arith, at.pins_are, h.twice);
      double = omega (arith, at.pins_are);
      level = h.level;
      some = h.some;
      few = omega (arith, at.pins_are, w.few);
      upper_at = omega (arith, at.upper_at, u.is_rows);
      select_at = omega (arith, at.select_at);
      middle_at = omega (arith, at.middle_at, at.select_at, at.pins_are);
      whole = omega (arith, at.upper_at, at.middle_at, u.is_rows, step_count w h u s);
      select_from = omega (arith, at.select_from, u.is_wires);
      mix_from = omega (arith, at.mix_from, u.is_wires);
      lower_from = omega (arith, at.lower_from, u.is_wires);
      made = omega (arith, at.lower_from, wires-fit w h u s);
    }

-- ---- U(1): P, R and O are its pins, the table's part and the places of its output wires

pub gate-rows : (next : ℕ) {gates : ℕ} (P R : List ℕ) {F : List ℕ} → gates ≡ 1 → length R ≡ stride * universal_count selection (gate_level gates)
    → F ≡ rows_put (Gate (get_or P 0 0 ∷ get_or P 1 0 ∷ []) ∷ []) R → F ≡ flat (universal_rows selection (gate_level gates) P next)
unfolding universal_rows universal_count flat entries
gate-rows next {gates} P R one room put =
    let z : gate_level gates ≡ 0 = one-gate (omega arith) in
    let row = Gate (get_or P 0 0 ∷ get_or P 1 0 ∷ []) in
    let three : length R ≡ stride = rw z at room in
    rw z (put ∙ rows-put (row ∷ []) R (omega arith) ∙ over-filled (flat (row ∷ [])) R (sym three))

pub gate-outs : (next : ℕ) {gates : ℕ} (O : List ℕ) {F : List ℕ} → gates ≡ 1 → length O ≡ gates → next + universal_wires selection (gate_level gates) ≤ max_wires
    → F ≡ wires_put 1 next 1 O → F ≡ universal_outs selection (gate_level gates) next
unfolding universal_outs universal_wires list_of
gate-outs next {gates} O one room few put =
    let z : gate_level gates ≡ 0 = one-gate (omega arith) in
    let last : next + 1 ≤ max_wires = rw z at few in
    let same : next + 1 * 0 ≡ next = omega arith in
    rw z (put ∙ wires-put 1 next 1 O (record { room = omega arith; each = λ i l. omega arith }) ∙ over-filled ((next + 1 * 0) ∷ []) O (omega arith) ∙ ap (λ w. w ∷ []) same)

-- ---- the selection block: its checks pass

pub selection-done : (m n : ℕ) (ins : List ℕ) (next rows outputs : ℕ) → SelectionWritePasses m n ins next rows outputs
    → selection_write_fault m n ins next rows outputs ≡ 0
selection-done m n ins next rows outputs w =
    selection_write_succeeds m n ins next rows outputs w.sizes w.inputs w.made w.wires w.row_room w.output_room

pub selection-put : (m n : ℕ) (ins : List ℕ) (next : ℕ) (R₀ T₀ R T : List ℕ) → SelectionWritePasses m n ins next (length R₀) (length T₀)
    → (R ≡ selection_written_rows m n ins next R₀ T₀) × (T ≡ selection_written_outputs m n ins next R₀ T₀)
    → (R ≡ over (flat (selection_rows m n ins next)) R₀) × (T ≡ over (selection_outs m n ins next) T₀)
selection-put m n ins next R₀ T₀ R T w e = rw (selection-done m n ins next (length R₀) (length T₀) w) at e

pub length-selection : (m n : ℕ) (ins : List ℕ) (next : ℕ) → length (flat (selection_rows m n ins next)) ≡ stride * selection_count m n
length-selection m n ins next = length-flat (selection-totals m n ins next).family ∙ ap (λ k. stride * k) (length-selection_rows m n ins next)

-- ---- the Y rows

mix_pairs : (count : ℕ) (pins selected : List ℕ) → pair_rows Kind.Y count (drop count pins) selected 1 ≡ mix_rows count pins selected
unfolding pair_rows mix_rows row_of
mix_pairs count pins selected =
    list_of_ext count _ _ (λ j l.
    let e : 1 * j ≡ j = omega arith in
    ap (λ i. Y (get_or (drop count pins) i 0) (get_or selected i 0)) e ∙ ap (λ w. Y w (get_or selected j 0)) (get_or-drop count pins j 0))

length_mix : (count : ℕ) (pins selected : List ℕ) → length (flat (mix_rows count pins selected)) ≡ stride * count
length_mix count pins selected =
    ap (λ r. length (flat r)) (sym (mix_pairs count pins selected)) ∙ length-flat-pairs Kind.Y count (drop count pins) selected 1

-- P are the pins, with what was selected in front; R is the table's part, which they fill
mix_put : (count : ℕ) (P R : List ℕ) → length R ≡ stride * count → rows_put (pair_rows Kind.Y count (drop count P) P 1) R ≡ flat (mix_rows count P P)
mix_put count P R room =
    rows-put (pair_rows Kind.Y count (drop count P) P 1) R (rw (length-pair_rows Kind.Y count (drop count P) P 1) (omega arith))
    ∙ ap (λ r. over (flat r) R) (mix_pairs count P P)
    ∙ over-filled (flat (mix_rows count P P)) R (length_mix count P P ∙ sym room)

-- ---- between the halves: L is the table's part, O the upper half's output wires, P₀ the pins; R and P are L's first stretch and the pins once the
-- selection block is written

module _ (p : UniversalParts) (O L P₀ : List ℕ) {R P : List ℕ} (room : MiddleRoom p O (length L) (length P₀))
    (written : (R ≡ selection_written_rows p.half p.pins (take p.half O) p.select_next.0 (take p.select L) P₀)
    × (P ≡ selection_written_outputs p.half p.pins (take p.half O) p.select_next.0 (take p.select L) P₀)) where
  abbrev next : ℕ
  next = p.select_next.0

  abbrev selected : List ℕ
  selected = selection_outs p.half p.pins O next

  fits : p.select ≤ length L
  fits = omega (arith, room.row_room)

  first : length (take p.select L) ≡ p.select
  first = length-take-le p.select L fits

  done : (R ≡ flat (selection_rows p.half p.pins O next)) × (P ≡ over selected P₀)
  done =
      let R₀ : List ℕ = take p.select L in
      let ins : take p.half O ≡ O = take_all p.half O (omega (arith, room.out_room)) in
      let passes : SelectionWritePasses p.half p.pins O next (length R₀) (length P₀) = rw first room.select in
      let put = selection-put p.half p.pins O next R₀ P₀ R P passes (rw ins at written) in
      let size = length-selection p.half p.pins O next ∙ sym room.select_at ∙ sym first in
      (put.0 ∙ over-filled (flat (selection_rows p.half p.pins O next)) R₀ size, put.1)

  length-selected : length selected ≡ p.pins
  length-selected = length-selection_outs p.half p.pins O next

  -- the Y rows take what was selected from the front of the pins, and the lower half's pins as they were
  mixed : mix_rows p.pins P P ≡ mix_rows p.pins P₀ selected
  unfolding mix_rows
  mixed =
      list_of_ext p.pins _ _ (λ j l.
      ap₂ Y
      (ap₂ (λ s c. get_or s (c + j) 0) done.1 (sym length-selected)
      ∙ get_or-append-add selected (drop (length selected) P₀) j 0
      ∙ get_or-drop (length selected) P₀ j 0
      ∙ ap (λ c. get_or P₀ (c + j) 0) length-selected)
      (ap (λ s. get_or s j 0) done.1 ∙ get_or-append selected (drop (length selected) P₀) 0 j (rw length-selected l)))

  pub middle-written : {F : List ℕ} → length R ≡ length (take p.select L)
      → F ≡ rows_put (pair_rows Kind.Y p.pins (drop p.pins P) P 1) (part_of p.select (R ++ drop p.select L))
      → with_part p.select (R ++ drop p.select L) F ≡ flat (middle_rows p O P₀)
  unfolding middle_rows
  middle-written {F} size put =
      let w = front_put R L p.select fits size in
      let F₀ : List ℕ = part_of p.select (R ++ drop p.select L) in
      let rest : length F₀ ≡ stride * p.pins = ap length (rest_lent w) ∙ length-drop p.select L ∙ omega (arith, room.row_room) in
      let mixes = put ∙ mix_put p.pins P F₀ rest ∙ ap flat mixed in
      last_put w F ∙ ap₂ ◌++◌ done.0 mixes ∙ sym (flat_append (selection_rows p.half p.pins O next) (mix_rows p.pins P₀ selected))

  -- the Y rows' output wires stand behind what was selected
  pub middle-fed : {Q : List ℕ} → Q ≡ take p.pins P ++ wires_put p.pins p.mix_next.0 1 (drop p.pins P) → Q ≡ middle_pins p O
  unfolding middle_pins wires_from
  middle-fed e =
      let m = p.pins in
      let W = wires_from m p.mix_next.0 in
      let wires = room.wires in
      let rest : length (drop m P₀) ≡ m = length-drop m P₀ ∙ omega (arith, room.pin_room) in
      let put : wires_put m p.mix_next.0 1 (drop m P₀) ≡ W =
      wires-put m p.mix_next.0 1 (drop m P₀) (record { room = omega arith; each = λ i l. omega arith })
      ∙ ap (λ l. over l (drop m P₀)) (list_of_ext m _ _ (λ i l. omega arith))
      ∙ over-filled W (drop m P₀) (length-list_of m (λ j. p.mix_next.0 + j) ∙ sym rest) in
      let fed : P ≡ selected ++ drop m P₀ = done.1 ∙ ap (λ k. selected ++ drop k P₀) length-selected in
      rw fed at e
      ∙ ap₂ (λ a b. a ++ wires_put m p.mix_next.0 1 b) (take_at selected (drop m P₀) m length-selected) (drop_at selected (drop m P₀) m length-selected)
      ∙ ap (λ (l : List ℕ). selected ++ l) put
