-- Writing the fabric's table: the header, the rows of S(u, 2K), of U(K), of S(K, v), and the output wires follow each other, and what each part
-- gives feeds the next.
use mathlib.Core.Path.{◌≡◌, sym, ap, ◌∙◌}
use mathlib.Core.List.{List, [], ◌∷◌, ◌++◌, append_assoc}
use Prim.Native.Nat.{ℕ, suc, ◌+◌, ◌-◌, ◌*◌, ◌^◌, ◌≤◌}
use native.Mathlib.Numerals.{add-one}
use native.Mathlib.Omega.{arith}
use lib.ListN.{length, take, drop, length-append, length-drop}
use lib.Seq.{take_at, drop_at, take_all, drop-drop}
use Rattle.lists.specs.Lists.{list_of}
use Rattle.lists.proofs.ListsLaws.{list_of_ext}
use Rattle.fault.specs.Buffers.{over, part_of, with_part}
use Rattle.fault.proofs.PartsLaws.{length_over, over-part}
use Rattle.elements.specs.declared.Counts.{Counts}
use Rattle.blocks.specs.Elements.{stride, flat, wires_put}
use Rattle.blocks.proofs.ElementsLaws.{flat_append, wires-put}
use Rattle.blocks.specs.Networks.{selection_rows, selection_outs}
use Rattle.blocks.proofs.NetworksLaws.{length-selection_outs}
use Rattle.blocks.specs.Calls.{selection_written_rows, selection_written_outputs, SelectionWritePasses}
use Rattle.plan.specs.Record.{max_inputs, max_outputs}
use Rattle.plan.specs.Faults.{CountsWithin}
use Rattle.fabric_universal.specs.Selector.{pin_count, selection}
use Rattle.fabric_universal.specs.Universal.{universal_wires, universal_outs, universal_rows}
use Rattle.fabric_universal.proofs.UniversalLaws.{length-universal_outs}
use Rattle.fabric_universal.specs.Fabric.{gate_level, input_wires, fabric_pins, universal_next, fabric_output_next, gate_outs, fabric_rows, fabric_outs}
use Rattle.fabric_universal.specs.Fabric.{fabric_count, fabric_wires, fabric_table}
use Rattle.fabric_universal.proofs.FabricLaws.{length-input_wires, inputs-below, gates-below, fabric_within}
use Rattle.fabric_sizes.specs.Layout.{header}
use Rattle.fabric_sizes.specs.Counting.{table_length}
use Rattle.fabric_sizes.specs.Parts.{PlacesAre, SelectionIs, UniversalIs}
use Rattle.fabric_sizes.proofs.PartsLaws.{few-places, same-level}
use Rattle.fabric_parts.specs.Copied.{copied_at, outputs_put}
use Rattle.fabric_rows.specs.declared.writing.Layout.{Layout}
use Rattle.fabric_rows.specs.Writing.{LayoutIs, PinRoom}
use Rattle.fabric_rows.specs.Block.{UniversalWriteRoom}
use Rattle.fabric_rows.proofs.StretchesLaws.{stretch_of, with_stretch, WrittenTo, front_put, rest_lent, length_lent, stretch_put}
use Rattle.fabric_rows.proofs.BlockLaws.{selection-done, selection-put, length-selection, over-filled}

-- ---- the layout

-- what the code computes from the parts' counts
pub record LaidOut (u : ℕ) (pins universal outputs : Counts) (l : Layout) : Type 0 where
  pub is_rows : l.rows ≡ pins.rows + universal.rows + outputs.rows
  pub pins_are : l.pins ≡ stride * pins.rows
  pub universal_is : l.universal ≡ stride * universal.rows
  pub outputs_are : l.outputs ≡ stride * outputs.rows
  pub universal_from : l.universal_next.0 ≡ 1 + u + pins.wires
  pub output_from : l.output_next.0 ≡ 1 + u + pins.wires + universal.wires

pub layout_is : {u k v : ℕ} {pins universal outputs : Counts} {l : Layout} → CountsWithin u k v
    → SelectionIs u (pin_count (gate_level k)) pins → UniversalIs (gate_level k) universal → SelectionIs (2 ^ gate_level k) v outputs
    → PlacesAre k l.gates → LaidOut u pins universal outputs l → LayoutIs u k v l
unfolding fabric_count fabric_wires
layout_is {u} {k} {v} {l} within p g o places at =
    let few = fabric_within u k v within in
    let pin_rows = p.is_rows in
    let pinWires = p.is_wires in
    let gate_rows = g.is_rows in
    let gateWires = g.is_wires in
    let outRows = o.is_rows in
    let is_rows : l.rows ≡ fabric_count u k v = omega (arith, at.is_rows) in
    record {
      is_rows = is_rows;
      few_rows = omega (arith, few.rows);
      are_gates = places.is_places;
      some_gates = places.some;
      few_gates = rw places.is_places (few-places k within.gates);
      pins_are = omega (arith, at.pins_are);
      universal_is = omega (arith, at.universal_is);
      outputs_are = omega (arith, at.outputs_are);
      whole = omega (arith, at.pins_are, at.universal_is, at.outputs_are);
      universal_from = omega (arith, at.universal_from);
      output_from = omega (arith, at.output_from);
      wires = omega (arith, few.wires);
    }

-- ---- the pins: the wires 1 to u stand in the front of the list A

module _ {u gates : ℕ} {A : List ℕ} (I R₀ P₀ : List ℕ) (room : PinRoom u gates (length R₀) (length P₀)) (long : length I ≡ max_inputs)
    (put : A ≡ wires_put u 1 1 I) where
  inputs-put : take u A ≡ input_wires u
  unfolding input_wires
  inputs-put =
      let few = room.inputs in
      let same : list_of u (λ i. 1 + 1 * i) ≡ input_wires u = list_of_ext u _ _ (λ i l. omega arith) in
      let e = put ∙ wires-put u 1 1 I (record { room = omega arith; each = λ i l. omega arith }) ∙ ap (λ l. over l I) same in
      rw e (take_at (input_wires u) (drop (length (input_wires u)) I) u (length-input_wires u))

  passes : SelectionWritePasses u (2 * gates) (input_wires u) (suc u) (length R₀) (length P₀)
  passes = record {
    sizes = record {
      some_inputs = room.some_inputs;
      inputs = omega (arith, room.inputs);
      some_outputs = omega (arith, room.some_gates);
      outputs = omega (arith, room.few_gates);
    };
    inputs = length-input_wires u;
    made = inputs-below u;
    wires = λ _. room.wires;
    row_room = omega (arith, room.row_room);
    output_room = omega (arith, room.pin_room);
  }

  pub pins-put : {R P : List ℕ}
      → (R ≡ selection_written_rows u (2 * gates) (take u A) (u + 1) R₀ P₀) × (P ≡ selection_written_outputs u (2 * gates) (take u A) (u + 1) R₀ P₀)
      → (R ≡ flat (selection_rows u (2 * gates) (input_wires u) (suc u))) × (P ≡ selection_outs u (2 * gates) (input_wires u) (suc u))
  pins-put {R} {P} w =
      let ins = input_wires u in
      let put-on = selection-put u (2 * gates) ins (suc u) R₀ P₀ R P passes (rw (inputs-put, add-one u) at w) in (
        put-on.0
            ∙ over-filled (flat (selection_rows u (2 * gates) ins (suc u))) R₀ (length-selection u (2 * gates) ins (suc u) ∙ sym room.row_room),
        put-on.1 ∙ over-filled (selection_outs u (2 * gates) ins (suc u)) P₀ (length-selection_outs u (2 * gates) ins (suc u) ∙ sym room.pin_room),
      )

-- ---- the table: T is what is lent

-- what is written behind what was written
over-behind : (a b L : List ℕ) (n : ℕ) → length a ≡ n → take n (over a L) ++ over b (drop n (over a L)) ≡ over (a ++ b) L
over-behind a b L n e =
    rw (take_at a (drop (length a) L) n e, drop_at a (drop (length a) L) n e, drop-drop (length b) (length a) L, length-append a b, append_assoc)

module _ {u k v : ℕ} {l : Layout} (at : LayoutIs u k v l) (T : List ℕ) (enough : table_length u k v ≤ length T) where
  fits : header + l.pins + l.universal + (l.outputs + v) ≤ length T
  fits = omega (arith, at.whole, enough)

  -- the header H and the rows S of S(u, 2K) are written, which gives P
  module _ (H S : List ℕ) (lh : length H ≡ length (take header T)) (ls : length S ≡ length (stretch_of header (header + l.pins) (H ++ drop header T))) where
    abbrev P : List ℕ
    P = with_stretch header (header + l.pins) (H ++ drop header T) S

    pins-in : WrittenTo (header + l.pins) (H ++ S) T P
    pins-in = stretch_put (front_put H T header (omega (arith, fits)) lh) S (header + l.pins) (omega arith) (omega (arith, fits)) ls

    pub universal-room : {pins outs : ℕ} → pins ≡ 2 * l.gates → outs ≡ l.gates
        → UniversalWriteRoom l.universal_next.0 (length (stretch_of (header + l.pins) (header + l.pins + l.universal) P)) pins outs
    universal-room ep eo =
        let level : gate_level l.gates ≡ gate_level k = ap gate_level at.are_gates ∙ same-level k in
        let lent = length_lent pins-in (header + l.pins + l.universal) (omega arith) (omega (arith, fits)) in
        rw eo (record {
          power = at.are_gates ∙ ap (λ m. 2 ^ m) (sym level);
          few = at.few_gates;
          wires = omega (arith, at.universal_from, ap (universal_wires selection) level, at.wires);
          row_room = rw level (lent ∙ omega (arith, at.universal_is));
          pin_room = ep;
        })

    -- the rows G of U(K) are written too
    pub gates-in : (G : List ℕ) → length G ≡ length (stretch_of (header + l.pins) (header + l.pins + l.universal) P)
        → WrittenTo (header + l.pins + l.universal) ((H ++ S) ++ G) T (with_stretch (header + l.pins) (header + l.pins + l.universal) P G)
    gates-in G lg = stretch_put pins-in G (header + l.pins + l.universal) (omega arith) (omega (arith, fits)) lg

module _ {u k v : ℕ} {l : Layout} (within : CountsWithin u k v) (at : LayoutIs u k v l) where
  abbrev n : ℕ
  n = gate_level k

  abbrev A : List ℕ
  A = flat (selection_rows u (pin_count n) (input_wires u) (suc u))

  abbrev B : List ℕ
  B = flat (universal_rows selection n (fabric_pins u k) (universal_next u k))

  abbrev C : List ℕ
  C = flat (selection_rows (2 ^ n) v (gate_outs u k) (fabric_output_next u k)) ++ fabric_outs u k v

  length-C : length C ≡ l.outputs + v
  unfolding fabric_outs
  length-C =
      length-append (flat (selection_rows (2 ^ n) v (gate_outs u k) (fabric_output_next u k))) (fabric_outs u k v)
      ∙ omega (
        arith,
        length-selection (2 ^ n) v (gate_outs u k) (fabric_output_next u k),
        length-selection_outs (2 ^ n) v (gate_outs u k) (fabric_output_next u k),
        at.outputs_are,
      )

  -- R is the part of the table from the rows of S(K, v) on
  module _ (R : List ℕ) (long : l.outputs + v ≤ length R) where
    -- S(K, v) has nothing to refuse
    output-passes : SelectionWritePasses (2 ^ n) v (gate_outs u k) (fabric_output_next u k) (length R) max_outputs
    output-passes = record {
      sizes = record {
        some_inputs = omega (arith, at.some_gates, at.are_gates);
        inputs = omega (arith, at.few_gates, at.are_gates);
        some_outputs = within.some_outputs;
        outputs = omega (arith, within.outputs);
      };
      inputs = length-universal_outs selection n (universal_next u k);
      made = gates-below u k v;
      wires = λ _. at.wires;
      row_room = omega (arith, long, at.outputs_are);
      output_room = within.outputs;
    }

    -- what it leaves of its part of the table, from the gates' wires O
    output-rows : {O F : List ℕ} → O ≡ gate_outs u k → F ≡ outputs_put l.gates v l.outputs l.output_next.0 O R → F ≡ over C R
    unfolding fabric_outs copied_at
    output-rows {O} {F} eo e =
        let ins : List ℕ = gate_outs u k in
        let next = fabric_output_next u k in
        let all : take (2 ^ n) ins ≡ ins = take_all (2 ^ n) ins (omega (arith, length-universal_outs selection n (universal_next u k))) in
        let S = flat (selection_rows (2 ^ n) v ins next) in
        let W = selection_outs (2 ^ n) v ins next in
        let a : length S ≡ l.outputs = length-selection (2 ^ n) v ins next ∙ sym at.outputs_are in
        let o : length W ≡ v = length-selection_outs (2 ^ n) v ins next in
        let behind : length (drop l.outputs (over S R)) ≡ length R - l.outputs =
        length-drop l.outputs (over S R) ∙ ap (λ m. m - l.outputs) (length_over S R (omega (arith, a, long))) in
        rw (eo, at.are_gates, at.output_from, all, selection-done (2 ^ n) v ins next (length R) max_outputs output-passes) at e
        ∙ ap (λ w. take l.outputs (over S R) ++ over w (drop l.outputs (over S R))) (take_all (length (drop l.outputs (over S R))) W (omega (arith, behind, o, long)))
        ∙ over-behind S W R l.outputs a

  -- the header and the parts, one behind the other
  table-parts : (((u ∷ v ∷ l.rows ∷ []) ++ A) ++ B) ++ C ≡ fabric_table u k v
  unfolding fabric_table fabric_rows
  table-parts =
      ap (λ m. u ∷ v ∷ m ∷ ((A ++ B) ++ C)) at.is_rows
      ∙ ap (λ (t : List ℕ). u ∷ v ∷ fabric_count u k v ∷ t) (simp (flat_append, append_assoc))

  -- P is the table with the parts in front of these written
  pub table-written : {T H S G P Q O F : List ℕ} {outs : ℕ} → table_length u k v ≤ length T → WrittenTo (header + l.pins + l.universal) ((H ++ S) ++ G) T P
      → H ≡ u ∷ v ∷ l.rows ∷ [] → S ≡ flat (selection_rows u (2 * l.gates) (input_wires u) (suc u))
      → Q ≡ selection_outs u (2 * l.gates) (input_wires u) (suc u) → outs ≡ l.gates
      → G ≡ flat (universal_rows selection (gate_level outs) Q l.universal_next.0) → O ≡ universal_outs selection (gate_level outs) l.universal_next.0
      → F ≡ outputs_put l.gates v l.outputs l.output_next.0 O (part_of (header + l.pins + l.universal) P)
      → with_part (header + l.pins + l.universal) P F ≡ over (fabric_table u k v) T
  table-written {T} {H} {S} {G} {P} {F = F} {outs = outs} enough w eh es ep eu eg eo ef =
      let p : ℕ = header + l.pins + l.universal in
      let end = fits at T enough in
      let pins : 2 * l.gates ≡ pin_count n = ap (λ m. 2 * m) at.are_gates in
      let level : gate_level outs ≡ n = ap gate_level (eu ∙ at.are_gates) ∙ same-level k in
      let first : S ≡ A = rw pins at es in
      let second : G ≡ B = rw (level, at.universal_from, rw pins at ep) at eg in
      let third = output-rows (part_of p P) (omega (arith, ap length (rest_lent w), length-drop p T)) (rw (level, at.universal_from) at eo) ef in
      let all : ((H ++ S) ++ G) ++ C ≡ fabric_table u k v = rw (eh, first, second) table-parts in
      over-part ((H ++ S) ++ G) T P p w.size w.room w.is C F (omega (arith, length-C)) third ∙ ap (λ t. over t T) all
