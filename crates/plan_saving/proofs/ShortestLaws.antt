-- The shortest file of a plan. Saving's choice leaves out defaults alone, so its file is one of the plan's. Of a field that it writes no choice leaves out
-- the bytes, so gate by gate no file of the plan is shorter.
use Prim.Native.Nat.{ℕ, ◌-◌, ◌≤◌, ◌<◌}
use native.Mathlib.Omega.{arith}
use mathlib.Core.Path.{◌≡◌, refl, sym, ap, ap₂, ◌∙◌}
use mathlib.Core.Logic.{◌↔◌}
use mathlib.Core.Bool.{Bool, true, false, not, true≢false}
use mathlib.Core.List.{List}
use borrow.Author.Tests.{not-false, ne_eqb}
use lib.ListN.{length, length-append}
use Rattle.fault.proofs.ChecksLaws.{eqb_iff}
use Rattle.plan.specs.declared.record.Gate.{Gate}
use Rattle.plan.specs.declared.record.Plan.{Plan}
use Rattle.plan.specs.Record.{max_gates, gate_at, gate_wire, Agree}
use Rattle.plan.specs.Rules.{max_map}
use Rattle.plan.proofs.RulesLaws.{both_bounds}
use Rattle.plan_fields.specs.Fields.{first_place, second_place, table_place, absent_table, map_bit}
use Rattle.plan_files.specs.Encoding.{byte, word, where_standing, middle_lines, table_byte, encode_gate, encode, LeavesOutDefaults, Choice, longest_file}
use Rattle.plan_files.proofs.ListLaws.{joined_shorter}
use Rattle.plan_files.proofs.EncodingLaws.{xor_gate, largest, largest-gate, full-length}
use Rattle.plan_files.proofs.UsedLaws.{encode_same}
use Rattle.plan_saving.specs.Saving.{map_byte_of, fields_needed, shortest_map, saved_file}
use Rattle.plan_saving.specs.SavingTheorems.{LeftOut}
use Rattle.plan_saving.proofs.GateLaws.{map-bits}

-- a map bit that is the negation of a test is clear exactly if the test holds
left_by : {b t : Bool} {P : Type 0} → b ≡ not t → (t ≡ true) ↔ P → (b ≡ false) ↔ P
left_by {b} {t} e p = (λ h. p.0 (not-false t (sym e ∙ h)), λ q. e ∙ ap not (p.1 q))

-- each field is left out exactly under its condition
pub left_out : (own : ℕ) (g : Gate) → LeftOut own (map_byte_of (fields_needed own g)) g
unfolding fields_needed
left_out own g =
    let bits = map-bits (fields_needed own g) in
    record {
      first = left_by bits.first (eqb_iff g.first.0 (own - 1));
      second = left_by bits.second (both_bounds (eqb_iff g.second.0 g.first.0) (eqb_iff (middle_lines g.table) 0));
      table = left_by bits.table (eqb_iff g.table absent_table);
    }

-- so saving's choice is one of the plan's
pub shortest-choice : (p : Plan) → Choice (shortest_map p) p
shortest-choice p i l =
    let own = gate_wire p.inputs i in
    let left = left_out own (gate_at p i) in
    record {
      is_map = (map-bits (fields_needed own (gate_at p i))).is_map;
      first = left.first.0;
      second = λ h. (left.second.0 h).0;
      lines = λ h. (left.second.0 h).1;
      table = left.table.0;
    }

-- a field that is left out wherever another is has no more bytes
fewer : (a b : Bool) (e f : List ℕ) → length e ≡ length f → (b ≡ false → a ≡ false) → length (where_standing a e) ≤ length (where_standing b f)
fewer false b e f same left = omega arith
fewer true true e f same left = omega arith
fewer true false e f same left = absurd (true≢false (left refl))

-- no map byte that leaves out defaults alone makes a gate shorter
gate-shortest : (own m : ℕ) (g : Gate) → LeavesOutDefaults own m g → length (encode_gate (map_byte_of (fields_needed own g)) g) ≤ length (encode_gate m g)
gate-shortest own m g other =
    let s = map_byte_of (fields_needed own g) in
    let left = left_out own g in
    let first = fewer (map_bit s first_place) (map_bit m first_place) (word g.first.0) (word g.first.0) refl (λ h. left.first.1 (other.first h)) in
    let second = fewer (map_bit s second_place) (map_bit m second_place) (word g.second.0) (word g.second.0) refl
    (λ h. left.second.1 (other.second h, other.lines h)) in
    let table = fewer (map_bit s table_place) (map_bit m table_place) (byte (table_byte (map_bit s second_place) g.table))
    (byte (table_byte (map_bit m second_place) g.table)) refl (λ h. left.table.1 (other.table h)) in
    simp length-append (omega arith)

-- no file of the plan is shorter
pub file-shortest : (maps : ℕ → ℕ) (p : Plan) → Choice maps p → length (saved_file p) ≤ length (encode maps p)
unfolding encode
file-shortest maps p choice =
    let g = gate_at p in
    let own = gate_wire p.inputs in
    let gates = joined_shorter (λ i. encode_gate (shortest_map p i) (g i)) (λ i. encode_gate (maps i) (g i)) p.gate_count
    (λ i l. gate-shortest (own i) (maps i) (g i) (choice i l)) in
    simp length-append (omega arith)

-- unused places never matter
pub same-file : (p q : Plan) → Agree p q → saved_file p ≡ saved_file q
same-file p q same =
    encode_same (shortest_map p) (shortest_map q) p q same
    (λ i l. ap₂ (λ u g. map_byte_of (fields_needed (gate_wire u i) g)) same.inputs (same.gate i l))

-- of the largest plan every field stands, so its file is as long as one can be
every-field : (i : ℕ) → i < max_gates → shortest_map largest i ≡ max_map
unfolding largest fields_needed map_byte_of xor_gate
every-field i l = rw (largest-gate i l, ne_eqb 1 (gate_wire 2 i - 1) (λ e. omega arith))

pub largest-saved : length (saved_file largest) ≡ longest_file
unfolding largest
largest-saved =
    let itself : Agree largest largest = record { inputs = refl; gates = refl; outputs = refl; gate = λ i l. refl; output = λ j l. refl; places = refl; uses = λ i l. refl } in
    ap length (encode_same (shortest_map largest) (λ _. max_map) largest largest itself every-field) ∙ full-length largest
