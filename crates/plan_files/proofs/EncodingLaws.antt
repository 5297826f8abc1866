-- Forward: where a plan's file stands, each field is read as it was written. Backward: each field that is read stands in the file, so the
-- file is one of the plan's: `reads-exactly`. The file in which every field stands is a plan's longest: `longest-plan`.
use Prim.Native.Nat.{ℕ, ◌+◌, ◌-◌, ◌*◌, ◌/◌, ◌%◌, ◌≤◌, ◌<◌}
use native.Mathlib.Omega.{arith}
use mathlib.Core.Path.{◌≡◌, refl, ap, ap₂}
use mathlib.Core.Bool.{Bool, true, false, true≢false}
use mathlib.Core.List.{List, []}
use lib.Dec.{leb, ltb, lit≤}
use lib.ListN.{length, get_or, replicate, length-append, get_or-replicate}
use borrow.Author.Tests.{ltb-false, lt-ltb, le-ltb, le-leb, leb-true}
use Rattle.fault.specs.declared.Fault.{Fault}
use Rattle.plan.specs.declared.record.Gate.{Gate}
use Rattle.plan.specs.declared.record.Plan.{Plan}
use Rattle.plan.specs.declared.record.PlanWire.{PlanWire}
use Rattle.plan.specs.Record.{max_inputs, max_gates, max_outputs, wire, zero_gate, plan_of, gate_at, output_at, gate_wire}
use Rattle.plan.proofs.RecordLaws.{get_or-places}
use Rattle.plan.specs.Rules.{count_allowed, max_map, map_allowed, operand_allowed, max_table, table_allowed, source_allowed}
use Rattle.plan.specs.Faults.{Accepted}
use Rattle.plan.proofs.RulesLaws.{count_bounds, table-bound, default_allowed}
use Rattle.plan.proofs.FaultsLaws.{AllowedGate, AllowedPlan, counts_in, accepted-allowed, tallied_of}
use Rattle.plan_fields.specs.Parsing.{Parsed, got, pure, standing}
use Rattle.plan_fields.proofs.ParsingLaws.{gives, refuses, gives_then}
use Rattle.plan_fields.specs.Fields.{first_place, second_place, table_place, absent_table, table_limit, table_of_byte, table_field, map_bit, gate_fields, gate_step_within}
use Rattle.plan_fields.proofs.FieldsLaws.{byte-table-bound}
use Rattle.plan_reading.specs.PlanFile.{output_step, header_bytes, not_stub, at_end, whole_file, plan_file, parsed_outcome, plan_read}
use Rattle.plan_drawn.proofs.WholeFileLaws.{table_on, second_on, end_on, wires_on, body_on, sources_on, gates_on, inputs_on}
use Rattle.plan_files.specs.Encoding.{byte, word, where_standing, table_byte, TwoLines, encode_gate, joined_bytes, encode, LeavesOutDefaults, Choice, used, OfBytes, Encoded}
use Rattle.plan_files.specs.Encoding.{ReadsExactly, gate_bytes, output_bytes, longest_file, LongestPlan}
use Rattle.plan_files.proofs.BytesLaws.{encode-bytes}
use Rattle.plan_files.proofs.ListLaws.{joined_length, joined_shorter, used-places}
use Rattle.plan_files.proofs.ReadingLaws.{BytesStand, stands-append, stands_split, nothing-stands, whole-stands, stands-to_end, stands-length}
use Rattle.plan_files.proofs.ReadingLaws.{byte_coded, word_coded, field-reads, standing-reads, in_order-reads}
use Rattle.plan_files.proofs.ReadingLaws.{GivesParsed, by_test, field-gives, standing-gives, Items, in_order-gives}

-- two bits in a table byte, and at the outer places of a table
byte-bits : (x y : ℕ) → x ≤ 1 → y ≤ 1 → ((x + 2 * y) % 2 ≡ x) × ((x + 2 * y) / 2 % 2 ≡ y)
byte-bits x y hx hy = (omega arith, omega arith)

pub outer_bits : (x y : ℕ) → x ≤ 1 → y ≤ 1 → ((x + 8 * y) % 2 ≡ x) × ((x + 8 * y) / 8 % 2 ≡ y) × TwoLines (x + 8 * y)
outer_bits x y hx hy = (omega arith, omega arith, omega arith)

-- the byte of a table is within its limit, and stands for this table
table-byte : (second : Bool) (t : ℕ) → t ≤ max_table → (second ≡ false → TwoLines t)
    → (table_byte second t ≤ table_limit second) × (table_of_byte second (table_byte second t) ≡ t)
table-byte true t h two = (h, refl)
table-byte false t h two =
    let clear = two refl in
    let eighth : t / 8 ≡ t / 2 / 4 = omega arith in
    let half : t / 2 ≡ 4 * (t / 8) = omega arith in
    let bit : t / 8 % 2 ≡ t / 8 = omega arith in
    let (low, high) = byte-bits (t % 2) (t / 8 % 2) (omega arith) (omega arith) in
    (omega arith, rw (low, high) (omega arith))

-- a byte within its limit is that of its table
byte-table : (second : Bool) (b : ℕ) → b ≤ table_limit second
    → (table_byte second (table_of_byte second b) ≡ b) × (second ≡ false → TwoLines (table_of_byte second b))
byte-table true b h = (refl, λ e. absurd (true≢false e))
byte-table false b h =
    let (low, high, two) = outer_bits (b % 2) (b / 2 % 2) (omega arith) (omega arith) in
    (rw (low, high) (omega arith), λ _. two)

-- a table is read where its byte stands, or is left out and is the absent one
table-reads : (s : List ℕ) (stands second : Bool) (at next t : ℕ) → BytesStand s at (where_standing stands (byte (table_byte second t))) next
    → t ≤ max_table → (stands ≡ false → t ≡ absent_table) → (second ≡ false → TwoLines t)
    → standing stands (table_field second) absent_table s at ≡ got t next
table-reads s true second at next t x h e two =
    let (limit, same) = table-byte second t h two in
    rw (field-reads byte_coded s (λ b. leb b (table_limit second)) Fault.Table at next (table_byte second t) x (le-leb _ _ limit), same)
table-reads s false second at next t x h e two = let same : next ≡ at = omega (arith, x.ends) in cc (e refl)

-- a gate is read where its bytes stand
pub gate-reads : (s : List ℕ) (bound own m : ℕ) (g : Gate) (at next : ℕ) → AllowedGate bound g → LeavesOutDefaults own m g
    → BytesStand s at (encode_gate m g) next → gate_step_within bound own s at ≡ got g next
unfolding gate_step_within
gate-reads s bound own m g at next ok left x =
    let (a, map, rest) = stands_split (byte m) _ x in
    let (b, first, rest) = stands_split (where_standing (map_bit m first_place) (word g.first.0)) _ rest in
    let (c, second, table) = stands_split (where_standing (map_bit m second_place) (word g.second.0)) _ rest in
    let operand = standing-reads word_coded s (operand_allowed bound) Fault.Operand in
    rw (
      field-reads byte_coded s map_allowed Fault.Map at a m map left.is_map,
      operand (map_bit m first_place) (own - 1) a b g.first.0 first ok.first left.first,
      operand (map_bit m second_place) g.first.0 b c g.second.0 second ok.second left.second,
      table-reads s (map_bit m table_place) (map_bit m second_place) c next g.table table ((table-bound g.table).0 ok.table) left.table left.lines,
    )

-- a plan is read where its file stands, from 0 to the end
file-reads : (s : List ℕ) (maps : ℕ → ℕ) (p : Plan) → AllowedPlan p → Choice maps p → BytesStand s 0 (encode maps p) (length s)
    → plan_file s 0 ≡ got (used p) (length s)
unfolding whole_file not_stub at_end encode
file-reads s maps p ok choice x =
    let u = p.inputs in
    let k = p.gate_count in
    let v = p.output_count in
    let (a, inputs, rest) = stands_split (word u) _ x in
    let (b, gates, rest) = stands_split (word k) _ rest in
    let (c, outputs, rest) = stands_split (word v) _ rest in
    let (d, each-gate, each-output) = stands_split (joined_bytes k (λ i. encode_gate (maps i) (gate_at p i))) _ rest in
    rw (
      le-ltb (length s) header_bytes (omega (arith, stands-length x)),
      field-reads word_coded s (count_allowed max_inputs) Fault.Inputs 0 a u inputs ok.inputs,
      field-reads word_coded s (count_allowed max_gates) Fault.Gates a b k gates ok.gates,
      field-reads word_coded s (count_allowed max_outputs) Fault.Outputs b c v outputs ok.outputs,
      in_order-reads s (λ i. gate_step_within (gate_wire u i) (gate_wire u i)) (gate_at p) (λ i. encode_gate (maps i) (gate_at p i)) k
          (λ i at next l. gate-reads s (gate_wire u i) (gate_wire u i) (maps i) (gate_at p i) at next (ok.gate i l) (choice i l)) c d each-gate,
      in_order-reads s (λ _. output_step u k) (output_at p) (λ j. word (output_at p j).0) v
          (λ j at next l y. rw (field-reads word_coded s (source_allowed u k) Fault.Source at next (output_at p j).0 y (ok.output j l)))
          d (length s) each-output,
      le-ltb (length s) (length s) (omega arith),
    )

-- every file of an accepted plan is read, and gives the plan with its unused places zero
pub read-encoded : (maps : ℕ → ℕ) (p : Plan) → Accepted p → Choice maps p
    → plan_read (encode maps p) ≡ record { number = 0; at = 0; plan = used p }
unfolding plan_read
read-encoded maps p ok choice = rw (file-reads (encode maps p) maps p ((accepted-allowed p).0 ok) choice whole-stands)

-- what holds of gate i and its map byte, and of an output, in a plan with u inputs and k gates
GateOf : ℕ → ℕ → ℕ → Gate → Type 0
GateOf u i m g = LeavesOutDefaults (gate_wire u i) m g × AllowedGate (gate_wire u i) g

OutputOf : ℕ → ℕ → ℕ → ℕ → PlanWire → Type 0
OutputOf u k j _ w = source_allowed u k w.0 ≡ true

-- the parts of a file that were read make it a file of the plan
encoded : (s : List ℕ) (u k v : ℕ) (gs : List Gate) (os : List PlanWire) (a b c d e : ℕ)
    → (count_allowed max_inputs u ≡ true) × BytesStand s 0 (word u) a
    → (count_allowed max_gates k ≡ true) × BytesStand s a (word k) b
    → (count_allowed max_outputs v ≡ true) × BytesStand s b (word v) c
    → Items (GateOf u) encode_gate zero_gate s c k gs d
    → Items (OutputOf u k) (λ _ w. word w.0) (wire 0) s d v os e
    → length s ≤ e → Encoded s (plan_of u k v gs os)
unfolding GateOf OutputOf encode
encoded s u k v gs os a b c d e inputs gates outputs each-gate each-output end = record {
  accepted = (accepted-allowed (plan_of u k v gs os)).1 (record {
    inputs = inputs.0;
    gates = gates.0;
    outputs = outputs.0;
    gate = λ i l. rw get_or-places (each-gate.each i l).1;
    output = λ j l. rw get_or-places (each-output.each j l);
    tallied = let c = counts_in u k v inputs.0 gates.0 outputs.0 in tallied_of u k v gs os (omega (arith, c.inputs, c.gates));
  });
  zeroed = ap₂ (plan_of u k v) (used-places max_gates zero_gate gs k each-gate.count) (used-places max_outputs (wire 0) os v each-output.count);
  maps = λ i. get_or each-gate.choices i 0;
  choice = λ i l. rw get_or-places (each-gate.each i l).0;
  file =
      let items = stands-append each-gate.stands each-output.stands in
      simp get_or-places (stands-to_end (stands-append inputs.1 (stands-append gates.1 (stands-append outputs.1 items))) end);
}

-- what each step gives: a table
table-gives : (s : List ℕ) (stands second : Bool) (at : ℕ) → OfBytes s
    → GivesParsed (λ t next. (stands ≡ false → t ≡ absent_table) × (table_allowed t ≡ true) × (second ≡ false → TwoLines t)
    × BytesStand s at (where_standing stands (byte (table_byte second t))) next) (standing stands (table_field second) absent_table s at)
table-gives s true second at small =
    gives_then (λ b. pure (table_of_byte second b)) s (field-gives byte_coded s (λ b. leb b (table_limit second)) Fault.Table at small) λ b next x.
    let limit = leb-true b (table_limit second) x.0 in
    let (same, two) = byte-table second b limit in
    gives (λ e. absurd (true≢false e), (table-bound _).1 (byte-table-bound second b limit), two, rw same x.1)
table-gives s false second at small = gives (λ _. refl, (table-bound absent_table).1 (lit≤ tt), λ _. refl, nothing-stands)

-- a gate, if its default operand is allowed
gate-gives : (s : List ℕ) (own at : ℕ) → OfBytes s → 2 ≤ own
    → GivesParsed (λ g next. (m : ℕ) × (LeavesOutDefaults own m g × AllowedGate own g) × BytesStand s at (encode_gate m g) next) (gate_step_within own own s at)
unfolding gate_step_within
gate-gives s own at small h =
    let operand = standing-gives word_coded s (operand_allowed own) Fault.Operand in
    gives_then (gate_fields own own) s (field-gives byte_coded s map_allowed Fault.Map at small) λ m a map.
    gives_then (second_on own m) s (operand (map_bit m first_place) (own - 1) a small (default_allowed own h)) λ x b first.
    gives_then (table_on m x) s (operand (map_bit m second_place) x b small first.1) λ y c second.
    gives_then (λ t. pure (record { first = wire x; second = wire y; table = t })) s (table-gives s (map_bit m table_place) (map_bit m second_place) c small) λ t next table.
    gives (
      m,
      (
        record { is_map = map.0; first = first.0; second = second.0; lines = table.2; table = table.0 },
        record { first = first.1; second = second.1; table = table.1 },
      ),
      stands-append map.1 (stands-append first.2 (stands-append second.2 table.3)),
    )

-- an output
output-gives : (s : List ℕ) (u k j at : ℕ) → OfBytes s
    → GivesParsed (λ w next. (c : ℕ) × OutputOf u k j c w × BytesStand s at (word w.0) next) (output_step u k s at)
unfolding OutputOf
output-gives s u k j at small =
    gives_then (λ w. pure (wire w)) s (field-gives word_coded s (source_allowed u k) Fault.Source at small) λ w next x. gives (0, x.0, x.1)

-- the start of a file that is no stub, before any byte
start_gives : (s : List ℕ) → GivesParsed (λ _ next. BytesStand s 0 [] next) (not_stub s 0)
unfolding not_stub
start_gives s = by_test (ltb (length s) header_bytes) (λ stub. rw stub (refuses (lit≤ tt))) (λ long. rw long (gives nothing-stands))

-- the end
end_gives : (s : List ℕ) (at : ℕ) → GivesParsed (λ _ _. length s ≤ at) (at_end s at)
unfolding at_end
end_gives s at =
    by_test (ltb at (length s)) (λ tail. rw tail (refuses (lit≤ tt))) (λ none. rw none (gives (ltb-false at (length s) none)))

-- the whole file
file-gives : (s : List ℕ) → OfBytes s → GivesParsed (λ p next. Encoded s p) (plan_file s 0)
unfolding whole_file GateOf
file-gives s small =
    gives_then (λ _. inputs_on false) s (start_gives s) λ _ o start.
    gives_then (gates_on false) s (field-gives word_coded s (count_allowed max_inputs) Fault.Inputs o small) λ u a inputs.
    gives_then (sources_on false u) s (field-gives word_coded s (count_allowed max_gates) Fault.Gates a small) λ k b gates.
    gives_then (body_on false u k) s (field-gives word_coded s (count_allowed max_outputs) Fault.Outputs b small) λ v c outputs.
    let own : (i : ℕ) → 2 ≤ gate_wire u i = λ i. omega (arith, (count_bounds max_inputs u).0 inputs.0) in
    gives_then (wires_on u k v) s (in_order-gives (GateOf u) encode_gate zero_gate s (λ i. gate_step_within (gate_wire u i) (gate_wire u i)) k
    (λ i at _. gate-gives s (gate_wire u i) at small (own i)) c) λ gs d each-gate.
    gives_then (end_on u k v gs) s (in_order-gives (OutputOf u k) (λ _ w. word w.0) (wire 0) s (λ _. output_step u k) v
    (λ j at _. output-gives s u k j at small) d) λ os e each-output.
    gives_then (λ _. pure (plan_of u k v gs os)) s (end_gives s e) λ _ _ end.
    gives (encoded s u k v gs os a b c d e (inputs.0, stands-append start inputs.1) gates outputs each-gate each-output end)

-- what is read is a file of an accepted plan whose unused places are zero
pub read-is-encoded : (s : List ℕ) → OfBytes s → (plan_read s).number ≡ 0 → Encoded s (plan_read s).plan
unfolding plan_read
read-is-encoded s small = done (file-gives s small)
  where
    done : {o : Parsed Plan} → GivesParsed (λ p next. Encoded s p) o → (parsed_outcome o).number ≡ 0 → Encoded s (parsed_outcome o).plan
    done (gives x) h = x
    done (refuses l) h = absurd (omega arith)

-- both: p is read from its files and from no others
pub reads-exactly : ReadsExactly
reads-exactly s p small = (
  λ h. rw h at (read-is-encoded s small (ap (λ r. r.number) h)),
  λ x. rw (x.file, read-encoded x.maps p x.accepted x.choice, x.zeroed),
)

-- a field that is left out is shorter
standing-length : (stands : Bool) (e : List ℕ) → length (where_standing stands e) ≤ length e
standing-length true e = omega arith
standing-length false e = omega arith

-- a gate is longest where every field stands
gate-length : (m : ℕ) (g : Gate) → length (encode_gate m g) ≤ length (encode_gate max_map g)
gate-length m g =
    let first = standing-length (map_bit m first_place) (word g.first.0) in
    let second = standing-length (map_bit m second_place) (word g.second.0) in
    let table = standing-length (map_bit m table_place) (byte (table_byte (map_bit m second_place) g.table)) in
    simp length-append (omega arith)

-- the length of the file in which every field stands
pub full-length : (p : Plan) → length (encode (λ _. max_map) p) ≡ header_bytes + p.gate_count * gate_bytes + p.output_count * output_bytes
unfolding encode
full-length p =
    let gates = joined_length (λ i. encode_gate max_map (gate_at p i)) gate_bytes p.gate_count (λ i. refl) in
    let outputs = joined_length (λ j. word (output_at p j).0) output_bytes p.output_count (λ j. refl) in
    simp length-append (omega arith)

-- no file of the plan is longer
pub full-longest : (maps : ℕ → ℕ) (p : Plan) → length (encode maps p) ≤ length (encode (λ _. max_map) p)
unfolding encode
full-longest maps p =
    let g = gate_at p in
    let gates = joined_shorter (λ i. encode_gate (maps i) (g i)) (λ i. encode_gate max_map (g i)) p.gate_count (λ i _. gate-length (maps i) (g i)) in
    simp length-append (omega arith)

-- an accepted plan has no longer file
pub longest : (maps : ℕ → ℕ) (p : Plan) → Accepted p → length (encode maps p) ≤ longest_file
longest maps p ok =
    let allowed = (accepted-allowed p).0 ok in
    let gates = (count_bounds max_gates p.gate_count).0 allowed.gates in
    let outputs = (count_bounds max_outputs p.output_count).0 allowed.outputs in
    omega (arith, full-longest maps p, full-length p)

-- no longer file is read
pub longest-read : (s : List ℕ) → OfBytes s → (plan_read s).number ≡ 0 → length s ≤ longest_file
longest-read s small h =
    let x = read-is-encoded s small h in
    omega (arith, ap length x.file, longest x.maps (plan_read s).plan x.accepted)

-- every field may stand
pub full-gate : (own : ℕ) (g : Gate) → LeavesOutDefaults own max_map g
unfolding map_allowed
full-gate own g = record {
  is_map = refl;
  first = λ e. absurd (true≢false e);
  second = λ e. absurd (true≢false e);
  lines = λ e. absurd (true≢false e);
  table = λ e. absurd (true≢false e);
}

pub full-choice : (p : Plan) → Choice (λ _. max_map) p
full-choice p i l = full-gate (gate_wire p.inputs i) (gate_at p i)

-- the inputs' XOR: no field equals its default, wherever the gate stands
unfoldable pub xor_gate : Gate
xor_gate = record { first = wire 1; second = wire 2; table = 6 }

-- a plan with two inputs and as many gates and outputs as there may be: that gate 256 times, and the first of them 64 times
unfoldable pub largest : Plan
largest = plan_of 2 max_gates max_outputs (replicate max_gates xor_gate) (replicate max_outputs (wire 3))

-- each of its gates is that gate
pub largest-gate : (i : ℕ) → i < max_gates → gate_at largest i ≡ xor_gate
unfolding largest
largest-gate i l = rw (get_or-places, get_or-replicate)

-- it is accepted
pub largest-accepted : Accepted largest
unfolding largest xor_gate count_allowed operand_allowed table_allowed source_allowed
largest-accepted = (accepted-allowed largest).1 (record {
  inputs = refl;
  gates = refl;
  outputs = refl;
  gate = λ i l. rw (largest-gate i l) (record {
    first = lt-ltb 1 (gate_wire 2 i) (omega arith);
    second = lt-ltb 2 (gate_wire 2 i) (omega arith);
    table = refl;
  });
  output = λ j l. rw (get_or-places, get_or-replicate);
  tallied = tallied_of 2 max_gates max_outputs _ _ (lit≤ tt);
})

-- "Longest plan: 1,670 bytes": the bound is met by that plan's file in which every field stands
pub longest-plan : LongestPlan
unfolding largest
longest-plan = record {
  none_longer = longest-read;
  file = encode (λ _. max_map) largest;
  bytes = encode-bytes (λ _. max_map) largest largest-accepted (full-choice largest);
  read = ap (λ r. r.number) (read-encoded (λ _. max_map) largest largest-accepted (full-choice largest));
  long = full-length largest;
}
