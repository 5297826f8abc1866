-- A file of an accepted plan is of bytes: its counts and wires are two-byte numbers, its map bytes and tables below 256.
use Prim.Native.Nat.{ℕ, zero, suc, ◌<◌, ◌≤◌}
use native.Mathlib.Omega.{arith}
use mathlib.Core.Path.{◌≡◌}
use mathlib.Core.Bool.{Bool, true, false}
use mathlib.Core.List.{List, [], ◌∷◌, ◌++◌}
use lib.Dec.{lit≤}
use Rattle.plan.specs.declared.record.Gate.{Gate}
use Rattle.plan.specs.Record.{word_numbers, max_inputs, max_gates, max_outputs, gate_at, output_at, gate_wire}
use Rattle.plan.specs.Rules.{operand_allowed, max_table}
use Rattle.plan.proofs.RulesLaws.{count_bounds, map-bound, operand_bounds, table-bound, source_bounds}
use Rattle.plan.proofs.FaultsLaws.{AllowedGate, accepted-allowed}
use Rattle.plan_fields.specs.Fields.{first_place, second_place, table_place, map_bit}
use Rattle.plan_files.specs.Encoding.{byte, word, where_standing, table_byte, encode_gate, joined_bytes, encode, LeavesOutDefaults, OfBytes, FilesOfBytes}

-- numbers written in one and two bytes
byte-bytes : (n : ℕ) → n < 256 → OfBytes (byte n)
byte-bytes n h zero = h
byte-bytes n h (suc i) = lit≤ tt

word_bytes : (n : ℕ) → n < word_numbers → OfBytes (word n)
word_bytes n h zero = omega arith
word_bytes n h (suc zero) = omega arith
word_bytes n h (suc (suc i)) = lit≤ tt

-- bytes put together
standing-bytes : (stands : Bool) (e : List ℕ) → OfBytes e → OfBytes (where_standing stands e)
standing-bytes true e h = h
standing-bytes false e h = λ i. lit≤ tt

append-bytes : (e f : List ℕ) → OfBytes e → OfBytes f → OfBytes (e ++ f)
append-bytes [] f he hf i = hf i
append-bytes (x ∷ e) f he hf zero = he 0
append-bytes (x ∷ e) f he hf (suc i) = append-bytes e f (λ j. he (suc j)) hf i

joined_bytes_lem : (f : ℕ → List ℕ) (n : ℕ) → ((i : ℕ) → i < n → OfBytes (f i)) → OfBytes (joined_bytes n f)
unfolding joined_bytes
joined_bytes_lem f zero h = λ i. lit≤ tt
joined_bytes_lem f (suc n) h = append-bytes (joined_bytes n f) (f n) (joined_bytes_lem f n (λ i l. h i (omega arith))) (h n (omega arith))

-- an operand of the gate whose own wire is `own`
operand-bytes : (stands : Bool) (own w : ℕ) → own < word_numbers → operand_allowed own w ≡ true → OfBytes (where_standing stands (word w))
operand-bytes stands own w h allowed = standing-bytes stands (word w) (word_bytes w (omega (arith, ((operand_bounds own w).0 allowed).1)))

-- a table's byte
table-bytes : (stands second : Bool) (t : ℕ) → t ≤ max_table → OfBytes (where_standing stands (byte (table_byte second t)))
table-bytes stands true t h = standing-bytes stands (byte t) (byte-bytes t (omega arith))
table-bytes stands false t h = standing-bytes stands (byte (table_byte false t)) (byte-bytes (table_byte false t) (omega arith))

-- a gate
gate-bytes : (own m : ℕ) (g : Gate) → own < word_numbers → AllowedGate own g → LeavesOutDefaults own m g → OfBytes (encode_gate m g)
gate-bytes own m g h ok left =
    let first = where_standing (map_bit m first_place) (word g.first.0) in
    let second = where_standing (map_bit m second_place) (word g.second.0) in
    let table = where_standing (map_bit m table_place) (byte (table_byte (map_bit m second_place) g.table)) in
    append-bytes (byte m) (first ++ (second ++ table)) (byte-bytes m (omega (arith, (map-bound m).0 left.is_map)))
    (append-bytes first (second ++ table) (operand-bytes (map_bit m first_place) own g.first.0 h ok.first)
    (append-bytes second table (operand-bytes (map_bit m second_place) own g.second.0 h ok.second)
    (table-bytes (map_bit m table_place) (map_bit m second_place) g.table ((table-bound g.table).0 ok.table))))

-- the whole file
pub encode-bytes : FilesOfBytes
unfolding encode
encode-bytes maps p ok choice =
    let allowed = (accepted-allowed p).0 ok in
    let u = p.inputs in
    let k = p.gate_count in
    let v = p.output_count in
    let inputs = (count_bounds max_inputs u).0 allowed.inputs in
    let gates = (count_bounds max_gates k).0 allowed.gates in
    let outputs = (count_bounds max_outputs v).0 allowed.outputs in
    let gs = joined_bytes k (λ i. encode_gate (maps i) (gate_at p i)) in
    let os = joined_bytes v (λ j. word (output_at p j).0) in
    append-bytes (word u) (word k ++ (word v ++ (gs ++ os))) (word_bytes u (omega arith))
    (append-bytes (word k) (word v ++ (gs ++ os)) (word_bytes k (omega arith))
    (append-bytes (word v) (gs ++ os) (word_bytes v (omega arith))
    (append-bytes gs os
    (joined_bytes_lem _ k (λ i l. gate-bytes (gate_wire u i) (maps i) (gate_at p i) (omega arith) (allowed.gate i l) (choice i l)))
    (joined_bytes_lem _ v (λ j l. word_bytes (output_at p j).0 (omega (arith, ((source_bounds u k (output_at p j).0).0 (allowed.output j l)).1)))))))
