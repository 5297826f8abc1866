-- Where the map byte of a gate stands in a file of a plan: behind the gates before it, which are read as they were written.
use Prim.Native.Nat.{ℕ, ◌+◌, ◌<◌}
use native.Mathlib.Nat.{add-zero}
use native.Mathlib.Omega.{arith}
use mathlib.Core.Path.{◌≡◌, sym, ap, subst, ◌∙◌}
use mathlib.Core.Bool.{false}
use mathlib.Core.List.{List, ◌++◌, append_assoc}
use lib.ListN.{length}
use Rattle.plan.specs.declared.record.Plan.{Plan}
use Rattle.plan.specs.Record.{gate_at, output_at, gate_wire}
use Rattle.plan.specs.Faults.{Accepted}
use Rattle.plan.proofs.FaultsLaws.{accepted-allowed}
use Rattle.plan_fields.specs.Parsing.{byte_at}
use Rattle.plan_fields.specs.Fields.{gate_step_within}
use Rattle.plan_reading.specs.PlanFile.{ReadOutcome, header_bytes, gate_steps, plan_read}
use Rattle.plan_drawn.specs.DrawnFile.{cursor_behind}
use Rattle.plan_files.specs.Encoding.{word, encode_gate, joined_bytes, encode, Choice}
use Rattle.plan_files.specs.TableLines.{gate_offset}
use Rattle.plan_files.proofs.ListLaws.{joined_split}
use Rattle.plan_files.proofs.ReadingLaws.{BytesStand, stands_split, whole-stands, stands_at, in_order-reads}
use Rattle.plan_files.proofs.EncodingLaws.{gate-reads, read-encoded}

module _ (maps : ℕ → ℕ) (p : Plan) (ok : Accepted p) (choice : Choice maps p) (i : ℕ) (low : i < p.gate_count) where
  s : List ℕ
  s = encode maps p

  gate : ℕ → List ℕ
  gate j = encode_gate (maps j) (gate_at p j)

  -- the file up to the gate, the gate, and what stands behind it
  parts : (rest : List ℕ)
      × (s ≡ (word p.inputs ++ (word p.gate_count ++ word p.output_count)) ++ (joined_bytes i gate ++ (gate i ++ rest)))
  unfolding s gate encode
  parts =
      let (behind, same) = joined_split gate p.gate_count i low in
      let outputs = joined_bytes p.output_count (λ j. word (output_at p j).0) in
      (behind ++ outputs, rw (same, append_assoc (joined_bytes i gate) (gate i ++ behind) outputs, append_assoc (gate i) behind outputs))

  -- the gates before it are read up to where its bytes stand
  before : (at next : ℕ) → BytesStand s at (joined_bytes i gate) next
      → cursor_behind (gate_steps false p.inputs p.gate_count i s at) ≡ next
  unfolding gate
  before at next stands =
      let u = p.inputs in
      let allowed = (accepted-allowed p).0 ok in
      ap cursor_behind (in_order-reads s (λ j. gate_step_within (gate_wire u j) (gate_wire u j)) (gate_at p) gate i
      (λ j a b l. gate-reads s (gate_wire u j) (gate_wire u j) (maps j) (gate_at p j) a b (allowed.gate j (omega arith)) (choice j (omega arith)))
      at next stands)

  -- the byte where the gate's map byte is found is that of the choice
  pub map-byte-stands : byte_at (encode maps p) (gate_offset false (encode maps p) i) ≡ maps i
  unfolding s gate plan_read
  map-byte-stands =
      let (rest, same) = parts in
      let header = word p.inputs ++ (word p.gate_count ++ word p.output_count) in
      let file : BytesStand s 0 (header ++ (joined_bytes i gate ++ (gate i ++ rest))) (length s) =
      subst (λ e. BytesStand s 0 e (length s)) same whole-stands in
      let (a, counts, behind) = stands_split header _ file in
      let (b, gates, here) = stands_split (joined_bytes i gate) _ behind in
      let start : header_bytes ≡ a = omega (arith, counts.ends) in
      let read = read-encoded maps p ok choice in
      let offset : gate_offset false s i ≡ b =
      ap (λ (r : ReadOutcome). cursor_behind (gate_steps false r.plan.inputs r.plan.gate_count i s header_bytes)) read
      ∙ ap (λ n. cursor_behind (gate_steps false p.inputs p.gate_count i s n)) start ∙ before a b gates in
      ap (byte_at s) (offset ∙ sym (add-zero b)) ∙ stands_at 0 here (omega arith)
