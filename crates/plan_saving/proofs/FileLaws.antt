-- The file that saving writes, part by part: the counts, the gates one by one, the outputs, and how long each is.
use Prim.Native.Nat.{ℕ, ◌+◌, ◌*◌, ◌%◌, ◌≤◌, ◌<◌}
use native.Mathlib.Omega.{arith}
use mathlib.Core.Path.{◌≡◌, refl, sym, ap, ap₂, ◌∙◌}
use mathlib.Core.List.{List, ◌++◌}
use lib.ListN.{length, get_or, take, length-append}
use Rattle.std.proofs.Common.{length-take, get_or-take}
use Rattle.plan.specs.declared.record.Gate.{Gate}
use Rattle.plan.specs.declared.record.Plan.{Plan}
use Rattle.plan.specs.Record.{word_numbers, zero_gate, gate_at, output_at, gate_wire}
use Rattle.plan.specs.Faults.{Accepted}
use Rattle.plan.proofs.RecordLaws.{wire-fits}
use Rattle.plan.proofs.FaultsLaws.{accepted-counts}
use Rattle.plan_reading.specs.PlanFile.{header_bytes}
use Rattle.plan_files.specs.Encoding.{word, joined_bytes, encode_gate, encode, output_bytes}
use Rattle.plan_files.proofs.ListLaws.{joined_length, joined_split}
use Rattle.plan_saving.specs.declared.gate.Standing.{Standing}
use Rattle.plan_saving.specs.Saving.{map_byte_of, fields_needed, shortest_map, saved_file}
use Rattle.plan_saving.specs.Parts.{saved_gates, saved_outputs}

-- items one after another: there is room for the next
pub joined-room : (f : ℕ → List ℕ) (n i : ℕ) → i < n → length (joined_bytes i f) + length (f i) ≤ length (joined_bytes n f)
joined-room f n i h =
    let (rest, same) = joined_split f n i h in
    omega (arith, ap length same ∙ length-append (joined_bytes i f) (f i ++ rest), length-append (f i) rest)

module _ (p : Plan) where
  -- the file's parts
  pub saved-parts : (word p.inputs ++ (word p.gate_count ++ word p.output_count)) ++ (saved_gates p p.gate_count ++ saved_outputs p p.output_count)
      ≡ saved_file p
  unfolding encode
  saved-parts = refl

  pub outputs-long : length (saved_outputs p p.output_count) ≡ p.output_count * output_bytes
  outputs-long = joined_length (λ j. word (output_at p j).0) output_bytes p.output_count (λ j. refl)

  pub saved-long : length (saved_file p) ≡ header_bytes + p.output_count * output_bytes + length (saved_gates p p.gate_count)
  saved-long = ap length (sym saved-parts) ∙ simp length-append (omega (arith, outputs-long))

  -- gate i among the first n, which are all, with the fields that the code decides on: the gate and the bytes of the shortest file
  pub record GateSaved (i : ℕ) (s : Standing) (g : Gate) : Type 0 where
    pub low : i < p.gate_count
    pub same : g ≡ gate_at p i
    pub bytes : encode_gate (map_byte_of s) g ≡ encode_gate (shortest_map p i) (gate_at p i)

  pub gate-saved : Accepted p → {n i w : ℕ} {s : Standing} → n ≡ p.gate_count → i < length (take n p.gates) → w ≡ gate_wire p.inputs i % word_numbers
      → s ≡ fields_needed w (get_or (take n p.gates) i zero_gate) → GateSaved i s (get_or (take n p.gates) i zero_gate)
  gate-saved ok {n} {i} {w} {s} all h own decided =
      let counts = accepted-counts p ok in
      let low : i < n = omega (arith, length-take n p.gates) in
      let same : get_or (take n p.gates) i zero_gate ≡ gate_at p i = get_or-take n p.gates i zero_gate low in
      let wide : w ≡ gate_wire p.inputs i = own ∙ wire-fits counts.inputs (omega arith) in
      record {
        low = omega arith;
        same = same;
        bytes = ap₂ (λ t g. encode_gate (map_byte_of t) g) (decided ∙ ap₂ fields_needed wide same) same;
      }
