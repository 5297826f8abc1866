-- Unused places never matter: plans that agree on the counts and the used places have the same files; and an accepted plan agrees with itself with its unused
-- places zero.
use Prim.Native.Nat.{ℕ, suc, ◌<◌}
use native.Mathlib.Omega.{arith}
use mathlib.Core.Path.{◌≡◌, refl, sym, ap, ap₂, ◌∙◌}
use Rattle.lists.specs.Lists.{list_of}
use Rattle.lists.proofs.ListsLaws.{get_or-list_of}
use Rattle.plan.specs.declared.record.Plan.{Plan}
use Rattle.plan.specs.Record.{max_gates, max_outputs, max_plan_wires, wire, zero_gate, gate_at, output_at, uses_of, Agree}
use Rattle.plan.specs.Faults.{Accepted}
use Rattle.plan.proofs.RecordLaws.{get_or-places}
use Rattle.plan.proofs.UsesLaws.{uses-same}
use Rattle.plan.proofs.FaultsLaws.{accepted-counts, accepted-tallied}
use Rattle.plan_files.specs.Encoding.{word, encode_gate, encode, used}
use Rattle.plan_files.proofs.ListLaws.{joined_same}

pub used_agrees : (p : Plan) → Accepted p → Agree (used p) p
used_agrees p ok =
    let k = p.gate_count in
    let v = p.output_count in
    let c = accepted-counts p ok in
    let t = accepted-tallied p ok in
    record {
      inputs = refl;
      gates = refl;
      outputs = refl;
      gate = λ i l. get_or-places max_gates zero_gate (list_of k (gate_at p)) i ∙ get_or-list_of k (gate_at p) i zero_gate l;
      output = λ j l. get_or-places max_outputs (wire 0) (list_of v (output_at p)) j ∙ get_or-list_of v (output_at p) j (wire 0) l;
      places = sym t.places;
      uses = λ i l.
          get_or-list_of max_plan_wires (λ i. uses_of k v (list_of k (gate_at p)) (list_of v (output_at p)) (suc i)) i 0 (omega (arith, c.inputs, c.gates))
          ∙ uses-same k v _ p.gates _ p.outputs (suc i) (λ j m. get_or-list_of k (gate_at p) j zero_gate m) (λ j m. get_or-list_of v (output_at p) j (wire 0) m)
          ∙ sym (t.uses i l);
    }

-- with equal map bytes for the gates
pub encode_same : (maps others : ℕ → ℕ) (p q : Plan) → Agree p q → ((i : ℕ) → i < p.gate_count → maps i ≡ others i) → encode maps p ≡ encode others q
unfolding encode
encode_same maps others p q same chosen =
    let gates = joined_same (λ i. encode_gate (maps i) (gate_at p i)) (λ i. encode_gate (others i) (gate_at q i)) p.gate_count
    (λ i l. ap₂ encode_gate (chosen i l) (same.gate i l)) in
    let outputs = joined_same (λ j. word (output_at p j).0) (λ j. word (output_at q j).0) p.output_count (λ j l. ap (λ w. word w.0) (same.output j l)) in
    rw (gates, outputs, same.inputs, same.gates, same.outputs)
