-- Unused places never matter: plans that agree on the counts, the used places and the figures of their wires have the same faults.
use Rattle.std.proofs.Common.{◌≡◌, ℕ, suc, ◌+◌, ◌<◌, eqb, ◌∙◌, ap₂}
use Rattle.fault.specs.declared.Fault.{Fault}
use Rattle.fault.specs.Checks.{unless, and_then, first_of}
use Rattle.powers.specs.Powers.{ceil_power}
use Rattle.plan.specs.declared.record.Plan.{Plan}
pub use Rattle.plan.specs.Record.{Agree}
use Rattle.plan.specs.Record.{gate_at, output_at, gate_wire, counted_uses, stored_uses, wire_count}
use Rattle.plan.specs.Faults.{gate_fault, gates_fault, outputs_fault, figures_fault, tally_fault, plan_fault}
use Rattle.plan.proofs.UsesLaws.{uses-same}
use Rattle.plan.proofs.FaultsLaws.{first_of-same}

-- 17, of one wire
abbrev tally : Plan → ℕ → ℕ
tally p i = unless (eqb (stored_uses p i) (counted_uses p i)) Fault.Tally

-- plans of equal gates and outputs have equal counted uses of any wire
pub counted_alike : (p q : Plan) → p.gate_count ≡ q.gate_count → p.output_count ≡ q.output_count
    → ((i : ℕ) → i < p.gate_count → gate_at p i ≡ gate_at q i) → ((j : ℕ) → j < p.output_count → output_at p j ≡ output_at q j)
    → (i : ℕ) → counted_uses p i ≡ counted_uses q i
counted_alike p q ek ev gate output i =
    uses-same p.gate_count p.output_count p.gates q.gates p.outputs q.outputs (suc i) gate output ∙ rw (ek, ev)

module _ (p q : Plan) (same : Agree p q) where
  -- the counted uses of any wire
  pub same-uses : (i : ℕ) → counted_uses p i ≡ counted_uses q i
  same-uses = counted_alike p q same.gates same.outputs same.gate same.output

  -- 17
  same-tally : tally_fault p ≡ tally_fault q
  unfolding figures_fault
  same-tally =
      let K : unless (eqb p.gate_places (ceil_power p.gate_count)) Fault.Tally
      ≡ unless (eqb q.gate_places (ceil_power q.gate_count)) Fault.Tally = rw (same.places, same.gates) in
      let each : first_of (tally p) (wire_count p) ≡ first_of (tally q) (wire_count p) =
      first_of-same (tally p) (tally q) (wire_count p) (λ i l. ap₂ (λ a b. unless (eqb a b) Fault.Tally) (same.uses i l) (same-uses i)) in
      ap₂ and_then K (each ∙ ap₂ (λ u k. first_of (tally q) (u + k)) same.inputs same.gates)

  -- the first plan fault
  pub same-fault : plan_fault p ≡ plan_fault q
  unfolding plan_fault
  same-fault =
      let gates : gates_fault p p.gate_count ≡ gates_fault q p.gate_count =
      first_of-same _ _ p.gate_count (λ i l. ap₂ (λ u g. gate_fault (gate_wire u i) g) same.inputs (same.gate i l)) in
      let outputs : outputs_fault p p.output_count ≡ outputs_fault q p.output_count =
      first_of-same _ _ p.output_count (λ j l. cc (same.output j l)) in
      let tally = same-tally in
      cc
