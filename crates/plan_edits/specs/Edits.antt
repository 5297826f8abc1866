-- Document 02, W7: "Add three edits: replace a gate, append a gate at the end, replace an output." Gates and outputs count from 1 where an edit names them.
use Rattle.std.specs.Prelude.{ℕ, zero, suc, ◌-◌, set}
use Rattle.std.proofs.lemmas.List.Edits.{sets}
use Rattle.lists.specs.Lists.{list_of}
use Rattle.powers.specs.Powers.{ceil_power}
use Rattle.fault.specs.declared.Fault.{Fault}
use Rattle.fault.specs.Checks.{unless, and_then}
use Rattle.plan.specs.declared.record.Gate.{Gate}
use Rattle.plan.specs.declared.record.Plan.{Plan}
use Rattle.plan.specs.declared.record.PlanWire.{PlanWire}
use Rattle.plan.specs.Record.{max_gates, gate_wire, counted_uses, wire_count}
use Rattle.plan.specs.Rules.{count_allowed}
use Rattle.plan.specs.Faults.{gate_fault, output_fault, plan_fault}

-- ---- the checks: plan faults, 18, then for what the edit brings 3, 7, 8 and 9

-- 18: of `count` gates or outputs there is none of this number
unfoldable pub place_fault : ℕ → ℕ → ℕ
place_fault count number = unless (count_allowed count number) Fault.Place

unfoldable pub replace_gate_fault : Plan → ℕ → Gate → ℕ
replace_gate_fault p number g =
    and_then (plan_fault p) (and_then (place_fault p.gate_count number) (gate_fault (gate_wire p.inputs (number - 1)) g))

-- 3: a 257th gate
unfoldable pub append_gate_fault : Plan → Gate → ℕ
append_gate_fault p g =
    and_then (plan_fault p)
    (and_then (unless (count_allowed max_gates (suc p.gate_count)) Fault.Gates) (gate_fault (gate_wire p.inputs p.gate_count) g))

unfoldable pub replace_output_fault : Plan → ℕ → PlanWire → ℕ
replace_output_fault p number o =
    and_then (plan_fault p) (and_then (place_fault p.output_count number) (output_fault p.inputs p.gate_count o.0))

-- ---- the plans

-- the plan with its figures settled: K, and the counted uses of its wires; what stands past them stays
abbrev pub settled : Plan → Plan
settled p = record {
  inputs = p.inputs;
  gate_count = p.gate_count;
  output_count = p.output_count;
  gates = p.gates;
  outputs = p.outputs;
  gate_places = ceil_power p.gate_count;
  uses = sets p.uses 0 (list_of (wire_count p) (counted_uses p));
}

-- with k gates, of which the one at place i is g
abbrev pub with_gate_at : ℕ → ℕ → Gate → Plan → Plan
with_gate_at k i g p = record {
  inputs = p.inputs;
  gate_count = k;
  output_count = p.output_count;
  gates = set p.gates i g;
  outputs = p.outputs;
  gate_places = p.gate_places;
  uses = p.uses;
}

-- with the output o at place j
abbrev pub with_output_at : ℕ → PlanWire → Plan → Plan
with_output_at j o p = record {
  inputs = p.inputs;
  gate_count = p.gate_count;
  output_count = p.output_count;
  gates = p.gates;
  outputs = set p.outputs j o;
  gate_places = p.gate_places;
  uses = p.uses;
}

-- ---- what the edits say

-- the refusal's number with the plan as it went in, or 0 with the plan that was made
pub record EditOutcome : Type 0 where
  pub number : ℕ
  pub plan : Plan

-- of an edit whose checks gave the number
abbrev pub edit_outcome : ℕ → Plan → Plan → EditOutcome
edit_outcome zero made p = record { number = 0; plan = made }
edit_outcome (suc n) made p = record { number = suc n; plan = p }

unfoldable pub gate_replaced : Plan → ℕ → Gate → EditOutcome
gate_replaced p number g = edit_outcome (replace_gate_fault p number g) (settled (with_gate_at p.gate_count (number - 1) g p)) p

unfoldable pub gate_appended : Plan → Gate → EditOutcome
gate_appended p g = edit_outcome (append_gate_fault p g) (settled (with_gate_at (suc p.gate_count) p.gate_count g p)) p

unfoldable pub output_replaced : Plan → ℕ → PlanWire → EditOutcome
output_replaced p number o = edit_outcome (replace_output_fault p number o) (settled (with_output_at (number - 1) o p)) p
