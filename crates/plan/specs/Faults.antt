-- Document 01, "Plan faults, for a plan handed over in memory: 2, 3, 4, per gate 7 for both operands and 8, then 9", and document 02, W7: "17, tally, last
-- among the plan faults, if a stored figure isn't the counted one". Unused places are not looked at.
use Rattle.std.specs.Prelude.{◌≡◌, ℕ, ◌+◌, ◌<◌, ◌≤◌, List, ◌==◌, slice_index}
use Rattle.powers.specs.Powers.{ceil_power}
use Rattle.fault.specs.declared.Fault.{Fault}
use Rattle.fault.specs.Checks.{unless, and_then, first_of}
use Rattle.plan.specs.declared.record.Gate.{Gate}
use Rattle.plan.specs.declared.record.Plan.{Plan}
use Rattle.plan.specs.Record.{max_inputs, max_gates, max_outputs, gate_at, output_at, gate_wire, counted_uses, stored_uses, wire_count}
use Rattle.plan.specs.Rules.{count_allowed, operand_allowed, max_table, table_allowed, source_allowed}

-- 2, 3, 4
unfoldable pub counts_fault : ℕ → ℕ → ℕ → ℕ
counts_fault u k v =
    and_then (unless (count_allowed max_inputs u) Fault.Inputs)
    (and_then (unless (count_allowed max_gates k) Fault.Gates) (unless (count_allowed max_outputs v) Fault.Outputs))

-- 7 for both operands, and 8, of the gate whose own wire is `own`
unfoldable pub gate_fault : ℕ → Gate → ℕ
gate_fault own g =
    and_then (unless (operand_allowed own g.first.0) Fault.Operand)
    (and_then (unless (operand_allowed own g.second.0) Fault.Operand) (unless (table_allowed g.table) Fault.Table))

-- 9, of an output wire
unfoldable pub output_fault : ℕ → ℕ → ℕ → ℕ
output_fault u k w = unless (source_allowed u k w) Fault.Source

-- the first fault of the first n gates
abbrev pub gates_fault : Plan → ℕ → ℕ
gates_fault p n = first_of (λ i. gate_fault (gate_wire p.inputs i) (gate_at p i)) n

-- the first fault of the first n outputs
abbrev pub outputs_fault : Plan → ℕ → ℕ
outputs_fault p n = first_of (λ j. output_fault p.inputs p.gate_count (output_at p j).0) n

-- 17, of the K and the uses that are stored for u inputs and k gates, where these uses are counted
unfoldable pub figures_fault : ℕ → ℕ → ℕ → List ℕ → (ℕ → ℕ) → ℕ
figures_fault u k stored uses counted =
    and_then (unless (stored == ceil_power k) Fault.Tally) (first_of (λ i. unless (slice_index uses i == counted i) Fault.Tally) (u + k))

-- 17, of a plan: K, and each of its wires
abbrev pub tally_fault : Plan → ℕ
tally_fault p = figures_fault p.inputs p.gate_count p.gate_places p.uses (counted_uses p)

-- the first plan fault
unfoldable pub plan_fault : Plan → ℕ
plan_fault p =
    and_then (counts_fault p.inputs p.gate_count p.output_count)
    (and_then (gates_fault p p.gate_count) (and_then (outputs_fault p p.output_count) (tally_fault p)))

-- "a plan is accepted exactly if it has no plan fault"
abbrev pub Accepted : Plan → Type 0
Accepted p = plan_fault p ≡ 0

-- counts within their limits
pub record CountsWithin (u k v : ℕ) : Type 0 where
  pub some_inputs : 1 ≤ u
  pub inputs : u ≤ max_inputs
  pub some_gates : 1 ≤ k
  pub gates : k ≤ max_gates
  pub some_outputs : 1 ≤ v
  pub outputs : v ≤ max_outputs

-- the bounds of a gate whose operands are below `bound`: its own wire; in a drawing the wire after the last
pub record GateWithin (bound : ℕ) (g : Gate) : Type 0 where
  pub some_first : 1 ≤ g.first.0
  pub first : g.first.0 < bound
  pub some_second : 1 ≤ g.second.0
  pub second : g.second.0 < bound
  pub table : g.table ≤ max_table

-- the bounds of an output wire w, in a plan with u inputs and k gates
pub record OutputWithin (u k w : ℕ) : Type 0 where
  pub above : u < w
  pub up_to : w ≤ u + k

-- the bounds of a plan: those of its counts, its gates and its outputs
pub record PlanWithin (p : Plan) : Type 0 where
  pub counts : CountsWithin p.inputs p.gate_count p.output_count
  pub gate : (i : ℕ) → i < p.gate_count → GateWithin (gate_wire p.inputs i) (gate_at p i)
  pub output : (j : ℕ) → j < p.output_count → OutputWithin p.inputs p.gate_count (output_at p j).0

-- its stored figures are the counted ones: K, and the uses of each of its wires. A plan is accepted exactly if it is within its bounds and tallied
pub record Tallied (p : Plan) : Type 0 where
  pub places : p.gate_places ≡ ceil_power p.gate_count
  pub uses : (i : ℕ) → i < wire_count p → stored_uses p i ≡ counted_uses p i
