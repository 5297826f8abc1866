-- Document 01, "The plan", and document 02, W7: the record in memory, with places for 256 gates and 64 outputs, and its figures.
use Rattle.std.specs.Prelude.{◌≡◌, ℕ, suc, ◌+◌, ◌-◌, ◌<◌, List, [], ◌++◌, length, get_or, replicate, nat_eq, slice_index, slice_index_or}
use Rattle.lists.specs.Lists.{list_of}
use Rattle.lists.specs.Counting.{count_of}
use Rattle.powers.specs.Powers.{ceil_power}
use Rattle.plan.specs.declared.record.PlanWire.{PlanWire}
use Rattle.plan.specs.declared.record.Gate.{Gate}
use Rattle.plan.specs.declared.record.Plan.{Plan}

-- how many numbers two bytes hold: a wire of a plan is one of them
abbrev pub word_numbers : ℕ
word_numbers = 65536

-- the limits, which belong to the record's type
abbrev pub max_inputs : ℕ
max_inputs = 64

abbrev pub max_gates : ℕ
max_gates = 256

abbrev pub max_outputs : ℕ
max_outputs = 64

abbrev pub max_plan_wires : ℕ
max_plan_wires = 320

-- the wire of this number
abbrev pub wire : ℕ → PlanWire
wire w = record { 0 = w }

-- a gate all of whose fields are zero
abbrev pub zero_gate : Gate
zero_gate = record { first = wire 0; second = wire 0; table = 0 }

-- n places that begin with these values, the others zero
unfoldable pub places : {A : Type 0} → ℕ → A → List A → List A
places n none xs = xs ++ replicate (n - length xs) none

-- every count, every place and every figure zero
abbrev pub zero_plan : Plan
zero_plan = record {
  inputs = 0;
  gate_count = 0;
  output_count = 0;
  gates = places max_gates zero_gate [];
  outputs = places max_outputs (wire 0) [];
  gate_places = 0;
  uses = places max_plan_wires 0 [];
}

-- what stands at a place of the gates, counted from 0: gate i is document 01's gate i + 1
abbrev pub gate_at : Plan → ℕ → Gate
gate_at p i = slice_index_or p.gates i zero_gate

-- what stands at a place of the outputs, counted from 0
abbrev pub output_at : Plan → ℕ → PlanWire
output_at p j = slice_index_or p.outputs j (wire 0)

-- the own wire of gate i, counted from 0, in a plan with u inputs
abbrev pub gate_wire : ℕ → ℕ → ℕ
gate_wire u i = u + suc i

-- ---- the figures

-- "for each wire, how many operand places and outputs name it": of the first operands of k gates, of their second operands, and of v outputs those that
-- are w. A gate with equal operands names its wire twice
unfoldable pub uses_of : ℕ → ℕ → List Gate → List PlanWire → ℕ → ℕ
uses_of k v gs os w =
    count_of (λ i. nat_eq (get_or gs i zero_gate).first.0 w) k
    + count_of (λ i. nat_eq (get_or gs i zero_gate).second.0 w) k
    + count_of (λ j. nat_eq (get_or os j (wire 0)).0 w) v

-- the uses of wire i + 1 in a plan, counted
abbrev pub counted_uses : Plan → ℕ → ℕ
counted_uses p i = uses_of p.gate_count p.output_count p.gates p.outputs (suc i)

-- those that its record holds: wire i + 1 stands at place i
abbrev pub stored_uses : Plan → ℕ → ℕ
stored_uses p i = slice_index p.uses i

-- the record of these counts, gates and outputs, its unused places zero, with K and the uses of every wire
abbrev pub plan_of : ℕ → ℕ → ℕ → List Gate → List PlanWire → Plan
plan_of u k v gs os = record {
  inputs = u;
  gate_count = k;
  output_count = v;
  gates = places max_gates zero_gate gs;
  outputs = places max_outputs (wire 0) os;
  gate_places = ceil_power k;
  uses = list_of max_plan_wires (λ i. uses_of k v gs os (suc i));
}

-- the wires of a plan: 1 to u + k
abbrev pub wire_count : Plan → ℕ
wire_count p = p.inputs + p.gate_count

-- "Reading zeroes the unused places; every other call ignores them": p and q have equal counts, equal used places and equal figures of their wires
pub record Agree (p q : Plan) : Type 0 where
  pub inputs : p.inputs ≡ q.inputs
  pub gates : p.gate_count ≡ q.gate_count
  pub outputs : p.output_count ≡ q.output_count
  pub gate : (i : ℕ) → i < p.gate_count → gate_at p i ≡ gate_at q i
  pub output : (j : ℕ) → j < p.output_count → output_at p j ≡ output_at q j
  pub places : p.gate_places ≡ q.gate_places
  pub uses : (i : ℕ) → i < wire_count p → stored_uses p i ≡ stored_uses q i
