-- What counting the uses of wires in an array leaves there. Wire w stands at place w - 1; numbers go round at 65,536.
use Rattle.std.specs.Prelude.{◌≡◌, ℕ, suc, ◌+◌, ◌-◌, ◌%◌, ◌<◌, cond, List, length, slice_index, slice_set}
use Rattle.plan.specs.declared.record.Gate.{Gate}
use Rattle.plan.specs.declared.record.PlanWire.{PlanWire}
use Rattle.plan.specs.Record.{word_numbers, max_plan_wires, uses_of}
use Rattle.plan.specs.Rules.{count_allowed}

-- one use more of the wire; wire 0 and a wire that has no place are not counted
unfoldable pub with_use : ℕ → List ℕ → List ℕ
with_use w uses = cond (count_allowed max_plan_wires w) (slice_set uses (w - 1) ((slice_index uses (w - 1) + 1) % word_numbers)) uses

-- one use more of each operand
unfoldable pub with_operands : Gate → List ℕ → List ℕ
with_operands g uses = with_use g.second.0 (with_use g.first.0 uses)

-- the array has the uses of every wire by k gates and v outputs
pub record UsesCounted (k v : ℕ) (gs : List Gate) (os : List PlanWire) (uses : List ℕ) : Type 0 where
  pub all : length uses ≡ max_plan_wires
  pub each : (i : ℕ) → i < max_plan_wires → slice_index uses i ≡ uses_of k v gs os (suc i)
