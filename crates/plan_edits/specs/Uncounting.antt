-- What the code leaves in the array of uses where an operand or an output goes: wire w stands at place w - 1.
use Rattle.std.specs.Prelude.{ℕ, ◌-◌, List, get_or, set}
use Rattle.plan.specs.declared.record.Gate.{Gate}

-- one use less of the wire
unfoldable pub without_use : ℕ → List ℕ → List ℕ
without_use w uses = set uses (w - 1) (get_or uses (w - 1) 0 - 1)

-- one use less of each operand
unfoldable pub without_operands : Gate → List ℕ → List ℕ
without_operands g uses = without_use g.second.0 (without_use g.first.0 uses)
