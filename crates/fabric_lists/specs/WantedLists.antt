-- What a selection block is asked for, from a list of the pins' operands or of the gates; past its end the operands are wire 0. Gates and pins count
-- from 0.
use Rattle.std.specs.Prelude.{ℕ, ◌+◌, ◌-◌, ◌*◌, Bool, cond, ◌&&◌, List, [], leb, ltb, get_or, length}
use Rattle.lists.specs.Lists.{list_of}
use Rattle.lists.specs.Counting.{one_if}
use Rattle.blocks.specs.Elements.{operands}
use Rattle.plan.specs.declared.record.Gate.{Gate}
use Rattle.fabric_universal.specs.Universal.{Gates}
use Rattle.fabric_universal.specs.Fabric.{wanted_input}
use Rattle.fabric_lists.specs.GateLists.{gates_listed}

-- the gates of which one list has the operands, pin by pin, and the other the tables; their wires follow `before` others
abbrev pub listed_gates : ℕ → List ℕ → List ℕ → Gates
listed_gates before operandList tables = record { before = before; operand = λ q. get_or operandList q 0; table = λ g. get_or tables g 0 }

-- gates of which the operands alone are listed: their tables do not matter
abbrev pub listed_operands : ℕ → List ℕ → Gates
listed_operands before operandList = listed_gates before operandList []

-- ---- what is wanted

-- of u inputs, by the first `count` pins
unfoldable pub inputs_wanted : ℕ → List ℕ → ℕ → List ℕ
inputs_wanted u operandList count = list_of count (λ q. wanted_input u (get_or operandList q 0))

-- of u inputs, which come before them, by all pins of the gates
unfoldable pub pins_wanted : ℕ → List Gate → List ℕ
pins_wanted u gates = list_of (operands * length gates) (λ q. wanted_input u ((gates_listed u gates).operand q))

-- the wire w is one of the h behind `before` others
unfoldable pub is_among : ℕ → ℕ → ℕ → Bool
is_among before h w = ltb before w && leb w (before + h)

-- the bit of a Y row: the operand of pin q is one of the h wires behind `before` others
abbrev pub choice_at : ℕ → ℕ → List ℕ → ℕ → ℕ
choice_at before h operandList q = one_if (is_among before h (get_or operandList q 0))

-- which of them, counted from 1; if it is none, the first
unfoldable pub wanted_among : ℕ → ℕ → ℕ → ℕ
wanted_among before h w = cond (is_among before h w) (w - before) 1
