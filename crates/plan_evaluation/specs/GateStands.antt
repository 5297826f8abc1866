-- What a gate needs of the array of the wires' bits.
use Rattle.std.specs.Prelude.{ℕ, ◌<◌, ◌≤◌, List, length, get_or}
use Rattle.plan.specs.declared.record.Gate.{Gate}

-- a gate whose operands stand before the place of its own wire, with a bit on each
pub record GateStands (gate : Gate) (own : ℕ) (wires : List ℕ) : Type 0 where
  pub some_first : 1 ≤ gate.first.0
  pub first : gate.first.0 ≤ own
  pub some_second : 1 ≤ gate.second.0
  pub second : gate.second.0 ≤ own
  pub room : own < length wires
  pub bit : (i : ℕ) → i < own → get_or wires i 0 ≤ 1
