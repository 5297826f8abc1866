-- The parts of a plan's program: what they store, and what they are lent.
use Rattle.std.specs.Prelude.{ℕ, ◌+◌, ◌*◌, ◌^◌, ◌<◌, ◌≤◌, ◌≡◌, List, ◌++◌, length}
use Rattle.blocks.specs.Elements.{operands}
use Rattle.blocks.specs.Networks.{selection_count, selection_bits}
use Rattle.blocks.specs.Calls.{SelectionPasses}
use Rattle.plan.specs.declared.record.Gate.{Gate}
use Rattle.plan.specs.Record.{max_gates}
use Rattle.fabric_universal.specs.Selector.{selection}
use Rattle.fabric_universal.specs.Universal.{Gates, universal_takes, wanted_gates, mix_bits, universal_bits}
use Rattle.fabric_universal.specs.Fabric.{gate_level}
use Rattle.fabric_lists.specs.GateLists.{gates_listed}
use Rattle.fabric_lists.specs.WantedLists.{pins_wanted}

-- above the program bits of every plan: the fabric of 64, 256, 64 takes 32,257
abbrev pub bit_limit : ℕ
bit_limit = 65536

-- ---- what the parts store

-- between the halves of h gates each
unfoldable pub between_bits : Gates → ℕ → ℕ → List ℕ
between_bits G base h = selection_bits h (operands * h) (wanted_gates G base h) ++ mix_bits G base h

-- S(u, 2K) and U(K) for K gates behind u inputs
unfoldable pub gates_program : ℕ → List Gate → List ℕ
gates_program u gates =
    selection_bits u (operands * length gates) (pins_wanted u gates)
    ++ universal_bits selection (gates_listed u gates) (gate_level (length gates)) 0

-- ---- what fits

-- the bits between two halves of h gates each, from bit `start` on, in a program of `room` bytes; a list of `wanted` entries is room to work in
pub record BetweenRoom (h wanted start room : ℕ) : Type 0 where
  pub some : 1 ≤ h
  pub gates : 2 * h ≤ max_gates
  pub wanted_room : 2 * h ≤ wanted
  pub few : start + selection_count h (operands * h) + operands * h ≤ bit_limit
  pub fits : start + selection_count h (operands * h) + operands * h ≤ 8 * room

-- the bits of U for `gates` gates, a power of two, whose wires follow `before` others; `wanted`, `start` and `room` as above
pub record UniversalProgramRoom (before gates wanted start room : ℕ) : Type 0 where
  pub power : gates ≡ 2 ^ gate_level gates
  pub all : gates ≤ max_gates
  pub wires : before + gates < 2 ^ 32
  pub wanted_room : 2 * gates ≤ wanted
  pub few : start + universal_takes selection (gate_level gates) ≤ bit_limit
  pub fits : start + universal_takes selection (gate_level gates) ≤ 8 * room

-- S(u, 2K) and U(K) for the gates of a list
pub record GatesRoom (u : ℕ) (list : List Gate) (wanted room : ℕ) : Type 0 where
  pub inputs : SelectionPasses u (operands * length list) (pins_wanted u list) 0 room
  pub gates : UniversalProgramRoom u (length list) wanted (selection_count u (operands * length list)) room
