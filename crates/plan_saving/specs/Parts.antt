-- The bytes of a plan's gates and outputs, and what a function leaves that writes bytes.
use Rattle.std.specs.Prelude.{ℕ, ◌+◌, ◌≡◌, List, length}
use Rattle.std.proofs.lemmas.List.Edits.{sets}
use Rattle.plan.specs.declared.record.Plan.{Plan}
use Rattle.plan.specs.Record.{gate_at, output_at}
use Rattle.plan_files.specs.Encoding.{word, encode_gate, joined_bytes}
use Rattle.plan_saving.specs.Saving.{shortest_map}

-- the bytes of the first n gates of a plan in the file that saving writes
abbrev pub saved_gates : Plan → ℕ → List ℕ
saved_gates p n = joined_bytes n (λ i. encode_gate (shortest_map p i) (gate_at p i))

-- those of its first n outputs
abbrev pub saved_outputs : Plan → ℕ → List ℕ
saved_outputs p n = joined_bytes n (λ j. word (output_at p j).0)

-- what a call left that wrote these bytes into a buffer from `at` on, and the place behind them, which the call answers
pub record Wrote (bytes before : List ℕ) (at : ℕ) (after : List ℕ) (next : ℕ) : Type 0 where
  pub is_after : after ≡ sets before at bytes
  pub is_next : next ≡ at + length bytes
