-- The first bits are out.
use Rattle.std.proofs.Common.{◌≡◌, ℕ, ◌<◌, get_or}
use Rattle.fabric_sizes.specs.Layout.{output_wire_at}
use Rattle.fabric_run.proofs.running.write_result.Given as goal

abbrev pub invariant-loop-j : goal.invariant-loop-j
invariant-loop-j l = (k : ℕ) → k < l.j → get_or l.out k 0 ≡ get_or l.work (output_wire_at l.table k) 0
