-- What writing P writes has its stated length, and is P where its checks pass.
use mathlib.Core.Path.{◌≡◌, sym, ap, ◌∙◌}
use mathlib.Core.List.{List}
use Prim.Native.Nat.{ℕ, ◌*◌}
use lib.ListN.{length, take, drop}
use lib.Seq.{take_at}
use Rattle.block_elements.specs.Rows.{stride, flat, decode}
use Rattle.block_elements.proofs.RowsLaws.{decode-flat}
use Rattle.block_networks.specs.Permutation.{permutation_count, permutation_outs, permutation_rows}
use Rattle.block_networks.proofs.PermutationLaws.{permutation_totals, length-permutation_outs}
use Rattle.block_sizes.specs.Sizes.{level_of, SizeIs}
use Rattle.block_write_checks.specs.WriteChecks.{write_fault}
use Rattle.block_write_checks.proofs.WriteChecksLaws.{write_passes}
use Rattle.block_permutation_rows.specs.WriteCalls.{written_rows, written_outputs}
use Rattle.block_permutation_rows.proofs.HalvesLaws.{length-rows}

-- ---- what is written

-- three entries a row, and one for each output wire
pub length-entries : (N : ℕ) (ins : List ℕ) (next : ℕ) → length (flat (permutation_rows (level_of N) ins next)) ≡ stride * permutation_count (level_of N)
length-entries N ins next = length-rows (level_of N) ins next

pub length-outs : (N : ℕ) (ins : List ℕ) (next : ℕ) → SizeIs N → length ins ≡ N → length (permutation_outs (level_of N) ins next) ≡ N
length-outs N ins next size e = length-permutation_outs (level_of N) ins next (e ∙ sym size.power) ∙ size.power

-- after success the lent buffers begin with the rows and the output wires
pub record Written (N : ℕ) (ins : List ℕ) (next : ℕ) (rows outputs : List ℕ) : Type 0 where
  pub rows_read : decode (take (stride * permutation_count (level_of N)) (written_rows N ins next rows outputs)) ≡ permutation_rows (level_of N) ins next
  pub outputs_read : take N (written_outputs N ins next rows outputs) ≡ permutation_outs (level_of N) ins next

pub written_read : (N : ℕ) (ins : List ℕ) (next : ℕ) (rows outputs : List ℕ) → write_fault N ins next (length rows) (length outputs) ≡ 0
    → Written N ins next rows outputs
written_read N ins next rows outputs e =
    let w = write_passes N ins next (length rows) (length outputs) e in
    let es = flat (permutation_rows (level_of N) ins next) in
    let outs = permutation_outs (level_of N) ins next in
    let front : take (stride * permutation_count (level_of N)) (written_rows N ins next rows outputs) ≡ es =
    rw e (take_at es (drop (length es) rows) (stride * permutation_count (level_of N)) (length-entries N ins next)) in
    record {
      rows_read = ap decode front ∙ decode-flat (permutation_totals (level_of N) ins next).family;
      outputs_read = rw e (take_at outs (drop (length outs) outputs) N (length-outs N ins next w.size w.inputs));
    }
