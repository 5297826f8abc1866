-- P(1) is a wire, and a larger P is written by its level.
use Rattle.std.proofs.Common.{sym, ◌∙◌, arith}
use Rattle.block_sizes.specs.Sizes.{level_of}
use Rattle.block_permutation_rows.proofs.NetworkLaws.{wire-written, level-room}
use Rattle.block_permutation_rows.proofs.writing.write_checked_permutation.Goals as goal

pub write_from_inputs-requires : goal.write_from_inputs-requires
write_from_inputs-requires c =
    level-room c.args.n c.args.inputs.now c.args.next.0 _ _ c.ceil_log-level.result c.requires c.ceil_log-level.ensures c.if-level-eq0.false

pub returns-then-level-eq0 : goal.returns-then-level-eq0
returns-then-level-eq0 c =
    let w =
    wire-written (level_of c.args.n) c.args.inputs.now c.args.next.0 c.args.rows.now c.args.outputs.now _
    (sym c.ceil_log-level.ensures ∙ c.if-level-eq0.true) (omega arith) c.copy_wires.ensures in
    record { rows_after = w.0; outputs_after = w.1 }
