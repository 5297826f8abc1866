-- The old output's use is dropped and the new one's counted.
use Rattle.std.proofs.Common.{ap, ◌∙◌, arith}
use Rattle.plan.specs.Counting.{with_use}
use Rattle.plan.proofs.FaultsLaws.{accepted-tallied}
use Rattle.plan_edits.specs.Edits.{with_output_at, output_replaced}
use Rattle.plan_edits.proofs.EditsLaws.{has-places, can_replace_output, output-drops, output-replaced, edit_exits, edit_done}
use Rattle.plan_edits.proofs.edits.replace_output.Goals as goal

pub returns-in_err-at : goal.returns-in_err-at
unfolding output_replaced
returns-in_err-at c = edit_exits _ _ _ _ c.from_residual.ensures.1 c.in_err-at.ensures.answered

pub drop_use-requires : goal.drop_use-requires
drop_use-requires c =
    let can = can_replace_output c.args.plan c.args.output c.args.wire c.in_ok-at.ensures.answered in
    (output-drops c.args.plan (has-places _ c.well_formed.0) can.accepted c.in_ok-at.at (omega arith)).asked

pub returns : goal.returns
unfolding output_replaced
returns c =
    let p = c.args.plan in
    let can = can_replace_output p c.args.output c.args.wire c.in_ok-at.ensures.answered in
    rw (← c.in_ok-at.ensures.placed)
    (edit_done (with_output_at _ _ p) _ _ _ c.in_ok-at.ensures.answered (accepted-tallied p can.accepted).places
    (c.count_use.ensures ∙ ap (with_use _) c.drop_use.ensures
    ∙ output-replaced p (has-places _ c.well_formed.0) can.accepted _ (omega arith) _ can.output))
