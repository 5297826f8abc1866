-- The old gate's uses are dropped and the new gate's counted.
use Rattle.std.proofs.Common.{ap, ◌∙◌, arith}
use Rattle.plan.specs.Counting.{with_operands}
use Rattle.plan.proofs.FaultsLaws.{accepted-tallied}
use Rattle.plan_edits.specs.Edits.{with_gate_at, gate_replaced}
use Rattle.plan_edits.proofs.EditsLaws.{has-places, can_replace_gate, first-drops, second-drops, gate-replaced, edit_exits, edit_done}
use Rattle.plan_edits.proofs.edits.replace_gate.Goals as goal

pub returns-in_err-at : goal.returns-in_err-at
unfolding gate_replaced
returns-in_err-at c = edit_exits _ _ _ _ c.from_residual.ensures.1 c.in_err-at.ensures.answered

pub drop_operands-requires-clause-le_first : goal.drop_operands-requires-clause-le_first
drop_operands-requires-clause-le_first c =
    let can = can_replace_gate c.args.plan c.args.gate c.args.new_gate c.in_ok-at.ensures.answered in
    (first-drops c.args.plan (has-places _ c.well_formed.0) can.accepted c.in_ok-at.at (omega arith)).asked

pub drop_operands-requires-clause-le_second : goal.drop_operands-requires-clause-le_second
drop_operands-requires-clause-le_second c =
    let can = can_replace_gate c.args.plan c.args.gate c.args.new_gate c.in_ok-at.ensures.answered in
    (second-drops c.args.plan (has-places _ c.well_formed.0) can.accepted c.in_ok-at.at (omega arith)).asked

pub returns : goal.returns
unfolding gate_replaced
returns c =
    let p = c.args.plan in
    let placed = c.in_ok-at.ensures.placed in
    let can = can_replace_gate p c.args.gate c.args.new_gate c.in_ok-at.ensures.answered in
    rw (← placed)
    (edit_done (with_gate_at p.gate_count _ _ p) _ _ _ c.in_ok-at.ensures.answered (accepted-tallied p can.accepted).places
    (c.count_operands.ensures ∙ ap (with_operands _) c.drop_operands.ensures
    ∙ gate-replaced p (has-places _ c.well_formed.0) can.accepted _ (omega arith) _ (rw (← placed) at can.gate)))
