-- The new wire has no uses and the new gate's are counted.
use Rattle.std.proofs.Common.{ap, ◌∙◌, add-one}
use mir.Facts.{Fits-below}
use Rattle.powers.specs.Powers.{ceil_power}
use Rattle.plan.proofs.UsesLaws.{places_le}
use Rattle.plan_edits.specs.Edits.{with_gate_at, gate_appended}
use Rattle.plan_edits.proofs.EditsLaws.{has-places, can_append_gate, gate-appended, edit_exits, edit_done}
use Rattle.plan_edits.proofs.edits.append_gate.Goals as goal

pub returns-in_err-check_append_gate : goal.returns-in_err-check_append_gate
unfolding gate_appended
returns-in_err-check_append_gate c = edit_exits _ _ _ _ c.from_residual.ensures.1 c.in_err-check_append_gate.ensures

-- K has 16 bits
pub overflow_cast-edited : goal.overflow_cast-edited
overflow_cast-edited c =
    let can = can_append_gate c.args.plan c.args.new_gate c.in_ok-check_append_gate.ensures in
    Fits-below {n = 256} tt (places_le (c.ceil_power.ensures ∙ ap ceil_power (c.from.ensures ∙ add-one _)) can.room)

pub returns : goal.returns
unfolding gate_appended
returns c =
    let p = c.args.plan in
    let can = can_append_gate p c.args.new_gate c.in_ok-check_append_gate.ensures in
    let cleared = rw (c.from-2.ensures, c.from-at.ensures) at c.count_operands.ensures in
    rw (c.from-at.ensures, add-one p.gate_count)
    (edit_done (with_gate_at _ _ _ p) _ _ _ c.in_ok-check_append_gate.ensures (c.ceil_power.ensures ∙ ap ceil_power (c.from.ensures ∙ add-one _))
    (cleared ∙ gate-appended p (has-places _ c.well_formed.0) can.accepted can.room _ can.gate))
