-- The first i gates are read, up to the cursor.
use Rattle.plan_drawn.proofs.OrderingLaws.{GatesRead}
use Rattle.plan_drawn.proofs.reading.map_offset.Given as goal

abbrev pub invariant-loop-i : goal.invariant-loop-i
invariant-loop-i l = GatesRead l.drawing.inputs l.drawing.gate_count l.i l.file l.at.at
