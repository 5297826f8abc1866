-- The two cases of what was read as a drawing.
use Rattle.std.proofs.Common.{◌∙◌}
use Rattle.plan_drawn.proofs.AnswersLaws.{no-drawing, drawing_bounds, drawing-outcome, refused-drawing}
use Rattle.plan_drawn.proofs.reading.read_unordered.Goals as goal

pub returns-in_err-drawing : goal.returns-in_err-drawing
returns-in_err-drawing c = no-drawing _ _ c.from_residual.ensures.1 (refused-drawing _ c.in_err-drawing.field-0.0 c.in_err-drawing.ensures)

pub order_drawing-requires : goal.order_drawing-requires
order_drawing-requires c = drawing_bounds _ c.in_ok-drawing.ensures

pub returns : goal.returns
returns c = c.order_drawing.ensures ∙ drawing-outcome _ c.in_ok-drawing.ensures
