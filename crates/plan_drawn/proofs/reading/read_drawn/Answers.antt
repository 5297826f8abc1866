-- A plan is in order.
use Rattle.std.proofs.Common.{ap, ◌∙◌}
use Rattle.plan_drawn.proofs.AnswersLaws.{plain-gates, plain-outcome}
use Rattle.plan_drawn.proofs.reading.read_drawn.Goals as goal

pub numbers_in_order-requires : goal.numbers_in_order-requires
numbers_in_order-requires c = plain-gates _ c.in-Ok.ensures

pub returns-in-Ok : goal.returns-in-Ok
returns-in-Ok c = ap (λ d. record { number = 0; at = 0; plan = c.in-Ok.plan; drawn = d }) c.numbers_in_order.ensures ∙ plain-outcome _ c.in-Ok.ensures
