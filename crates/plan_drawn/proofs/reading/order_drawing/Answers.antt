-- The gates are taken: 15 where one is left over, or the plan in the order of taking.
use Rattle.std.proofs.Common.{sym, ap, ap₂, ◌∙◌}
use Rattle.fault.specs.declared.Fault.{Fault}
use Rattle.plan_fields.specs.Parsing.{refuse}
use Rattle.plan_order.specs.Drawing.{ordered_plan}
use Rattle.plan_drawn.specs.DrawnFile.{drawn_outcome}
use Rattle.plan_drawn.proofs.OrderingLaws.{cycle_found, all_listed, no_cycle-found}
use Rattle.plan_drawn.proofs.reading.order_drawing.Goals as goal

pub returns-in-Some : goal.returns-in-Some
returns-in-Some c =
    ap (λ at. drawn_outcome (refuse Fault.Ring at)) c.map_offset.ensures
    ∙ ap drawn_outcome (sym (cycle_found c.requires (rw c.new-taking.ensures.same at c.in-Some.ensures.taken) c.args.file.now 0))

pub returns : goal.returns
returns c =
    let taken = rw c.new-taking.ensures.same at c.in_default.ensures.taken in
    ap₂ (λ p l. record { number = 0; at = 0; plan = p; drawn = l }) (c.order_gates-plan.ensures ∙ ap (λ d. ordered_plan d) (c.in_default.ensures.same ∙ c.new-taking.ensures.same)) (all_listed c.requires taken)
    ∙ ap drawn_outcome (sym (no_cycle-found c.requires taken c.args.file.now 0))
