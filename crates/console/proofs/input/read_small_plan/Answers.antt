-- A fault of the file comes first, then the number of gates.
use Rattle.std.proofs.Common.{arith}
use Rattle.std.proofs.lemmas.Result.{err_from_is_err_and}
use Rattle.console.proofs.PlansLaws.{small-refused, small-accepted, large-refused}
use Rattle.console.proofs.input.read_small_plan.Goals as goal

pub returns-in_err-plan : goal.returns-in_err-plan
returns-in_err-plan c =
    let p = err_from_is_err_and c.from_residual.result c.from_residual.ensures.1 in
    rw (p.1, p.2) (small-refused _ c.read_plan.result c.read_plan.ensures _ c.in_err-plan.was)

pub returns-then-plan-gt-MOST_GATES : goal.returns-then-plan-gt-MOST_GATES
returns-then-plan-gt-MOST_GATES c = large-refused _ c.read_plan.result c.read_plan.ensures _ c.in_ok-plan.was (omega arith)

pub returns : goal.returns
returns c = small-accepted _ c.read_plan.result c.read_plan.ensures _ c.in_ok-plan.was (omega arith)
