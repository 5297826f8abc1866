-- The length decides, then whether some entry is above 1.
use Rattle.std.proofs.Common.{◌<◌, ◌≤◌, arith, rules, tests}
use Rattle.std.proofs.lemmas.Iterator.{cases_from_any, YieldsList-from_slice}
use Rattle.plan_evaluation_checks.proofs.EvaluationChecksLaws.{contact-refused, contact-passes}
use Rattle.plan_evaluation_checks.proofs.contact_fault.Goals.{then-row-inputs-via-then-row-inputs, then-row-inputs-via-else-row-inputs+then-any}
use Rattle.plan_evaluation_checks.proofs.contact_fault.Goals as goal

pub returns-then-row-inputs : goal.returns-then-row-inputs
returns-then-row-inputs c = elim c.then-row-inputs.branch [
  | then-row-inputs-via-then-row-inputs w ↦ contact-refused _ _ (λ e h. w.if-row-inputs.true e)
  | then-row-inputs-via-else-row-inputs+then-any w ↦
      let some = cases_from_any _ _ _ (λ x. 1 < x) (λ x. x ≤ 1) w.if-any.ensures.ran (YieldsList-from_slice c.args.row.now cc) (λ x q k. search (rules, tests)) (λ x q k. search (rules, tests)) in
      contact-refused _ _ (λ e h. omega (arith, h some.0 some.1, some.2 0))
]

pub returns : goal.returns
returns c = contact-passes _ _ c.if-row-inputs.false (search rules)
