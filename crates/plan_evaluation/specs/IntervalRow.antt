-- What an interval needs of its row.
use Rattle.std.specs.Prelude.{ℕ, ◌+◌, ◌≡◌, List, ◌++◌, length}
use Rattle.plan.specs.declared.record.Plan.{Plan}
use Rattle.plan.specs.Faults.{CountsWithin}
use Rattle.plan_evaluation_checks.specs.EvaluationChecks.{Evaluable}

-- fresh entries and a state that make a row of an accepted plan's inputs
pub record IntervalRow (p : Plan) (fresh state : List ℕ) : Type 0 where
  pub evaluable : Evaluable p (fresh ++ state)
  pub size : length fresh + length state ≡ p.inputs
  pub counts : CountsWithin p.inputs p.gate_count p.output_count
