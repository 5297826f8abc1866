-- Unused places never matter: plans that agree on the counts and the used places have the same evaluation.
use mathlib.Core.Path.{◌≡◌, refl, ap₂, ◌∙◌, fun_ext}
use mathlib.Core.List.{List}
use Prim.Native.Nat.{ℕ, zero, suc, ◌≤◌}
use native.Mathlib.Omega.{arith}
use lib.ListN.{length}
use Rattle.lists.proofs.ListsLaws.{list_of_ext}
use Rattle.plan.specs.declared.record.Plan.{Plan}
use Rattle.plan.specs.Record.{output_at}
use Rattle.plan.proofs.AgreeLaws.{Agree, same-fault}
use Rattle.plan_evaluation_checks.specs.EvaluationChecks.{evaluate_fault}
use Rattle.plan_series_checks.specs.SeriesChecks.{plan_series_fault}
use Rattle.plan_evaluation.specs.PlanSeries.{plan_series_results, plan_series_end}
use Rattle.plan_evaluation.specs.Evaluation.{value_on, plan_wires, named_by, plan_outputs, gate_bit, evaluate_result}

module _ (p q : Plan) (same : Agree p q) where
  -- over values of any type
  pub same-wires : {A : Type 0} (none : A) (act : ℕ → ℕ → A → A → A) (row : List A) (n : ℕ) → n ≤ p.gate_count
      → plan_wires none act p row n ≡ plan_wires none act q row n
  unfolding plan_wires
  same-wires none act row zero h = refl
  same-wires none act row (suc n) h = cc (same-wires none act row n (omega arith), same.gate n h)

  -- the outputs
  pub same-outputs : {A : Type 0} (none : A) (act : ℕ → ℕ → A → A → A) (row : List A) → plan_outputs none act p row ≡ plan_outputs none act q row
  same-outputs none act row =
      let wires = same-wires none act row p.gate_count (omega arith) in
      let named = list_of_ext p.output_count (λ j. value_on none (plan_wires none act p row p.gate_count) (output_at p j))
      (λ j. value_on none (plan_wires none act q row p.gate_count) (output_at q j))
      (λ j l. cc (same.output j l)) in
      named ∙ ap₂ (λ k v. named_by none q (plan_wires none act q row k) v) same.gates same.outputs

  -- the call: its answer and its result
  pub same_evaluation : (row result : List ℕ)
      → (evaluate_fault p row (length result) ≡ evaluate_fault q row (length result)) × (evaluate_result p row result ≡ evaluate_result q row result)
  same_evaluation row result =
      let fault : evaluate_fault p row (length result) ≡ evaluate_fault q row (length result) = cc (same-fault p q same) in
      (fault, cc (same-outputs 0 gate_bit row))

  -- the series' call: its answer, its results and its end state
  pub same-series : (h n : ℕ) (fresh start results end : List ℕ)
      → (plan_series_fault p h n fresh start (length results) (length end) ≡ plan_series_fault q h n fresh start (length results) (length end))
      × (plan_series_results p h n fresh start results end ≡ plan_series_results q h n fresh start results end)
      × (plan_series_end p h n fresh start results end ≡ plan_series_end q h n fresh start results end)
  same-series h n fresh start results end =
      let step : plan_outputs 0 gate_bit p ≡ plan_outputs 0 gate_bit q = fun_ext (same-outputs 0 gate_bit) in
      let fault : plan_series_fault p h n fresh start (length results) (length end) ≡ plan_series_fault q h n fresh start (length results) (length end) =
      cc (same-fault p q same, same.inputs, same.outputs) in
      (fault, cc (fault, step, same.inputs), cc (fault, step, same.inputs))
