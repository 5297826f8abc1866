-- What the programs take: a file that is refused is refused alike; of an accepted plan the number of its gates decides.
use mathlib.Core.Path.{◌≡◌, refl, sym, ap, ◌∙◌}
use mathlib.Core.Bool.{Bool, true, false, cond}
use mathlib.Core.List.{List}
use Rattle.std.specs.Prelude.{Result, Ok, Err}
use Prim.Native.Nat.{ℕ, zero, suc, ◌≤◌, ◌<◌}
use native.Mathlib.Omega.{arith}
use borrow.Author.Tests.{lt-ltb, le-ltb}
use lib.Dec.{ltb}
use Rattle.fault.specs.declared.Refusal.{Refusal}
use Rattle.fault.specs.Number.{fault_number}
use Rattle.fault.proofs.ChecksLaws.{number-positive}
use Rattle.plan.specs.declared.record.Plan.{Plan}
use Rattle.plan_reading.specs.PlanFile.{ReadOutcome, plan_read}
use Rattle.plan_reading.specs.Answers.{read_outcome}
use Rattle.console.specs.Plans.{most_gates, too_many_gates, few_gates, small_plan_read}

kept : (n : ℕ) (o : ReadOutcome) → 1 ≤ n → few_gates n o ≡ o
kept zero o h = absurd (omega arith)
kept (suc n) o h = refl

module _ (file : List ℕ) (r : Result Plan Refusal) (read : read_outcome r ≡ plan_read file) where
  -- what is made of the answer
  made : (a : Result Plan Refusal) → r ≡ a → few_gates (read_outcome a).number (read_outcome a) ≡ small_plan_read file
  unfolding small_plan_read
  made a e = ap (λ (x : ReadOutcome). few_gates x.number x) (ap read_outcome (sym e) ∙ read)

  pub small-refused : (x : Refusal) → r ≡ Err x → read_outcome (Err x) ≡ small_plan_read file
  small-refused x e = sym (kept (fault_number x.fault) (read_outcome (Err x)) (number-positive x.fault)) ∙ made (Err x) e

  -- the number of gates decides
  decided : (p : Plan) (b : Bool) → ltb most_gates p.gate_count ≡ b → r ≡ Ok p
      → cond b too_many_gates (read_outcome (Ok p)) ≡ small_plan_read file
  decided p b t e = ap (λ b. cond b too_many_gates (read_outcome (Ok p))) (sym t) ∙ made (Ok p) e

  pub small-accepted : (p : Plan) → r ≡ Ok p → p.gate_count ≤ most_gates → read_outcome (Ok p) ≡ small_plan_read file
  small-accepted p e h = decided p false (le-ltb most_gates p.gate_count h) e

  pub large-refused : (p : Plan) → r ≡ Ok p → most_gates < p.gate_count → too_many_gates ≡ small_plan_read file
  large-refused p e h = decided p true (lt-ltb most_gates p.gate_count h) e
