-- Document 01, "Plan evaluation: plan faults, 12, 11": the checks in their order.
use Rattle.std.specs.Prelude.{ℕ, List, leb, eqb, length, get_or, ◌≡◌}
use Rattle.fault.specs.declared.Fault.{Fault}
use Rattle.fault.specs.Checks.{unless, and_then, first_of, room_fault}
use Rattle.plan.specs.declared.record.Plan.{Plan}
use Rattle.plan.specs.Faults.{plan_fault, Accepted}

-- 12: the row is not of length u, or an entry is not 0 or 1
unfoldable pub contact_fault : ℕ → List ℕ → ℕ
contact_fault u row =
    and_then (unless (eqb (length row) u) Fault.Contact)
    (first_of (λ i. unless (leb (get_or row i 0) 1) Fault.Contact) (length row))

-- the call's checks, with a result buffer of n entries: plan faults, 12, 11
abbrev pub evaluate_fault : Plan → List ℕ → ℕ → ℕ
evaluate_fault p row n = and_then (plan_fault p) (and_then (contact_fault p.inputs row) (room_fault p.output_count n))

-- an accepted plan with a row of its inputs
pub record Evaluable (p : Plan) (row : List ℕ) : Type 0 where
  pub accepted : Accepted p
  pub contacts : contact_fault p.inputs row ≡ 0
