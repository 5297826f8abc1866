-- Where the checks of evaluation pass, the plan is accepted, the row has one entry for each input, each 0 or 1, and the result has room.
use mathlib.Core.Path.{◌≡◌, sym}
use mathlib.Core.Bool.{true}
use mathlib.Core.List.{List}
use Prim.Native.Nat.{ℕ, ◌<◌, ◌≤◌}
use native.Mathlib.Omega.{arith}
use native.Mathlib.Decide.{dec_lt, ℕ_discrete}
use borrow.Author.Tests.{leb-true, le-leb, eqb-true, eq-eqb, ne_eqb}
use lib.Dec.{leb, eqb}
use lib.ListN.{length, get_or, get_or-eq_default}
use Rattle.fault.specs.declared.Fault.{Fault}
use Rattle.fault.specs.Number.{fault_number}
use Rattle.fault.specs.Checks.{unless, room_fault}
use Rattle.fault.proofs.ChecksLaws.{stop, unless-zero, and_then-zero, first_of-zero}
use Rattle.plan.specs.declared.record.Plan.{Plan}
use Rattle.plan.proofs.FaultsLaws.{tests-refused}
use Rattle.plan_evaluation_checks.specs.EvaluationChecks.{contact_fault, evaluate_fault, Evaluable}

-- a row that passes its check: one entry for each input, each 0 or 1
module _ (u : ℕ) (row : List ℕ) (contacts : contact_fault u row ≡ 0) where
  passed : (eqb (length row) u ≡ true) × ((i : ℕ) → i < length row → leb (get_or row i 0) 1 ≡ true)
  unfolding contact_fault
  passed = simp (and_then-zero, first_of-zero, unless-zero) at contacts

  -- its length
  pub row-length : length row ≡ u
  row-length = eqb-true (length row) u passed.0

  -- its entries, 0 past the end
  pub row-bit : (i : ℕ) → get_or row i 0 ≤ 1
  row-bit i = elim (dec_lt i (length row)) [
    | yes y ↦ leb-true _ 1 (passed.1 i y)
    | no n ↦ rw (get_or-eq_default row 0 {n = i} (omega arith)) (omega arith)
  ]

-- a row that is not of length u, or has an entry above 1, gives 12
pub contact-refused : (u : ℕ) (row : List ℕ) → (length row ≡ u → ((i : ℕ) → i < length row → get_or row i 0 ≤ 1) → ⊥)
    → fault_number Fault.Contact ≡ contact_fault u row
unfolding contact_fault
contact-refused u row d = elim (ℕ_discrete (length row) u) [
  | no f ↦ stop {a = unless (eqb (length row) u) Fault.Contact} Fault.Contact _ (rw (ne_eqb (length row) u f))
  | yes e ↦
      rw (eq-eqb (length row) u e)
      (tests-refused (λ i. leb (get_or row i 0) 1) Fault.Contact (length row)
      (λ z. d e (λ i l. leb-true _ 1 ((unless-zero _ Fault.Contact).0 ((first_of-zero _ (length row)).0 z i l)))))
]

-- any other row passes
pub contact-passes : (u : ℕ) (row : List ℕ) → length row ≡ u → ((i : ℕ) → i < length row → get_or row i 0 ≤ 1) → 0 ≡ contact_fault u row
unfolding contact_fault
contact-passes u row e h = sym (simp (and_then-zero, first_of-zero, unless-zero) (eq-eqb (length row) u e, λ i l. le-leb (get_or row i 0) 1 (h i l)))

-- what holds where the checks of evaluation pass, with a result buffer of n entries
pub record EvaluationPasses (p : Plan) (row : List ℕ) (n : ℕ) : Type 0 where
  pub evaluable : Evaluable p row
  pub room : p.output_count ≤ n

-- where no check of evaluation fails
pub evaluation_passes : (p : Plan) (row : List ℕ) (n : ℕ) → evaluate_fault p row n ≡ 0 → EvaluationPasses p row n
unfolding room_fault
evaluation_passes p row n e =
    let h = simp (and_then-zero, unless-zero) at e in
    record { evaluable = record { accepted = h.0; contacts = h.1.0 }; room = leb-true p.output_count n h.1.1 }
