-- "The first failing check decides." A check is a number of the refusal table, or 0 where nothing fails.
use Rattle.std.specs.Prelude.{ℕ, zero, suc, Bool, cond, leb, eqb, List, length}
use Rattle.fault.specs.declared.Fault.{Fault}
use Rattle.fault.specs.Number.{fault_number}

-- the fault's number unless the test holds
abbrev pub unless : Bool → Fault → ℕ
unless test f = cond test 0 (fault_number f)

-- the first check's number, or the second's where the first does not fail
abbrev pub and_then : ℕ → ℕ → ℕ
and_then zero second = second
and_then (suc n) second = suc n

-- the first failing check of n
unfoldable pub first_of : (ℕ → ℕ) → ℕ → ℕ
first_of check zero = 0
first_of check (suc n) = and_then (first_of check n) (check n)

-- 11: a lent buffer of n entries is below its stated length
unfoldable pub room_fault : ℕ → ℕ → ℕ
room_fault stated n = unless (leb stated n) Fault.Short

-- 12: the list has another length
unfoldable pub list_fault : ℕ → List ℕ → ℕ
list_fault m list = unless (eqb (length list) m) Fault.Contact
