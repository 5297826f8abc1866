-- What saving says where its checks refuse, and where they do not.
use Prim.Native.Nat.{ℕ, zero, suc}
use native.Mathlib.Omega.{arith}
use mathlib.Core.Path.{◌≡◌, ap}
use mathlib.Core.List.{List}
use lib.ListN.{length}
use Rattle.fault.specs.declared.Fault.{Fault}
use Rattle.fault.specs.Number.{fault_number}
use Rattle.fault.proofs.ChecksLaws.{number-positive}
use Rattle.fault.specs.Buffers.{over}
use Rattle.fault.proofs.BuffersLaws.{filled-refused, is-filled}
use Rattle.plan.specs.declared.record.Plan.{Plan}
use Rattle.plan_saving.specs.Saving.{saved_outcome, saved_file, save_fault, plan_save, save_result}

-- a refusal has length 0
pub outcome-refused : (f : Fault) (n long : ℕ) → fault_number f ≡ n → record { number = fault_number f; file_length = 0 } ≡ saved_outcome n long
outcome-refused f zero long e = absurd (omega (arith, number-positive f))
outcome-refused f (suc n) long e = ap (λ m. record { number = m; file_length = 0 }) e

-- otherwise the length is the file's
pub outcome-done : (n long : ℕ) {l : ℕ} → 0 ≡ n → l ≡ long → record { number = 0; file_length = l } ≡ saved_outcome n long
outcome-done n long z e = rw (← z) (ap (λ m. record { number = 0; file_length = m }) e)

-- the call, on a plan and a lent buffer: what it answers, and what is left, where a check refuses
pub refused-so : (p : Plan) (buffer : List ℕ) (f : Fault) → fault_number f ≡ save_fault p (length buffer)
    → (record { number = fault_number f; file_length = 0 } ≡ plan_save p (length buffer)) × (buffer ≡ save_result p buffer)
unfolding plan_save
refused-so p buffer f e = (outcome-refused f _ _ e, filled-refused f _ _ _ e)

-- and where none does
pub saved-so : (p : Plan) (buffer : List ℕ) {l : ℕ} {left : List ℕ} → 0 ≡ save_fault p (length buffer) → l ≡ length (saved_file p)
    → left ≡ over (saved_file p) buffer
    → (record { number = 0; file_length = l } ≡ plan_save p (length buffer)) × (left ≡ save_result p buffer)
unfolding plan_save
saved-so p buffer z long left = (outcome-done _ _ z long, is-filled _ _ _ _ left z)
