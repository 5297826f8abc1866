-- Laws of checks in order: a check that failed stays the answer, and where none fails each of them passes.
use mathlib.Core.Path.{◌≡◌, refl, sym, ap, ◌∙◌}
use mathlib.Core.Bool.{Bool, true, false, not, true≢false, false≢true}
use mathlib.Core.Logic.{◌↔◌}
use lib.Dec.{lit≤, eqb, leb}
use Prim.Native.Nat.{ℕ, zero, suc, ◌<◌, ◌≤◌}
use native.Mathlib.Omega.{arith}
use native.Mathlib.Decide.{ℕ_discrete}
use mathlib.Core.List.{List}
use borrow.Author.Tests.{eqb-true, eq-eqb, le-leb, lt-leb, leb-true}
use lib.ListN.{length}
use Rattle.fault.specs.declared.Fault.{Fault}
use Rattle.fault.specs.declared.Fault.TheVariants.{Stub, Inputs, Gates, Outputs, Cut, Map, Operand, Table, Source, Tail, Short, Contact, Fabric, Program, Ring, Hold, Tally, Place}
use Rattle.std.specs.Prelude.{Result, Ok, Err}
use Rattle.fault.specs.Number.{fault_number, answer_number}
use Rattle.fault.specs.Checks.{unless, and_then, first_of, room_fault, list_fault}

-- no word has the number 0
pub number-positive : (f : Fault) → 1 ≤ fault_number f
number-positive = elim [
  | Stub ↦ lit≤ tt
  | Inputs ↦ lit≤ tt
  | Gates ↦ lit≤ tt
  | Outputs ↦ lit≤ tt
  | Cut ↦ lit≤ tt
  | Map ↦ lit≤ tt
  | Operand ↦ lit≤ tt
  | Table ↦ lit≤ tt
  | Source ↦ lit≤ tt
  | Tail ↦ lit≤ tt
  | Short ↦ lit≤ tt
  | Contact ↦ lit≤ tt
  | Fabric ↦ lit≤ tt
  | Program ↦ lit≤ tt
  | Ring ↦ lit≤ tt
  | Hold ↦ lit≤ tt
  | Tally ↦ lit≤ tt
  | Place ↦ lit≤ tt
]

-- tests as orders
pub leb_iff : (a b : ℕ) → (leb a b ≡ true) ↔ (a ≤ b)
leb_iff a b = (leb-true a b, le-leb a b)

pub eqb_iff : (a b : ℕ) → (eqb a b ≡ true) ↔ (a ≡ b)
eqb_iff a b = (eqb-true a b, eq-eqb a b)

-- a test gives no fault exactly if it holds
pub unless-zero : (test : Bool) (f : Fault) → (unless test f ≡ 0) ↔ (test ≡ true)
unless-zero true f = (λ _. refl, λ _. refl)
unless-zero false f = (λ e. absurd (omega (arith, number-positive f)), λ e. absurd (false≢true e))

-- two checks pass exactly if each does
pub and_then-zero : (a b : ℕ) → (and_then a b ≡ 0) ↔ ((a ≡ 0) × (b ≡ 0))
and_then-zero zero b = (λ h. (refl, h), λ h. h.1)
and_then-zero (suc a) b = (λ h. absurd (omega arith), λ h. absurd (omega arith))

-- n checks pass exactly if each does
pub first_of-zero : (check : ℕ → ℕ) (n : ℕ) → (first_of check n ≡ 0) ↔ ((i : ℕ) → i < n → check i ≡ 0)
unfolding first_of
first_of-zero check zero = (λ h i l. absurd (omega arith), λ h. refl)
first_of-zero check (suc n) =
    let (each, first) = first_of-zero check n in
    let (both, then) = and_then-zero (first_of check n) (check n) in (
      λ h i l. elim (ℕ_discrete i n) [ yes e ↦ rw e (both h).1 | no d ↦ each (both h).0 i (omega arith) ],
      λ h. then (first (λ i l. h i (omega arith)), h n (omega arith)),
    )

-- no check gives a number above n where the numbers of its words are not
pub unless_le : {n : ℕ} (test : Bool) (f : Fault) → fault_number f ≤ n → unless test f ≤ n
unless_le true f h = omega arith
unless_le false f h = h

pub and_then_le : {n a b : ℕ} → a ≤ n → b ≤ n → and_then a b ≤ n
and_then_le {a = zero} h l = l
and_then_le {a = suc a} h l = h

pub first_of_le : {n : ℕ} (check : ℕ → ℕ) → ((i : ℕ) → check i ≤ n) → (k : ℕ) → first_of check k ≤ n
unfolding first_of
first_of_le check h zero = omega arith
first_of_le check h (suc k) = and_then_le (first_of_le check h k) (h k)

-- a number that the first check never gives is the second's, where the first passes
pub and_then_later : (a b n : ℕ) → a < n → (and_then a b ≡ n) ↔ ((a ≡ 0) × (b ≡ n))
and_then_later zero b n l = (λ h. (refl, h), λ h. h.1)
and_then_later (suc a) b n l = (λ h. absurd (omega arith), λ h. absurd (omega arith))

-- a failing check decides
pub fails : (a b : ℕ) → 1 ≤ a → and_then a b ≡ a
fails zero b h = absurd (omega arith)
fails (suc a) b h = refl

-- ---- checks in order, as code asks them
-- A check is met by its answer, `match check(..) { Refused(f) => Refused(f), Done => .. }`, or by a test, `if !test { return Refused(f); } ..`.
-- What it gave is told by two facts, the contract of the call and the case that was met:
--     answer-passes d e, answer-refuses d e      the answer is Done; it is a refusal
--     test_passes f e d, test_refuses f e d      the test holds; it does not, and the fault is f
--     room-passes e d, room-refuses e d          the buffer has the stated length; it is too short
-- A return of the function is then what each check before it gave, `then` the check that decides, under `stop` where more would follow:
--     third c = test_passes .. then answer-passes .. then stop f _ (answer-refuses ..)
-- A loop over checks has `next-passes` and `first-fails` below, of what the check of its turn gave.

pub answer-passes : {A : Type 0} {r : Result A Fault} {x : A} {a : ℕ} → r ≡ Ok x → answer_number r ≡ a → 0 ≡ a
answer-passes d e = ap answer_number (sym d) ∙ e

pub answer-refuses : {A : Type 0} {r : Result A Fault} {a : ℕ} {f : Fault} → r ≡ Err f → answer_number r ≡ a → fault_number f ≡ a
answer-refuses d e = ap answer_number (sym d) ∙ e

pub test_passes : {test r : Bool} (f : Fault) → r ≡ test → not r ≡ false → 0 ≡ unless test f
test_passes {r = true} f e d = rw (← e)
test_passes {r = false} f e d = absurd (true≢false d)

pub test_refuses : {test r : Bool} (f : Fault) → r ≡ test → not r ≡ true → fault_number f ≡ unless test f
test_refuses {r = true} f e d = absurd (false≢true d)
test_refuses {r = false} f e d = rw (← e)

pub room-passes : {long stated room : ℕ} → long ≡ stated → long ≤ room → 0 ≡ room_fault stated room
unfolding room_fault
room-passes {long} {stated} {room} e d = rw (le-leb stated room (omega arith))

pub room-refuses : {long stated room : ℕ} → long ≡ stated → room < long → fault_number Fault.Short ≡ room_fault stated room
unfolding room_fault
room-refuses {long} {stated} {room} e d = rw (lt-leb stated room (omega arith))

infixr 5 ◌then◌
-- the first check passes: the second answers
pub ◌then◌ : {m a b : ℕ} → 0 ≡ a → m ≡ b → m ≡ and_then a b
z then e = rw (← z) e

-- the first check refuses with f: it decides
pub stop : {a : ℕ} (f : Fault) (b : ℕ) → fault_number f ≡ a → fault_number f ≡ and_then a b
stop {a} f b e = e ∙ sym (fails a b (rw e at (number-positive f)))

module _ (check : ℕ → ℕ) where
  -- the first n + 1 checks pass where the first n do and the next one does
  pub next-passes : (n : ℕ) → first_of check n ≡ 0 → check n ≡ 0 → first_of check (suc n) ≡ 0
  unfolding first_of
  next-passes n h e = rw h e

  -- the first of more checks is the first of n where one of those fails
  still_first : (k n : ℕ) → n ≤ k → 1 ≤ first_of check n → first_of check k ≡ first_of check n
  unfolding first_of
  still_first zero n h p = let z : n ≡ zero = omega arith in rw z
  still_first (suc k) n h p =
      let ih = still_first k n in
      elim (ℕ_discrete n (suc k)) [
        | yes y ↦ rw y
        | no d ↦ let e = ih (omega arith) p in fails (first_of check k) (check k) (omega arith) ∙ e
      ]

  -- the first that fails, after n that pass
  pub first-fails : (k n m : ℕ) → n < k → first_of check n ≡ 0 → m ≡ check n → 1 ≤ m → m ≡ first_of check k
  unfolding first_of
  first-fails k n m h z e p =
      let one : first_of check (suc n) ≡ check n = rw z in
      e ∙ sym one ∙ sym (still_first k (suc n) h (rw one (rw e at p)))

-- a list passes exactly if it has the length m
pub list-faultless : (m : ℕ) (list : List ℕ) → (list_fault m list ≡ 0) ↔ (length list ≡ m)
unfolding list_fault
list-faultless m list = (
  λ e. eqb-true (length list) m ((unless-zero (eqb (length list) m) Fault.Contact).0 e),
  λ e. (unless-zero (eqb (length list) m) Fault.Contact).1 (eq-eqb (length list) m e),
)
