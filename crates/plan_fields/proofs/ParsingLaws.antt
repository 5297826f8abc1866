-- What a field gives where its value is allowed and where it is not, and reading n items by one more item at a time: a refusal stays the answer. Then what holds of a
-- step's value and cursor, or of its refusal's number, handed on from step to step.
use mathlib.Core.Path.{◌≡◌, refl}
use mathlib.Core.Bool.{Bool, true, false, cond}
use mathlib.Core.List.{List, [], ◌∷◌, ◌++◌}
use Prim.Native.Nat.{ℕ, zero, suc, ◌+◌, ◌-◌, ◌≤◌}
use native.Mathlib.Omega.{arith}
use native.Mathlib.Decide.{ℕ_discrete}
use borrow.Author.Tests.{le-ltb}
use lib.Dec.{ltb}
use lib.ListN.{length}
use Rattle.fault.specs.declared.Fault.{Fault}
use Rattle.plan_fields.specs.Parsing.{Parsed, got, refused, refuse, Step, followed, field, in_order}

-- v is the field's value, and r whether it is allowed
module _ (width : ℕ) (value : List ℕ → ℕ → ℕ) (allowed : ℕ → Bool) (f : Fault) (s : List ℕ) (at : ℕ) where
  -- the value is allowed
  pub field-got : {v : ℕ} {r : Bool} → v ≡ value s at → r ≡ allowed v → width ≤ length s - at → r ≡ true
      → got v (at + width) ≡ field width value allowed f s at
  unfolding field
  field-got e a h t = rw (le-ltb (length s - at) width h, ← e, ← a, t)

  -- the value is not allowed
  pub field-bad : {v : ℕ} {r : Bool} → v ≡ value s at → r ≡ allowed v → width ≤ length s - at → r ≡ false
      → refuse f at ≡ field width value allowed f s at
  unfolding field
  field-bad e a h t = rw (le-ltb (length s - at) width h, ← e, ← a, t)

  -- a value that was read is allowed, stands there, and the cursor is behind it
  pub field-read : {v next : ℕ} → got v next ≡ field width value allowed f s at → (allowed v ≡ true) × (v ≡ value s at) × (next ≡ at + width)
  unfolding field
  field-read {v} {next} = go (ltb (length s - at) width) (allowed (value s at)) refl
    where
      go : (short fine : Bool) → allowed (value s at) ≡ fine
          → got v next ≡ cond short (refuse Fault.Cut at) (cond fine (got (value s at) (at + width)) (refuse f at))
          → (allowed v ≡ true) × (v ≡ value s at) × (next ≡ at + width)
      go true fine a e = let z : ◌≡◌ {A = ℕ} 0 1 = cc in absurd (omega arith)
      go false true a e = let same : v ≡ value s at = cc in (rw same a, same, cc)
      go false false a e = let z : ◌≡◌ {A = ℕ} 0 1 = cc in absurd (omega arith)

-- what was read by a step and then the next: what each of them read
pub both_read : {A B : Type 0} (f : A → Step B) (s : List ℕ) (o : Parsed A) {b : B} {next : ℕ} → followed f s o ≡ got b next
    → (a : A) × (mid : ℕ) × (o ≡ got a mid) × (f a s mid ≡ got b next)
both_read f s (got a mid) e = (a, mid, refl, e)
both_read f s (refused n at) e = let z : ◌≡◌ {A = ℕ} 0 1 = cc in absurd (omega arith)

module _ {A : Type 0} (item : ℕ → Step A) (s : List ℕ) (at : ℕ) where
  -- one item more
  pub item-got : (n : ℕ) (xs : List A) (x : A) (a b : ℕ)
      → in_order item n s at ≡ got xs a → item n s a ≡ got x b → in_order item (suc n) s at ≡ got (xs ++ (x ∷ [])) b
  unfolding in_order
  item-got n xs x a b h e = rw (h, e)

  -- the next item is refused
  pub item_refused : (n : ℕ) (xs : List A) (a m o : ℕ)
      → in_order item n s at ≡ got xs a → item n s a ≡ refused m o → in_order item (suc n) s at ≡ refused m o
  unfolding in_order
  item_refused n xs a m o h e = rw (h, e)

  -- a refusal of the first n items is the answer for any more
  pub still_refused : (k n m o : ℕ) → n ≤ k → in_order item n s at ≡ refused m o → in_order item k s at ≡ refused m o
  unfolding in_order
  still_refused zero n m o h e = let z : n ≡ zero = omega arith in rw z at e
  still_refused (suc k) n m o h e =
      let ih = still_refused k n m o in
      elim (ℕ_discrete n (suc k)) [
        | yes y ↦ rw y at e
        | no d ↦ rw (ih (omega arith) e)
      ]

-- what was parsed: P holds of the value and the next cursor, or R of the refusal's number
pub data ParsedAs {A : Type 0} (P : A → ℕ → Type 0) (R : ℕ → Type 0) : Parsed A → Type 0 where
  gives : {a : A} {next : ℕ} → P a next → ParsedAs P R (got a next)
  refuses : {n at : ℕ} → R n → ParsedAs P R (refused n at)

-- what holds of a step's value and cursor serves the next step
pub gives_then : {A B : Type 0} {P : A → ℕ → Type 0} {Q : B → ℕ → Type 0} {R : ℕ → Type 0} (f : A → Step B) (s : List ℕ) {o : Parsed A}
    → ParsedAs P R o → ((a : A) (next : ℕ) → P a next → ParsedAs Q R (f a s next)) → ParsedAs Q R (followed f s o)
gives_then f s (gives h) k = k _ _ h
gives_then f s (refuses h) k = refuses h

-- what follows from what holds of the value and the cursor
pub gives_also : {A : Type 0} {P Q : A → ℕ → Type 0} {R : ℕ → Type 0} {o : Parsed A} → ((a : A) (next : ℕ) → P a next → Q a next)
    → ParsedAs P R o → ParsedAs Q R o
gives_also k (gives h) = gives (k _ _ h)
gives_also k (refuses h) = refuses h
