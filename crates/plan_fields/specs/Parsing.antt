-- Document 01, "The plan": "Each reading step takes the file and a cursor and hands back the next cursor", or says which fault and the
-- byte offset where the faulty field begins or would begin.
use Rattle.std.specs.Prelude.{ℕ, zero, suc, ◌+◌, ◌-◌, ◌*◌, Bool, cond, List, [], ◌∷◌, ◌++◌, ltb, length, get_or}
use Rattle.fault.specs.Number.{fault_number}
use Rattle.fault.specs.declared.Fault.{Fault}

-- the value with the next cursor; or the refusal's number and its offset
pub data Parsed (A : Type 0) : Type 0 where
  got : A → ℕ → Parsed A
  refused : ℕ → ℕ → Parsed A

-- a reading step, of the file and the cursor
abbrev pub Step : Type 0 → Type 0
Step A = List ℕ → ℕ → Parsed A

-- a refusal with the fault's number
abbrev pub refuse : {A : Type 0} → Fault → ℕ → Parsed A
refuse f at = refused (fault_number f) at

-- what was parsed is handed to the next step, unless it was refused
abbrev pub followed : {A B : Type 0} → (A → Step B) → List ℕ → Parsed A → Parsed B
followed f s (got a at) = f a s at
followed f s (refused n at) = refused n at

infixl 20 ◌>>=◌
-- a step and then the next, from the cursor it hands back
abbrev pub ◌>>=◌ : {A B : Type 0} → Step A → (A → Step B) → Step B
(step >>= f) s at = followed f s (step s at)

-- nothing is read
abbrev pub pure : {A : Type 0} → A → Step A
pure a s at = got a at

-- a two-byte number, low byte first
abbrev pub word_at : List ℕ → ℕ → ℕ
word_at s at = get_or s at 0 + 256 * get_or s (at + 1) 0

-- a one-byte number
abbrev pub byte_at : List ℕ → ℕ → ℕ
byte_at s at = get_or s at 0

-- `width` bytes that the file holds whole: 5 where it ends inside or before them
abbrev pub uncut : ℕ → (List ℕ → ℕ → ℕ) → Step ℕ
uncut width value s at = cond (ltb (length s - at) width) (refuse Fault.Cut at) (got (value s at) (at + width))

-- a field of `width` bytes: 5 where the file ends inside or before it, then the field's own fault where its value is not allowed
unfoldable pub field : ℕ → (List ℕ → ℕ → ℕ) → (ℕ → Bool) → Fault → Step ℕ
field width value allowed f s at =
    cond (ltb (length s - at) width)
    (refuse Fault.Cut at)
    (cond (allowed (value s at)) (got (value s at) (at + width)) (refuse f at))

-- a field if it stands, its default if it is absent
abbrev pub standing : {A : Type 0} → Bool → Step A → A → Step A
standing stands step default = cond stands step (pure default)

-- n items one after another, counted from 0
unfoldable pub in_order : {A : Type 0} → (ℕ → Step A) → ℕ → Step (List A)
in_order item zero = pure []
in_order item (suc n) = in_order item n >>= λ before. item n >>= λ x. pure (before ++ (x ∷ []))
