-- Lists of items: their bytes one after another, the values listed, and the values in places of which the others hold `none`.
use Prim.Native.Nat.{ℕ, zero, suc, ◌+◌, ◌*◌, ◌≤◌, ◌<◌}
use native.Mathlib.Numerals.{add-one}
use native.Mathlib.Decide.{ℕ_discrete}
use native.Mathlib.Omega.{arith}
use mathlib.Core.Path.{◌≡◌, refl, ◌∙◌}
use mathlib.Core.List.{List, [], ◌++◌, append_assoc, append-nil}
use lib.ListN.{length, get_or, take, length-append}
use lib.Seq.{take-suc, take-length}
use Rattle.lists.specs.Lists.{list_of}
use Rattle.plan.specs.Record.{places}
use Rattle.plan.proofs.RecordLaws.{get_or-places}
use Rattle.plan_files.specs.Encoding.{joined_bytes}

-- equal bytes of each item
pub joined_same : (f g : ℕ → List ℕ) (n : ℕ) → ((i : ℕ) → i < n → f i ≡ g i) → joined_bytes n f ≡ joined_bytes n g
unfolding joined_bytes
joined_same f g zero h = refl
joined_same f g (suc n) h = cc (joined_same f g n (λ i l. h i (omega arith)), h n (omega arith))

-- c bytes for each item
pub joined_length : (f : ℕ → List ℕ) (c n : ℕ) → ((i : ℕ) → length (f i) ≡ c) → length (joined_bytes n f) ≡ n * c
unfolding joined_bytes
joined_length f c zero h = omega arith
joined_length f c (suc n) h = simp length-append (omega (arith, joined_length f c n h, h n))

-- no more bytes for each item
pub joined_shorter : (f g : ℕ → List ℕ) (n : ℕ) → ((i : ℕ) → i < n → length (f i) ≤ length (g i))
    → length (joined_bytes n f) ≤ length (joined_bytes n g)
unfolding joined_bytes
joined_shorter f g zero h = omega arith
joined_shorter f g (suc n) h = simp length-append (omega (arith, joined_shorter f g n (λ i l. h i (omega arith)), h n (omega arith)))

-- one item more
pub joined-more : (f : ℕ → List ℕ) (i : ℕ) → joined_bytes i f ++ f i ≡ joined_bytes (i + 1) f
unfolding joined_bytes
joined-more f i = rw (add-one i)

-- the items before item i, item i, and those behind it
pub joined_split : (f : ℕ → List ℕ) (n i : ℕ) → i < n → (rest : List ℕ) × (joined_bytes n f ≡ joined_bytes i f ++ (f i ++ rest))
unfolding joined_bytes
joined_split f zero i h = absurd (omega arith)
joined_split f (suc n) i h =
    let before = joined_split f n i in
    elim (ℕ_discrete i n) [
      | yes e ↦ ([], rw (e, append-nil))
      | no d ↦
          let (rest, same) = before (omega arith) in
          (rest ++ f n, rw (same, append_assoc (joined_bytes i f) (f i ++ rest) (f n), append_assoc (f i) rest (f n)))
    ]

-- the first n values, listed
pub listed : {A : Type 0} (none : A) (xs : List A) (n : ℕ) → n ≤ length xs → list_of n (λ i. get_or xs i none) ≡ take n xs
unfolding list_of
listed none xs zero h = refl
listed none xs (suc n) h = cc (listed none xs n (omega arith), take-suc xs n none h)

-- the used places, listed, are the values
pub used-places : {A : Type 0} (m : ℕ) (none : A) (xs : List A) (n : ℕ) → length xs ≡ n
    → list_of n (λ i. get_or (places m none xs) i none) ≡ xs
used-places m none xs n h = simp get_or-places (listed none xs n (omega arith) ∙ rw (← h, take-length xs))
