-- Laws of reading steps. Where bytes stand at the cursor, a step reads the value that they were written for. Where a step gives a value,
-- that value's bytes stand there; where it refuses, the number is not 0. Fields first, then items in order by one induction.
use Prim.Native.Nat.{ℕ, zero, suc, ◌+◌, ◌-◌, ◌/◌, ◌%◌, ◌≤◌, ◌<◌}
use native.Mathlib.Nat.{add-zero}
use native.Mathlib.Numerals.{add-one, add-two}
use native.Mathlib.Omega.{arith}
use native.Mathlib.Decide.{ℕ_discrete}
use mathlib.Core.Path.{◌≡◌, refl, ap, ap₂}
use mathlib.Core.Bool.{Bool, true, false, true≢false}
use mathlib.Core.List.{List, [], ◌∷◌, ◌++◌, append_assoc, append-nil}
use lib.Dec.{ltb, lit≤}
use lib.ListN.{length, get_or, drop, length-append, length-drop, drop_of_length-le, get_or-append}
use lib.Seq.{drop-length, drop-drop, drop-append_seam, drop-cons, get_or-drop, get_or_at}
use borrow.Author.Tests.{ltb-false, le-ltb}
use Rattle.lists.specs.Lists.{list_of}
use Rattle.fault.specs.declared.Fault.{Fault}
use Rattle.fault.proofs.ChecksLaws.{number-positive}
use Rattle.plan_fields.specs.Parsing.{Parsed, got, Step, ◌>>=◌, pure, field, word_at, byte_at, standing, in_order}
use Rattle.plan_fields.proofs.ParsingLaws.{ParsedAs, gives, refuses, gives_then, gives_also}
use Rattle.plan_files.specs.Encoding.{byte, word, joined_bytes, where_standing, OfBytes}
use Rattle.plan_files.proofs.ListLaws.{joined_same}

-- the bytes e stand in s from the cursor `at` to the cursor `next`
pub record BytesStand (s : List ℕ) (at : ℕ) (e : List ℕ) (next : ℕ) : Type 0 where
  pub ends : next ≡ at + length e
  pub bytes : drop at s ≡ e ++ drop next s

module _ {s : List ℕ} where
  -- bytes and then bytes
  pub stands-append : {e f : List ℕ} {a b c : ℕ} → BytesStand s a e b → BytesStand s b f c → BytesStand s a (e ++ f) c
  stands-append {e} {f} {a} {b} {c} x y = record {
    ends = simp length-append (omega arith);
    bytes = cc (append_assoc e f (drop c s));
  }

  -- what is left behind the first of two parts
  rest-stands : (e f : List ℕ) {a c : ℕ} → BytesStand s a (e ++ f) c → drop (a + length e) s ≡ f ++ drop c s
  rest-stands e f {a} {c} x = cc (drop-drop (length e) a s, append_assoc e f (drop c s), drop-append_seam e (f ++ drop c s))

  -- two parts, and the cursor between them
  pub stands_split : (e f : List ℕ) {a c : ℕ} → BytesStand s a (e ++ f) c → (b : ℕ) × BytesStand s a e b × BytesStand s b f c
  stands_split e f {a} {c} x = (
    a + length e,
    record { ends = refl; bytes = cc (append_assoc e f (drop c s), rest-stands e f x) },
    record { ends = omega (arith, x.ends, length-append e f); bytes = rest-stands e f x },
  )

  -- no bytes stand anywhere
  pub nothing-stands : {a : ℕ} → BytesStand s a [] a
  nothing-stands = record { ends = omega arith; bytes = refl }

  -- a whole file stands from 0 to its end
  pub whole-stands : BytesStand s 0 s (length s)
  whole-stands = record { ends = omega arith; bytes = cc (drop-length s, append-nil s) }

  -- what stands from 0 to the end is the whole file
  pub stands-to_end : {e : List ℕ} {next : ℕ} → BytesStand s 0 e next → length s ≤ next → s ≡ e
  stands-to_end {e} {next} x h = cc (drop_of_length-le s h, append-nil e)

  -- there is room for what stands
  pub stands-length : {e : List ℕ} {a c : ℕ} → BytesStand s a e c → length e ≤ length s - a
  stands-length {e} {a} {c} x = omega (arith, ap length x.bytes, length-drop a s, length-append e (drop c s))

  -- a byte of what stands
  pub stands_at : {e : List ℕ} {a c : ℕ} (i : ℕ) → BytesStand s a e c → i < length e → get_or s (a + i) 0 ≡ get_or e i 0
  stands_at {e} {a} {c} i x h = cc (get_or-drop a s i 0, get_or-append e (drop c s) 0 i h)

-- what reading gave: P holds of the value and the next cursor, or the refusal's number is not 0
abbrev pub GivesParsed : {A : Type 0} → (A → ℕ → Type 0) → Parsed A → Type 0
GivesParsed P = ParsedAs P (λ n. 1 ≤ n)

-- by the two cases of a test
pub by_test : {T : Type 0} (b : Bool) → (b ≡ true → T) → (b ≡ false → T) → T
by_test true h k = h refl
by_test false h k = k refl

-- the number that `value` finds at a cursor is the one whose `width` bytes stand there
pub record Coded (width : ℕ) (value : List ℕ → ℕ → ℕ) (bytes : ℕ → List ℕ) : Type 0 where
  pub long : (w : ℕ) → length (bytes w) ≡ width
  pub reads : (s : List ℕ) (at next w : ℕ) → BytesStand s at (bytes w) next → value s at ≡ w
  pub writes : (s : List ℕ) (at : ℕ) → OfBytes s → width ≤ length s - at → BytesStand s at (bytes (value s at)) (at + width)

-- one-byte numbers
pub byte_coded : Coded 1 byte_at byte
byte_coded = record {
  long = λ w. refl;
  reads = λ s at next w x. cc (stands_at 0 x (lit≤ tt), add-zero at);
  writes = λ s at small h. record { ends = refl; bytes = rw (add-one at) (drop-cons s at 0 (omega arith)) };
}

-- two-byte numbers
pub word_coded : Coded 2 word_at word
word_coded = record {
  long = λ w. refl;
  reads = λ s at next w x.
      omega (arith, stands_at 0 x (lit≤ tt), stands_at 1 x (lit≤ tt), ap (λ (i : ℕ). get_or s i 0) (add-zero at));
  writes = λ s at small h.
      let low : word_at s at % 256 ≡ get_or s at 0 = omega (arith, small at, small (at + 1)) in
      let high : word_at s at / 256 ≡ get_or s (at + 1) 0 = omega (arith, small at, small (at + 1)) in
      record {
        ends = refl;
        bytes = cc (low, high, add-one at, add-two at, drop-cons s at 0 (omega arith), drop-cons s (suc at) 0 (omega arith));
      };
}

module _
    {width : ℕ} {value : List ℕ → ℕ → ℕ} {bytes : ℕ → List ℕ} (c : Coded width value bytes)
    (s : List ℕ) (allowed : ℕ → Bool) (f : Fault) where
  -- a field's number is read where its bytes stand
  pub field-reads : (at next w : ℕ) → BytesStand s at (bytes w) next → allowed w ≡ true → field width value allowed f s at ≡ got w next
  unfolding field
  field-reads at next w x h =
      let v : value s at ≡ w = c.reads s at next w x in
      let e : next ≡ at + width = omega (arith, x.ends, c.long w) in
      rw (le-ltb (length s - at) width (omega (arith, stands-length x, c.long w)), v, h, e)

  -- what a field gives is allowed and stands
  pub field-gives : (at : ℕ) → OfBytes s
      → GivesParsed (λ w next. (allowed w ≡ true) × BytesStand s at (bytes w) next) (field width value allowed f s at)
  unfolding field
  field-gives at small =
      by_test (ltb (length s - at) width)
      (λ cut. rw cut (refuses (lit≤ tt)))
      (λ enough. rw enough (by_test (allowed (value s at))
      (λ h. rw h (gives (h, c.writes s at small (ltb-false (length s - at) width enough))))
      (λ h. rw h (refuses (number-positive f)))))

  -- a field that stands, or is left out and equals its default, is read
  pub standing-reads : (stands : Bool) (default at next w : ℕ) → BytesStand s at (where_standing stands (bytes w)) next
      → allowed w ≡ true → (stands ≡ false → w ≡ default) → standing stands (field width value allowed f) default s at ≡ got w next
  standing-reads true default at next w x h e = field-reads at next w x h
  standing-reads false default at next w x h e = let same : next ≡ at = omega (arith, x.ends) in cc (e refl)

  -- what a field gives that stands or has an allowed default
  pub standing-gives : (stands : Bool) (default at : ℕ) → OfBytes s → allowed default ≡ true
      → GivesParsed (λ w next. (stands ≡ false → w ≡ default) × (allowed w ≡ true) × BytesStand s at (where_standing stands (bytes w)) next)
      (standing stands (field width value allowed f) default s at)
  standing-gives true default at small h = gives_also (λ w next x. (λ e. absurd (true≢false e), x.0, x.1)) (field-gives at small)
  standing-gives false default at small h = gives (λ _. refl, h, nothing-stands)

-- items whose bytes stand one after another are read in order
pub in_order-reads : {A : Type 0} (s : List ℕ) (item : ℕ → Step A) (x : ℕ → A) (e : ℕ → List ℕ) (n : ℕ)
    → ((i at next : ℕ) → i < n → BytesStand s at (e i) next → item i s at ≡ got (x i) next)
    → (at next : ℕ) → BytesStand s at (joined_bytes n e) next → in_order item n s at ≡ got (list_of n x) next
unfolding joined_bytes in_order list_of
in_order-reads s item x e zero each at next st = let h : next ≡ at = omega (arith, st.ends) in cc
in_order-reads s item x e (suc n) each at next st =
    let (mid, before, last) = stands_split (joined_bytes n e) (e n) st in
    rw (in_order-reads s item x e n (λ i a b h. each i a b (omega arith)) at mid before, each n mid next (omega arith) last)

-- n items: Q holds of each, its number and a choice, and the bytes of these choices and items stand one after another
pub record Items {A : Type 0} (Q : ℕ → ℕ → A → Type 0) (bytes : ℕ → A → List ℕ) (none : A)
    (s : List ℕ) (at n : ℕ) (xs : List A) (next : ℕ) : Type 0 where
  pub choices : List ℕ
  pub chosen : length choices ≡ n
  pub count : length xs ≡ n
  pub each : (i : ℕ) → i < n → Q i (get_or choices i 0) (get_or xs i none)
  pub stands : BytesStand s at (joined_bytes n (λ i. bytes (get_or choices i 0) (get_or xs i none))) next

module _ {A : Type 0} (Q : ℕ → ℕ → A → Type 0) (bytes : ℕ → A → List ℕ) (none : A) (s : List ℕ) where
  -- no items
  items-none : (at : ℕ) → Items Q bytes none s at 0 [] at
  unfolding joined_bytes
  items-none at = record {
    choices = [];
    chosen = refl;
    count = refl;
    each = λ i h. absurd (omega arith);
    stands = nothing-stands;
  }

  -- one item more
  items_more : (at n : ℕ) (xs : List A) (mid : ℕ) → Items Q bytes none s at n xs mid → (c : ℕ) (x : A) (next : ℕ)
      → Q n c x → BytesStand s mid (bytes c x) next → Items Q bytes none s at (suc n) (xs ++ (x ∷ [])) next
  unfolding joined_bytes
  items_more at n xs mid old c x next q st = record {
    choices = old.choices ++ (c ∷ []);
    chosen = simp length-append (omega arith);
    count = simp length-append (omega arith);
    each = λ i h. elim (ℕ_discrete i n) [
      | yes e ↦ rw (e, last-choice, last-item) q
      | no d ↦ rw (choice i (omega arith), item i (omega arith)) (old.each i (omega arith))
    ];
    stands = rw (last-choice, last-item, joined_same _ _ n (λ i h. ap₂ bytes (choice i h) (item i h))) (stands-append old.stands st);
  }
    where
      last-choice : get_or (old.choices ++ (c ∷ [])) n 0 ≡ c
      last-choice = get_or_at old.choices c [] 0 n old.chosen

      last-item : get_or (xs ++ (x ∷ [])) n none ≡ x
      last-item = get_or_at xs x [] none n old.count

      choice : (i : ℕ) → i < n → get_or (old.choices ++ (c ∷ [])) i 0 ≡ get_or old.choices i 0
      choice i h = get_or-append old.choices (c ∷ []) 0 i (omega arith)

      item : (i : ℕ) → i < n → get_or (xs ++ (x ∷ [])) i none ≡ get_or xs i none
      item i h = get_or-append xs (x ∷ []) none i (omega arith)

  -- what items in order give, if each gives what Q holds of and what stands
  pub in_order-gives : (item : ℕ → Step A) (n : ℕ)
      → ((i at : ℕ) → i < n → GivesParsed (λ x next. (c : ℕ) × Q i c x × BytesStand s at (bytes c x) next) (item i s at))
      → (at : ℕ) → GivesParsed (Items Q bytes none s at n) (in_order item n s at)
  unfolding in_order
  in_order-gives item zero each at = gives (items-none at)
  in_order-gives item (suc n) each at =
      gives_then (λ xs. item n >>= λ x. pure (xs ++ (x ∷ []))) s (in_order-gives item n (λ i a h. each i a (omega arith)) at) λ xs mid old.
      gives_then (λ x. pure (xs ++ (x ∷ []))) s (each n mid (omega arith)) λ x next new.
      gives (items_more at n xs mid old new.0 x next new.1 new.2)
