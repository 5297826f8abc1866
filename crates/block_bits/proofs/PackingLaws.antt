-- Storing the lowest bits of many bytes, one after another: the number of a few of them, eight at a time, and the rest of them in the rest of
-- the program.
use mathlib.Core.Path.{◌≡◌, refl, sym, ap, ap₂, ◌∙◌}
use mathlib.Core.List.{List}
use Prim.Native.Nat.{ℕ, zero, suc, ◌+◌, ◌-◌, ◌*◌, ◌/◌, ◌%◌, ◌^◌, ◌≤◌, ◌<◌}
use native.Mathlib.Nat.{pow-suc, mul_assoc, suc-add, add-zero, zero-add, add_comm, sub_self, sub-zero, mod-eq_of_lt, mod-lt}
use native.Mathlib.Omega.{arith}
use borrow.Rule.Slice.PartMut.{mid_of, put_mid}
use lib.ListN.{length, get_or, set, drop, length-drop}
use lib.Dec.{eqb}
use lib.Seq.{take_all, get_or-drop}
use lib.Pow.{high}
use lib.Arith.{digits_div, digits_mod}
use lib.Bits.{bit_and, and_block, and_mask}
use Rattle.lists.specs.Lists.{list_of}
use Rattle.lists.specs.Counting.{one_if}
use Rattle.lists.proofs.ListsLaws.{list_of_ext, list_of-get_or}
use Rattle.block_elements.specs.Bits.{store_bits, AreBits, bits_held}
use Rattle.block_elements.proofs.BitsLaws.{AreBytes, bits-list_of, length-store_bits, store_bits-bytes}
use Rattle.block_bits.specs.Stores.{field_bits, low_bit, low_bits, number_of}
use Rattle.block_bits.proofs.StoreLaws.{store_next, store_bits-past, store_part}
use Rattle.block_bits.proofs.FieldLaws.{number_lt, number_ext, field_bits-number, store_byte}

-- bits are their own lowest bits
pub low_bits-same : (bs : List ℕ) → AreBits bs → low_bits bs ≡ bs
unfolding low_bits
low_bits-same bs h = list_of_ext (length bs) (low_bit bs) (λ i. get_or bs i 0) (λ i l. mod-eq_of_lt (h.each i)) ∙ list_of-get_or bs 0

pub low_lt : (l : List ℕ) (i : ℕ) → low_bit l i < 2
low_lt l i = mod-lt (get_or l i 0) (omega arith)

-- a bit is 1 where it is tested for it
pub one_if-bit : (b : ℕ) → b < 2 → one_if (eqb b 1) ≡ b
one_if-bit zero h = refl
one_if-bit (suc zero) h = refl
one_if-bit (suc (suc b)) h = absurd (omega arith)

-- ---- their number

pub number_empty : (f : ℕ → ℕ) (n : ℕ) → 0 ≡ number_of f (n - n)
unfolding number_of
number_empty f n = rw (sub_self n) refl

pub number-all : (f : ℕ → ℕ) {i : ℕ} (n : ℕ) → i ≡ 0 → number_of (λ j. f (i + j)) (n - i) ≡ number_of f n
number-all f n e = rw (e, sub-zero n) (number_ext n (λ j. ap f (zero-add j)))

-- the first m, and the others above them
number_append : (m n : ℕ) (f : ℕ → ℕ) → number_of f (m + n) ≡ number_of (λ j. f (m + j)) n * 2 ^ m + number_of f m
unfolding number_of
number_append zero n f = rw (zero-add n) (omega (arith, number_ext n (λ j. ap f (zero-add j))))
number_append (suc m) n f =
    let same = number_ext n (λ j. ap f (suc-add m j)) in
    let above = number_of (λ j. f (suc (m + j))) n in
    let p : above * 2 ^ suc m ≡ above * 2 ^ m * 2 = rw (pow-suc 2 m) (sym (mul_assoc above (2 ^ m) 2)) in
    rw (suc-add m n, same) (omega (arith, number_append m n (λ j. f (suc j)), p))

-- the first four and the last four
pub number_overlap : (f : ℕ → ℕ) (n : ℕ) {first last : ℕ} → ((j : ℕ) → f j < 2) → 4 ≤ n → n ≤ 8
    → first ≡ number_of f 4 → last ≡ number_of (λ j. f (n - 4 + j)) 4 → first + 16 * (last / 2 ^ (8 - n)) ≡ number_of f n
number_overlap f n {first} {last} h l room e₁ e₂ =
    let k = n - 4 in
    let a = 8 - n in
    let upper = number_of (λ j. f (4 + j)) k in
    let size : a + k ≡ 4 = omega arith in
    let whole : 4 + k ≡ n = omega arith in
    let same = number_ext k (λ j. ap f {x = k + (a + j)} {y = 4 + j} (omega arith)) in
    let cut : last / 2 ^ a ≡ upper =
    ap (λ v. v / 2 ^ a) (e₂ ∙ ap (number_of (λ j. f (k + j))) (sym size) ∙ number_append a k (λ j. f (k + j)))
    ∙ high _ a (number_lt a (λ j. h (k + j))) ∙ same in
    let joined : number_of f n ≡ upper * 2 ^ 4 + number_of f 4 = ap (number_of f) (sym whole) ∙ number_append 4 k f in
    rw (cut, e₁) (omega (arith, joined))

-- one bit more, below the others
module _ (f : ℕ → ℕ) (i n : ℕ) {x : ℕ} (some : 0 < i) (l : i ≤ n) (e : x ≡ number_of (λ j. f (i + j)) (n - i)) where
  pub number_more : 2 * x + f (i - 1) ≡ number_of (λ j. f (i - 1 + j)) (n - (i - 1))
  unfolding number_of
  number_more =
      let size : n - (i - 1) ≡ suc (n - i) = omega arith in
      let same : (j : ℕ) → f (i + j) ≡ f (i - 1 + suc j) = λ j. ap f (omega arith) in
      rw (size, e, number_ext (n - i) same) (add_comm _ _ ∙ ap (λ k. f k + 2 * number_of (λ j. f (i - 1 + suc j)) (n - i)) (sym (add-zero (i - 1))))

pub few_packed : (l : List ℕ) (x : ℕ) → length l ≤ bits_held 1 → x ≡ number_of (low_bit l) (length l) → field_bits (length l) x ≡ low_bits l
unfolding low_bits
few_packed l x room e = rw e (field_bits-number (length l) (length l) (low_lt l) (omega arith) room)

-- the first n of eight
pub first-bits : (l : List ℕ) (n : ℕ) {x : ℕ} → n ≤ 8 → x ≡ number_of (λ j. low_bit l (0 + j)) 8 → field_bits n x ≡ list_of n (low_bit l)
first-bits l n room e = rw (e, number_ext 8 (λ j. ap (low_bit l) (zero-add j))) (field_bits-number n 8 (low_lt l) room room)

-- ---- four bits by a product

mask_step : (h m r : ℕ) → r < 256 → bit_and (h * 256 + r) (m * 256 + 1) ≡ bit_and h m * 256 + r % 2
mask_step h m r l = and_block 8 h m r 1 l (omega arith) ∙ ap (λ y. bit_and h m * 256 + y) (and_mask r 1)

-- of the product's bits those at places 21 to 24 are p to s, and the others stand above and below
four-placed : (p q r s : ℕ) → p < 2 → q < 2 → r < 2 → s < 2
    → (((s * 256 + r) * 256 + q) * 256 + p) * 2113665 / 2097152 % 16 ≡ p + 2 * (q + 2 * (r + 2 * s))
four-placed p q r s hp hq hr hs =
    let above = q * 16 + r * 4128 + s * 1056832 in
    let four = p + 2 * (q + 2 * (r + 2 * s)) in
    let below = p * 16513 + q * 33024 + r * 65536 in
    let e : (((s * 256 + r) * 256 + q) * 256 + p) * 2113665 ≡ (above * 16 + four) * 2097152 + below = omega arith in
    let small : below < 2097152 = omega arith in
    let few : four < 16 = omega arith in
    rw e (ap (λ y. y % 16) (digits_div (above * 16 + four) small) ∙ digits_mod above few)

module _ (a b c d : ℕ) (ha : a < 256) (hb : b < 256) (hc : c < 256) where
  four-masked : bit_and (((d * 256 + c) * 256 + b) * 256 + a) 16843009 ≡ ((d % 2 * 256 + c % 2) * 256 + b % 2) * 256 + a % 2
  four-masked =
      mask_step ((d * 256 + c) * 256 + b) 65793 a ha
      ∙ ap (λ y. y * 256 + a % 2) (mask_step (d * 256 + c) 257 b hb
      ∙ ap (λ y. y * 256 + b % 2) (mask_step d 1 c hc ∙ ap (λ y. y * 256 + c % 2) (and_mask d 1)))

  pub four-joined : bit_and (((d * 256 + c) * 256 + b) * 256 + a) 16843009 * 2113665 / 2097152 % 16 ≡ a % 2 + 2 * (b % 2 + 2 * (c % 2 + 2 * (d % 2)))
  four-joined = rw four-masked (four-placed (a % 2) (b % 2) (c % 2) (d % 2) (omega arith) (omega arith) (omega arith) (omega arith))

-- ---- eight at a time

-- at most eight more, stored as their number, where i bits are those up to the count, and with n more they are k
pub field_next : (s₀ : List ℕ) {s s₁ : List ℕ} (p i n k : ℕ) {m x : ℕ} (f : ℕ → ℕ) → ((j : ℕ) → f j < 2) → n ≤ bits_held 1
    → s ≡ store_bits s₀ p (list_of m f) → m ≡ i → x ≡ number_of (λ j. f (i + j)) n → s₁ ≡ store_bits s (p + i) (field_bits n x) → i + n ≡ k
    → s₁ ≡ store_bits s₀ p (list_of k f)
field_next s₀ p i n k f h room held at made e size =
    rw (← size) (e ∙ rw (held, at, made, field_bits-number n n (λ j. h (i + j)) (omega arith) room) (store_next s₀ p i n f))

-- eight more, which are the next byte
pub byte_step : (s₀ : List ℕ) {s : List ℕ} (l : List ℕ) (i : ℕ) {v : ℕ} → AreBytes s₀ → i < length s₀
    → s ≡ store_bits s₀ 0 (list_of (bits_held i) (low_bit l)) → v ≡ number_of (λ j. low_bit l (bits_held i + j)) 8
    → set s i v ≡ store_bits s₀ 0 (list_of (bits_held (i + 1)) (low_bit l))
byte_step s₀ {s} l i {v} bytes room held e =
    let done = list_of (bits_held i) (low_bit l) in
    let eight = list_of 8 (λ j. low_bit l (bits_held i + j)) in
    let next : bits_held i + 8 ≡ bits_held (i + 1) = omega arith in
    let sound = store_bits-bytes s₀ 0 done (bits-list_of (bits_held i) (low_lt l)) bytes in
    ap₂ (λ t w. set t i w) held e
    ∙ sym (store_byte (store_bits s₀ 0 done) i sound (λ j. low_lt l (bits_held i + j)) (rw (length-store_bits s₀ 0 done) room))
    ∙ ap (λ p. store_bits (store_bits s₀ 0 done) p eight) (sym (zero-add (bits_held i)))
    ∙ store_next s₀ 0 (bits_held i) 8 (low_bit l) ∙ ap (λ k. store_bits s₀ 0 (list_of k (low_bit l))) next

-- ---- the first k and the others

rest-bits : (l : List ℕ) (k : ℕ) → low_bits (mid_of k (length l - k) l) ≡ list_of (length l - k) (λ j. low_bit l (k + j))
unfolding low_bits
rest-bits l k =
    let rest : mid_of k (length l - k) l ≡ drop k l = take_all (length l - k) (drop k l) (omega (arith, length-drop k l)) in
    rw (rest, length-drop k l) (list_of_ext (length l - k) (low_bit (drop k l)) (λ j. low_bit l (k + j)) (λ i m. ap (λ x. x % 2) (get_or-drop k l i 0)))

module _ (s l : List ℕ) (p k : ℕ) (h : k ≤ length l) where
  store_rest : store_bits (store_bits s p (list_of k (low_bit l))) (p + k) (low_bits (mid_of k (length l - k) l)) ≡ store_bits s p (low_bits l)
  unfolding low_bits
  store_rest =
      let size : k + (length l - k) ≡ length l = omega arith in
      ap (store_bits (store_bits s p (list_of k (low_bit l))) (p + k)) (rest-bits l k) ∙ store_next s p k (length l - k) (low_bit l)
      ∙ ap (λ n. store_bits s p (list_of n (low_bit l))) size

  -- the others in the bytes from byte w on
  pub store_parts : {s₁ part : List ℕ} (w : ℕ) → p + k ≡ bits_held w → w ≤ length s₁ → s₁ ≡ store_bits s p (list_of k (low_bit l))
      → part ≡ store_bits (mid_of w (length s₁ - w) s₁) 0 (low_bits (mid_of k (length l - k) l)) → put_mid w (length s₁ - w) s₁ part ≡ store_bits s p (low_bits l)
  store_parts {s₁} w at room e₁ e =
      let rest = low_bits (mid_of k (length l - k) l) in
      let begins : bits_held w + 0 ≡ p + k = omega arith in
      ap (put_mid w (length s₁ - w) s₁) e ∙ store_part s₁ w 0 rest room ∙ ap₂ (λ t q. store_bits t q rest) e₁ begins ∙ store_rest

  -- the others past the end
  pub store_full : bits_held (length s) ≤ p + k → store_bits s p (list_of k (low_bit l)) ≡ store_bits s p (low_bits l)
  store_full past =
      let first = store_bits s p (list_of k (low_bit l)) in
      sym (store_bits-past (low_bits (mid_of k (length l - k) l)) first (p + k) (rw (length-store_bits s p (list_of k (low_bit l))) past)) ∙ store_rest
