-- Several bits stored at once. Stored one after another they leave two bytes, taken as one number, with their own number in their place; eight
-- bits from the border of a byte on are the new byte.
use mathlib.Core.Path.{◌≡◌, refl, sym, ap, ap₂, ◌∙◌}
use mathlib.Core.List.{List}
use Prim.Native.Nat.{ℕ, zero, suc, ◌+◌, ◌-◌, ◌*◌, ◌/◌, ◌%◌, ◌^◌, ◌≤◌, ◌<◌, min}
use native.Mathlib.Nat.{not-suc-le-zero, le_of_suc-le-suc, mul-add-div_right, mul-add-mod_self_right, add_comm, one-mul, pow-suc, mod-lt, mul_assoc, add-zero, suc-add, zero-add}
use native.Mathlib.Numerals.{add-one, one-add}
use native.Mathlib.Decide.{dec_lt}
use native.Mathlib.Omega.{arith}
use lib.ListN.{length, get_or, set, length-set, get_or-eq_default}
use lib.Seq.{get_or-set_same, get_or-set_other, set-set, set_comm, set_out, set-get_or}
use lib.Pow.{pow_pos, pow-add, shr-shr, shr_lt, shl_exact, high, low, split, mod-pow-add}
use lib.Arith.{digits_lt}
use lib.Bits.{bit_and, and_mask}
use Rattle.lists.specs.Lists.{list_of}
use Rattle.lists.proofs.ListsLaws.{list_of_ext}
use Rattle.block_elements.specs.Bits.{bit_byte, bit_place, bit_of, with_bit, set_bit, store_bits, bits_held}
use Rattle.block_elements.proofs.BitsLaws.{AreBytes}
use Rattle.block_bits.specs.Stores.{field_bits, number_of, with_field, two_bytes, put_two_bytes}
use Rattle.block_bits.proofs.StoreLaws.{store_more}

-- ---- the number of some bits

number-last : (n : ℕ) (f : ℕ → ℕ) → number_of f (suc n) ≡ f n * 2 ^ n + number_of f n
unfolding number_of
number-last zero f = omega arith
number-last (suc n) f =
    let p : f (suc n) * 2 ^ suc n ≡ f (suc n) * 2 ^ n * 2 = rw (pow-suc 2 n) (sym (mul_assoc (f (suc n)) (2 ^ n) 2)) in
    omega (arith, number-last n (λ i. f (suc i)), p)

pub number_lt : (n : ℕ) {f : ℕ → ℕ} → ((i : ℕ) → f i < 2) → number_of f n < 2 ^ n
unfolding number_of
number_lt zero h = omega arith
number_lt (suc n) {f} h = omega (arith, number_lt n (λ i. h (suc i)), h 0, pow-suc 2 n)

pub number_ext : (n : ℕ) {f g : ℕ → ℕ} → ((i : ℕ) → f i ≡ g i) → number_of f n ≡ number_of g n
unfolding number_of
number_ext zero e = refl
number_ext (suc n) e = ap₂ (λ b v. b + 2 * v) (e 0) (number_ext n (λ i. e (suc i)))

-- its bits are those that it is made of
number_bit : (n i : ℕ) {f : ℕ → ℕ} → ((j : ℕ) → f j < 2) → i < n → bit_of i (number_of f n) ≡ f i
unfolding number_of
number_bit zero i h l = absurd (not-suc-le-zero l)
number_bit (suc n) zero h l = omega (arith, h 0)
number_bit (suc n) (suc i) {f} h l =
    let v = number_of (λ j. f (suc j)) n in
    let half : (f 0 + 2 * v) / 2 ≡ v = omega (arith, h 0) in
    ap (λ w. w % 2) (ap (λ j. (f 0 + 2 * v) / 2 ^ j) (sym (one-add i)) ∙ sym (shr-shr (f 0 + 2 * v) 1 i) ∙ ap (λ w. w / 2 ^ i) half)
    ∙ number_bit n i (λ j. h (suc j)) (le_of_suc-le-suc l)

-- the first of the bits that a number is made of
pub field_bits-number : (n m : ℕ) {f : ℕ → ℕ} → ((j : ℕ) → f j < 2) → n ≤ m → n ≤ bits_held 1 → field_bits n (number_of f m) ≡ list_of n f
unfolding field_bits
field_bits-number n m {f} h l room =
    let e : min n 8 ≡ n = omega arith in
    rw e (list_of_ext n (λ i. bit_of i (number_of f m)) f (λ i k. number_bit m i h (omega arith)))

-- the lowest bits of x are the number of its bits
pub number-bits : (n x : ℕ) → number_of (λ i. bit_of i x) n ≡ x % 2 ^ n
unfolding number_of
number-bits zero x = omega arith
number-bits (suc n) x =
    number-last n (λ i. bit_of i x) ∙ ap (λ v. bit_of n x * 2 ^ n + v) (number-bits n x) ∙ sym (mod-pow-add x 1 n) ∙ ap (λ k. x % 2 ^ k) (one-add n)

-- ---- a number in its place

field_under : (k n v x : ℕ) → v < 2 ^ n → v * 2 ^ k + x % 2 ^ k < 2 ^ (n + k)
field_under k n v x h = rw (pow-add 2 n k) (digits_lt h (mod-lt x (pow_pos k)))

-- above n bits, v, and what lies below
field_split : (k n v x : ℕ) → with_field k n v x ≡ x / 2 ^ (n + k) * 2 ^ (n + k) + (v * 2 ^ k + x % 2 ^ k)
field_split k n v x = rw (pow-add 2 n k) (omega (arith, mul_assoc (x / (2 ^ n * 2 ^ k)) (2 ^ n) (2 ^ k)))

halved : (k x : ℕ) → x / 2 ^ suc k ≡ x / 2 ^ k / 2
halved k x = ap (λ j. x / 2 ^ j) (sym (add-one k)) ∙ sym (shr-shr x k 1)

-- one bit more, above them
field-more : (k n v b x : ℕ) → v < 2 ^ n → with_bit (n + k) b (with_field k n v x) ≡ with_field k (suc n) (b * 2 ^ n + v) x
field-more k n v b x h =
    let A = x / 2 ^ (n + k) in
    let L = v * 2 ^ k + x % 2 ^ k in
    let small = field_under k n v x h in
    ap (with_bit (n + k) b) (field_split k n v x)
    ∙ ap₂ (λ p q. (p / 2 * 2 + b) * 2 ^ (n + k) + q) (high A (n + k) small) (low A (n + k) small)
    ∙ rw (suc-add n k, halved (n + k) x, pow-suc 2 n) (joined (A / 2) (2 ^ (n + k)) (2 ^ n) (2 ^ k) (pow-add 2 n k))
  where
    joined : (H P N K : ℕ) → P ≡ N * K → (H * 2 + b) * P + (v * K + x % K) ≡ (H * (N * 2) + (b * N + v)) * K + x % K
    joined H P N K e = rw e (omega arith)

-- no bit
field-none : (k x : ℕ) → with_field k 0 0 x ≡ x
field-none k x = field_split k 0 0 x ∙ rw (zero-add k) (omega (arith, split x k))

-- a field within the lowest w bits leaves no others
field_lt : (w k n v x : ℕ) → n + k ≤ w → v < 2 ^ n → x < 2 ^ w → with_field k n v x < 2 ^ w
field_lt w k n v x room hv hx =
    let m = w - (n + k) in
    let e : m + (n + k) ≡ w = omega arith in
    let above : x / 2 ^ (n + k) < 2 ^ m = shr_lt m (n + k) (rw e hx) in
    let whole : 2 ^ m * 2 ^ n * 2 ^ k ≡ 2 ^ w =
    mul_assoc (2 ^ m) (2 ^ n) (2 ^ k) ∙ sym (ap (λ q. 2 ^ m * q) (pow-add 2 n k)) ∙ sym (pow-add 2 m (n + k)) ∙ ap (λ j. 2 ^ j) e in
    rw whole at (digits_lt (digits_lt above hv) (mod-lt x (pow_pos k)))

-- the bits above a field, in it and below
field-parts : (k n x : ℕ) → x ≡ (x / 2 ^ (n + k) * 2 ^ n + x / 2 ^ k % 2 ^ n) * 2 ^ k + x % 2 ^ k
field-parts k n x =
    let above : x / 2 ^ (n + k) ≡ x / 2 ^ k / 2 ^ n = ap (λ j. x / 2 ^ j) (add_comm n k) ∙ sym (shr-shr x k n) in
    rw above (sym (ap (λ q. q * 2 ^ k + x % 2 ^ k) (split (x / 2 ^ k) n) ∙ split x k))

-- a field of two bytes by shift and mask, as code makes it
module _ (k n : ℕ) (room : n + k < 16) where
  one_shifted : 1 * 2 ^ n % 2 ^ 16 ≡ 2 ^ n
  one_shifted = shl_exact {a = 1} 1 n 16 (omega arith) (omega arith) ∙ one-mul (2 ^ n)

  masked-shifted : (y : ℕ) → bit_and y (1 * 2 ^ n % 2 ^ 16 - 1) * 2 ^ k % 2 ^ 16 ≡ y % 2 ^ n * 2 ^ k
  masked-shifted y = rw (one_shifted, and_mask y n) (shl_exact n k 16 (mod-lt y (pow_pos n)) (omega arith))

  module _ (x old : ℕ) where
    pub field_out : bit_and (old / 2 ^ k) (1 * 2 ^ n % 2 ^ 16 - 1) * 2 ^ k % 2 ^ 16 ≤ old
    field_out = rw (masked-shifted (old / 2 ^ k)) (omega (arith, field-parts k n old))

    pub field_in : old - bit_and (old / 2 ^ k) (1 * 2 ^ n % 2 ^ 16 - 1) * 2 ^ k % 2 ^ 16 + bit_and x (1 * 2 ^ n % 2 ^ 16 - 1) * 2 ^ k % 2 ^ 16
        ≡ with_field k n (x % 2 ^ n) old
    field_in = rw (masked-shifted (old / 2 ^ k), masked-shifted x) (omega (arith, field-parts k n old))

    pub field-small : old < 2 ^ 16
        → old - bit_and (old / 2 ^ k) (1 * 2 ^ n % 2 ^ 16 - 1) * 2 ^ k % 2 ^ 16 + bit_and x (1 * 2 ^ n % 2 ^ 16 - 1) * 2 ^ k % 2 ^ 16 < 2 ^ 16
    field-small h = rw field_in (field_lt 16 k n (x % 2 ^ n) old (omega arith) (mod-lt x (pow_pos n)) h)

-- ---- one bit of two bytes

with_bit_lt : (k b x : ℕ) → k < 8 → b < 2 → x < 256 → with_bit k b x < 256
with_bit_lt k b x hk hb hx =
    let e : with_field k 1 b x ≡ with_bit k b x = rw (one-add k, halved k x) refl in
    rw e at (field_lt 8 k 1 b x (omega arith) hb hx)

bit_in_low : (p b w : ℕ) → p < 8 → with_bit p b w ≡ w / 256 * 256 + with_bit p b (w % 256)
bit_in_low p b w hp =
    let d = 7 - p in
    let e : suc d + p ≡ 8 = omega arith in
    let whole : 2 ^ d * 2 * 2 ^ p ≡ 256 = sym (ap (λ q. q * 2 ^ p) (pow-suc 2 d)) ∙ sym (pow-add 2 (suc d) p) ∙ ap (λ j. 2 ^ j) e in
    ap (with_bit p b) (cut (2 ^ d) (2 ^ p) whole)
    ∙ ap₂ (λ y r. (y / 2 * 2 + b) * 2 ^ p + r) (mul-add-div_right (pow_pos p) (w / 256 * 2 ^ d * 2) (w % 256))
    (mul-add-mod_self_right (w / 256 * 2 ^ d * 2) (2 ^ p) (w % 256))
    ∙ joined (w / 256) (2 ^ d) (2 ^ p) (w % 256 / 2 ^ p) (w % 256 % 2 ^ p) whole
  where
    cut : (D P : ℕ) → D * 2 * P ≡ 256 → w ≡ w / 256 * D * 2 * P + w % 256
    cut D P e = omega (arith, ap (λ q. w / 256 * q) e)

    joined : (H D P y r : ℕ) → D * 2 * P ≡ 256 → ((H * D * 2 + y) / 2 * 2 + b) * P + r ≡ H * 256 + ((y / 2 * 2 + b) * P + r)
    joined H D P y r e =
        let half : (H * D * 2 + y) / 2 ≡ H * D + y / 2 = omega arith in
        rw half (omega (arith, ap (λ q. H * q) e))

bit_in_high : (q b w : ℕ) → with_bit (q + 8) b w ≡ with_bit q b (w / 256) * 256 + w % 256
bit_in_high q b w =
    let above : w / 2 ^ (q + 8) ≡ w / 256 / 2 ^ q = ap (λ j. w / 2 ^ j) (add_comm q 8) ∙ sym (shr-shr w 8 q) in
    rw (above, mod-pow-add w q 8, pow-add 2 q 8) (omega arith)

-- ---- in the bytes

-- a bit more in two bytes that are made those of w; the upper one may lie past the end
word-bit : (s : List ℕ) (i p b w : ℕ) → i < length s → p < 16 → b < 2 → set_bit (put_two_bytes s i w) (bits_held i + p) b ≡ put_two_bytes s i (with_bit p b w)
unfolding set_bit
word-bit s i p b w l hp hb = go (dec_lt p 8) (dec_lt (i + 1) (length s))
  where
    lower : List ℕ
    lower = set s i (w % 256)

    high : (q : ℕ) → q < 8 → Dec (i + 1 < length s) → set_bit (put_two_bytes s i w) (bits_held i + (q + 8)) b ≡ put_two_bytes s i (with_bit (q + 8) b w)
    high q h m =
        let byte : bit_byte (bits_held i + (q + 8)) ≡ i + 1 = omega arith in
        let place : bit_place (bits_held i + (q + 8)) ≡ q = omega arith in
        let e = bit_in_high q b w in
        let e₀ : with_bit (q + 8) b w % 256 ≡ w % 256 = omega arith in
        let e₁ : with_bit (q + 8) b w / 256 ≡ with_bit q b (w / 256) = omega arith in
        rw (byte, place, e₀, e₁) (set-set lower (i + 1) (w / 256) _ ∙ upper m)
      where
        upper : Dec (i + 1 < length s) → set lower (i + 1) (with_bit q b (get_or (set lower (i + 1) (w / 256)) (i + 1) 0)) ≡ set lower (i + 1) (with_bit q b (w / 256))
        upper (yes m) = rw (get_or-set_same lower (i + 1) (w / 256) 0 (rw (length-set s i (w % 256)) m))
        upper (no m) =
            let past : length lower ≤ i + 1 = rw (length-set s i (w % 256)) (omega arith) in
            set_out lower (i + 1) _ past ∙ sym (set_out lower (i + 1) _ past)

    go : Dec (p < 8) → Dec (i + 1 < length s) → set_bit (put_two_bytes s i w) (bits_held i + p) b ≡ put_two_bytes s i (with_bit p b w)
    go (yes h) m =
        let byte : bit_byte (bits_held i + p) ≡ i = omega arith in
        let place : bit_place (bits_held i + p) ≡ p = omega arith in
        let new = with_bit p b (w % 256) in
        let e = bit_in_low p b w h in
        let small = with_bit_lt p b (w % 256) h hb (mod-lt w (omega arith)) in
        let e₀ : with_bit p b w % 256 ≡ new = omega arith in
        let e₁ : with_bit p b w / 256 ≡ w / 256 = omega arith in
        rw (byte, place, get_or-set_other lower (i + 1) i (w / 256) 0 (λ z. absurd (omega arith)), get_or-set_same s i (w % 256) 0 l, e₀, e₁)
        (set_comm lower (i + 1) i (w / 256) new (λ z. absurd (omega arith)) ∙ ap (λ t. set t (i + 1) (w / 256)) (set-set s i (w % 256) new))
    go (no h) m = let e : p - 8 + 8 ≡ p = omega arith in rw e at (high (p - 8) (omega arith) m)

-- bits that lie in two bytes, the upper of which may lie past the end
pub store_word : (s : List ℕ) (i k n : ℕ) {f : ℕ → ℕ} → AreBytes s → ((j : ℕ) → f j < 2) → i < length s → n + k ≤ 16
    → store_bits s (bits_held i + k) (list_of n f) ≡ put_two_bytes s i (with_field k n (number_of f n) (two_bytes s i))
unfolding list_of store_bits number_of
store_word s i k zero {f} bytes h l room =
    let low = bytes.each i in
    let e₀ : two_bytes s i % 256 ≡ get_or s i 0 = omega arith in
    let e₁ : two_bytes s i / 256 ≡ get_or s (i + 1) 0 = omega arith in
    sym (ap (put_two_bytes s i) (field-none k (two_bytes s i)) ∙ rw (e₀, e₁, set-get_or s i 0) (set-get_or s (i + 1) 0))
store_word s i k (suc n) {f} bytes h l room =
    let x = two_bytes s i in
    let new = with_field k n (number_of f n) x in
    let at : bits_held i + k + n ≡ bits_held i + (n + k) = omega arith in
    ap (λ m. store_bits s (bits_held i + k) (list_of m f)) (sym (add-one n)) ∙ sym (store_more s (bits_held i + k) n f)
    ∙ ap₂ (λ t p. set_bit t p (f n)) (store_word s i k n bytes h l (omega arith)) at
    ∙ word-bit s i (n + k) (f n) new l (omega arith) (h n)
    ∙ ap (put_two_bytes s i) (field-more k n (number_of f n) (f n) x (number_lt n h) ∙ ap (λ v. with_field k (suc n) v x) (sym (number-last n f)))

-- eight bits from the border of a byte on
pub store_byte : (s : List ℕ) (i : ℕ) {f : ℕ → ℕ} → AreBytes s → ((j : ℕ) → f j < 2) → i < length s
    → store_bits s (bits_held i) (list_of 8 f) ≡ set s i (number_of f 8)
store_byte s i {f} bytes h l =
    let low = bytes.each i in
    let v = number_of f 8 in
    let small = number_lt 8 h in
    let e₀ : with_field 0 8 v (two_bytes s i) % 256 ≡ v = omega arith in
    let e₁ : with_field 0 8 v (two_bytes s i) / 256 ≡ get_or s (i + 1) 0 = omega arith in
    ap (λ p. store_bits s p (list_of 8 f)) (sym (add-zero (bits_held i))) ∙ store_word s i 0 8 bytes h l (omega arith)
    ∙ rw (e₀, e₁) (set_comm s i (i + 1) v (get_or s (i + 1) 0) (λ z. absurd (omega arith)) ∙ ap (λ t. set t i v) (set-get_or s (i + 1) 0))

-- the lowest bits of x from bit p on, as two bytes, which were those of `old`, made those of `new`
module _ (s : List ℕ) (p count x : ℕ) {byte place n old new : ℕ} (bytes : AreBytes s) (eb : byte ≡ bit_byte p) (ep : place ≡ bit_place p)
    (en : n ≡ min count (bits_held 1)) (l : byte < length s) (e : new ≡ with_field place n (x % 2 ^ n) old) where
  pub field_stored : old ≡ two_bytes s byte → put_two_bytes s byte new ≡ store_bits s p (field_bits count x)
  unfolding field_bits
  field_stored was =
      let at : bits_held byte + place ≡ p = omega arith in
      let stored = store_word s byte place n bytes (λ i. mod-lt (x / 2 ^ i) (omega arith)) l (omega arith) in
      ap (put_two_bytes s byte) (e ∙ ap₂ (with_field place n) (sym (number-bits n x)) was) ∙ sym stored
      ∙ ap₂ (λ q m. store_bits s q (list_of m (λ i. bit_of i x))) at en

  -- where the upper byte lies past the end
  pub field-last : old ≡ get_or s byte 0 → length s ≤ byte + 1 → set s byte (new % 256) ≡ store_bits s p (field_bits count x)
  field-last was past =
      let none : get_or s (byte + 1) 0 ≡ 0 = get_or-eq_default s 0 past in
      sym (set_out (set s byte (new % 256)) (byte + 1) (new / 256) (rw (length-set s byte (new % 256)) past)) ∙ field_stored (omega arith)
