-- Storing bit p changes bit p alone, and byte lists of one length with equal bits are equal: what else is said of program bits follows.
use mathlib.Core.Path.{◌≡◌, refl, sym, ap, ap₂, ◌∙◌}
use mathlib.Core.Logic.{◌≢◌}
use mathlib.Core.List.{List, [], ◌∷◌, ◌++◌}
use Prim.Native.Nat.{ℕ, zero, suc, ◌+◌, ◌-◌, ◌*◌, ◌/◌, ◌%◌, ◌^◌, ◌<◌, ◌≤◌, zero-le, suc-le-suc}
use native.Mathlib.Nat.{add-zero, zero-add, add-suc, suc-add, not-suc-le-zero, le_of_suc-le-suc}
use native.Mathlib.Nat.{mul_assoc, mul_comm, mul-sub, mul_right_comm, mul-le-mul_right, one-mul}
use native.Mathlib.Nat.{pow-suc, div-one, zero-div, mod-lt, mod-eq_of_lt, mul-add-div_right}
use native.Mathlib.Numerals.{one-add}
use native.Mathlib.Omega.{arith}
use native.Mathlib.Decide.{ℕ_discrete, dec_lt}
use lib.ListN.{length, get_or, set, length-set, length-replicate, get_or-replicate, get_or-eq_default, get_or-append}
use lib.Seq.{get_or-set_same, get_or-set_other, ext_get_or, set_out, get_or-append-add}
use lib.Pow.{pow_pos, pow-add, shr-shr, shr_lt, high, split, ones_lt}
use lib.Arith.{digits_lt}
use lib.Bits.{bit_and, bit_or, and_mask, and_high, and_block, or_block, or_shifted, or_zero_r}
use Rattle.lists.specs.Lists.{list_of}
use Rattle.lists.proofs.ListsLaws.{length-list_of, get_or-list_of}
use Rattle.block_elements.specs.Bits.{bit_byte, bit_place, bytes_for, bit_of, with_bit, bit_at, set_bit, store_bits, zero_bytes, pack, unpack, AreBits, bits_held}

-- every element is a byte
pub record AreBytes (bytes : List ℕ) : Type 0 where
  pub each : (i : ℕ) → get_or bytes i 0 < 256

-- ---- one number

bit-same : (k b x : ℕ) → b < 2 → bit_of k (with_bit k b x) ≡ b
bit-same k b x h = rw (high (x / 2 ^ k / 2 * 2 + b) k (mod-lt x (pow_pos k))) (omega arith)

-- the bits below a place do not see what lies from the place on
bit-low : (q d hi lo : ℕ) → bit_of q (hi * 2 ^ (suc d + q) + lo) ≡ bit_of q lo
bit-low q d hi lo =
    let e : hi * 2 ^ (suc d + q) ≡ hi * 2 ^ d * 2 * 2 ^ q = rw (pow-add 2 (suc d) q, pow-suc 2 d) (simp mul_assoc) in
    rw (e, mul-add-div_right (pow_pos q) (hi * 2 ^ d * 2) lo) (omega arith)

bit_under : (q d b x : ℕ) → bit_of q (with_bit (suc d + q) b x) ≡ bit_of q x
bit_under q d b x =
    let k = suc d + q in
    bit-low q d (x / 2 ^ k / 2 * 2 + b) (x % 2 ^ k) ∙ sym (bit-low q d (x / 2 ^ k) (x % 2 ^ k)) ∙ ap (bit_of q) (split x k)

-- the bits above it
above : (k d x : ℕ) → x / 2 ^ k / 2 / 2 ^ d ≡ x / 2 ^ (suc d + k)
above k d x = shr-shr (x / 2 ^ k) 1 d ∙ shr-shr x k (1 + d) ∙ ap (λ j. x / 2 ^ j) (omega arith)

bit-over : (k d b x : ℕ) → b < 2 → bit_of (suc d + k) (with_bit k b x) ≡ bit_of (suc d + k) x
bit-over k d b x h =
    let hi = x / 2 ^ k / 2 in
    let e : (hi * 2 + b) / 2 ≡ hi = omega arith in
    ap (λ y. y % 2) (sym (above k d (with_bit k b x))
    ∙ rw (high (hi * 2 + b) k (mod-lt x (pow_pos k)), e) (above k d x))

bit-other : (q k b x : ℕ) → b < 2 → q ≢ k → bit_of q (with_bit k b x) ≡ bit_of q x
bit-other q k b x h n = go (dec_lt q k)
  where
    go : Dec (q < k) → bit_of q (with_bit k b x) ≡ bit_of q x
    go (yes l) = let e : k ≡ suc (k - suc q) + q = omega arith in rw e (bit_under q (k - suc q) b x)
    go (no l) = let e : q ≡ suc (q - suc k) + k = omega arith in rw e (bit-over k (q - suc k) b x h)

with_bit_lt : (j k b x : ℕ) → b < 2 → x < 2 ^ (suc j + k) → with_bit k b x < 2 ^ (suc j + k)
with_bit_lt j k b x h l =
    let y = x / 2 ^ k in
    let m : y < 2 ^ j * 2 = rw (← pow-suc 2 j) (shr_lt (suc j) k l) in
    rw (pow-add 2 (suc j) k, pow-suc 2 j)
    (digits_lt {q = y / 2 * 2 + b} {m = 2 ^ j * 2} {r = x % 2 ^ k} {c = 2 ^ k} (omega arith) (mod-lt x (pow_pos k)))

-- numbers below 2 ^ k with the same k bits are equal
same_bits : (k x y : ℕ) → x < 2 ^ k → y < 2 ^ k → ((q : ℕ) → q < k → bit_of q x ≡ bit_of q y) → x ≡ y
same_bits zero x y hx hy e = omega arith
same_bits (suc k) x y hx hy e =
    let hx' : x < 2 ^ k * 2 = rw (← pow-suc 2 k) hx in
    let hy' : y < 2 ^ k * 2 = rw (← pow-suc 2 k) hy in
    let up : (q z : ℕ) → bit_of q (z / 2) ≡ bit_of (suc q) z = λ q z. ap (λ w. w % 2) (shr-shr z 1 q ∙ ap (λ w. z / 2 ^ w) (one-add q)) in
    let ih = same_bits k (x / 2) (y / 2) (omega arith) (omega arith) (λ q h. up q x ∙ e (suc q) (omega arith) ∙ sym (up q y)) in
    let low : x % 2 ≡ y % 2 = simp div-one at (e 0 (omega arith)) in
    omega arith

-- a bit by shift and mask, as code reads and stores it

pub bit_of_mask : (k x : ℕ) → bit_and (x / 2 ^ k) 1 ≡ bit_of k x
bit_of_mask k x = and_mask (x / 2 ^ k) 1

pairs-less : (p q : ℕ) → (p * 2 - 2) * q ≡ p * q * 2 - q * 2
pairs-less p q = rw (mul_comm (p * 2 - 2) q, mul-sub q (p * 2) 2) (ap (λ r. r - q * 2) (mul_comm q (p * 2) ∙ mul_right_comm p 2 q))

mask_split : (j k : ℕ) → 2 ^ (suc j + k) - 1 - 2 ^ k ≡ (2 ^ (j + 1) - 2 ^ 1) * 2 ^ k + (2 ^ k - 1)
mask_split j k =
    let P = 2 ^ j in
    let K = 2 ^ k in
    let whole : 2 ^ (suc j + k) ≡ P * K * 2 = pow-add 2 (suc j) k ∙ ap (λ q. q * K) (pow-suc 2 j) ∙ mul_right_comm P 2 K in
    rw (pow-add 2 j 1) (omega (arith, pairs-less P K, pow_pos k, mul-le-mul_right K (pow_pos j), one-mul K))

clear-bit : (j k a r : ℕ) → r < 2 ^ k → a / 2 < 2 ^ j → bit_and (a * 2 ^ k + r) (2 ^ (suc j + k) - 1 - 2 ^ k) ≡ a / 2 * 2 * 2 ^ k + r
clear-bit j k a r hr ha =
    ap (bit_and (a * 2 ^ k + r)) (mask_split j k)
    ∙ and_block k a (2 ^ (j + 1) - 2 ^ 1) r (2 ^ k - 1) hr (ones_lt k)
    ∙ ap₂ (λ p q. p * 2 ^ k + q) (and_high a j 1 ∙ ap (λ p. p * 2) (mod-eq_of_lt ha)) (and_mask r k ∙ mod-eq_of_lt hr)

put-bit : (k c r b : ℕ) → r < 2 ^ k → b < 2 → bit_or (c * 2 * 2 ^ k + r) (b * 2 ^ k) ≡ (c * 2 + b) * 2 ^ k + r
put-bit k c r b hr hb =
    ap (bit_or (c * 2 * 2 ^ k + r)) (sym (add-zero (b * 2 ^ k)))
    ∙ or_block k (c * 2) b r 0 hr (pow_pos k)
    ∙ ap₂ (λ p q. p * 2 ^ k + q) (or_shifted c 1 b hb) (or_zero_r r)

-- in a number of j + 1 + k bits
with_mask : (j k b x : ℕ) → b < 2 → x < 2 ^ (suc j + k) → bit_or (bit_and x (2 ^ (suc j + k) - 1 - 2 ^ k)) (b * 2 ^ k) ≡ with_bit k b x
with_mask j k b x h l =
    let r = mod-lt x (pow_pos k) in
    let m : x / 2 ^ k < 2 ^ j * 2 = rw (← pow-suc 2 j) (shr_lt (suc j) k l) in
    let mask = 2 ^ (suc j + k) - 1 - 2 ^ k in
    ap (λ y. bit_or (bit_and y mask) (b * 2 ^ k)) (sym (split x k))
    ∙ ap (λ y. bit_or y (b * 2 ^ k)) (clear-bit j k (x / 2 ^ k) (x % 2 ^ k) r (omega arith))
    ∙ put-bit k (x / 2 ^ k / 2) (x % 2 ^ k) b r h

pub with_bit_mask : (k b x : ℕ) → k < 8 → b < 2 → x < 256 → bit_or (bit_and x (255 - 2 ^ k)) (b * 2 ^ k) ≡ with_bit k b x
with_bit_mask k b x hk hb hx =
    let w : suc (7 - k) + k ≡ 8 = omega arith in
    rw w at (with_mask (7 - k) k b x hb (rw w hx))

-- ---- one bit of the bytes

pub bit_at_lt : (s : List ℕ) (p : ℕ) → bit_at s p < 2
unfolding bit_at
bit_at_lt s p = omega arith

pub bit_at-past : (s : List ℕ) (p : ℕ) → bits_held (length s) ≤ p → bit_at s p ≡ 0
unfolding bit_at
bit_at-past s p h = rw (get_or-eq_default s 0 {n = bit_byte p} (omega arith)) (ap (λ x. x % 2) (zero-div (2 ^ bit_place p)))

pub length-set_bit : (s : List ℕ) (p b : ℕ) → length (set_bit s p b) ≡ length s
unfolding set_bit
length-set_bit s p b = length-set s _ _

pub set_bit-same : (s : List ℕ) (p b : ℕ) → b < 2 → p < bits_held (length s) → bit_at (set_bit s p b) p ≡ b
unfolding bit_at set_bit
set_bit-same s p b hb h =
    rw (get_or-set_same s (bit_byte p) (with_bit (bit_place p) b (get_or s (bit_byte p) 0)) 0 (omega arith)) (bit-same (bit_place p) b _ hb)

pub set_bit-other : (s : List ℕ) (p q b : ℕ) → b < 2 → q ≢ p → bit_at (set_bit s p b) q ≡ bit_at s q
unfolding bit_at set_bit
set_bit-other s p q b hb n = go (ℕ_discrete (bit_byte q) (bit_byte p)) (dec_lt (bit_byte p) (length s))
  where
    x : ℕ
    x = get_or s (bit_byte p) 0

    new : ℕ
    new = with_bit (bit_place p) b x

    go : Dec (bit_byte q ≡ bit_byte p) → Dec (bit_byte p < length s)
        → bit_of (bit_place q) (get_or (set s (bit_byte p) new) (bit_byte q) 0) ≡ bit_of (bit_place q) (get_or s (bit_byte q) 0)
    go (no d) l = rw (get_or-set_other s (bit_byte p) (bit_byte q) new 0 d)
    go (yes e) (no l) = rw (set_out s (bit_byte p) new (omega arith))
    go (yes e) (yes l) = rw (e, get_or-set_same s (bit_byte p) new 0 l) (bit-other (bit_place q) (bit_place p) b x hb (λ z. n (omega arith)))

pub set_bit-past : (s : List ℕ) (p b : ℕ) → bits_held (length s) ≤ p → set_bit s p b ≡ s
unfolding set_bit
set_bit-past s p b h = set_out s (bit_byte p) _ (omega arith)

pub set_bit-bytes : (s : List ℕ) (p b : ℕ) → b < 2 → AreBytes s → AreBytes (set_bit s p b)
unfolding set_bit
set_bit-bytes s p b hb h = record { each = λ i. go i (ℕ_discrete i (bit_byte p)) (dec_lt (bit_byte p) (length s)) }
  where
    k : ℕ
    k = bit_place p

    new : ℕ
    new = with_bit k b (get_or s (bit_byte p) 0)

    go : (i : ℕ) → Dec (i ≡ bit_byte p) → Dec (bit_byte p < length s) → get_or (set s (bit_byte p) new) i 0 < 256
    go i (no d) l = rw (get_or-set_other s (bit_byte p) i new 0 d) (h.each i)
    go i (yes e) (no l) = rw (set_out s (bit_byte p) new (omega arith)) (h.each i)
    go i (yes e) (yes l) =
        let w : suc (7 - k) + k ≡ 8 = omega arith in
        rw (e, get_or-set_same s (bit_byte p) new 0 l) (rw w at (with_bit_lt (7 - k) k b (get_or s (bit_byte p) 0) hb (rw w (h.each (bit_byte p)))))

-- two byte lists of one length with the same bits are equal
pub ext_bits : (s t : List ℕ) → length s ≡ length t → AreBytes s → AreBytes t → ((p : ℕ) → p < bits_held (length s) → bit_at s p ≡ bit_at t p) → s ≡ t
unfolding bit_at
ext_bits s t l hs ht e = ext_get_or 0 s t l (λ i h. same_bits 8 (get_or s i 0) (get_or t i 0) (hs.each i) (ht.each i) (λ q hq.
    let d : bit_byte (bits_held i + q) ≡ i = omega arith in
    let m : bit_place (bits_held i + q) ≡ q = omega arith in
    rw (d, m) at (e (bits_held i + q) (omega arith))))

-- ---- bits stored one after another

pub bits-append : {a b : List ℕ} → AreBits a → AreBits b → AreBits (a ++ b)
bits-append {a} {b} ha hb = record { each = λ i. go i (dec_lt i (length a)) }
  where
    go : (i : ℕ) → Dec (i < length a) → get_or (a ++ b) i 0 < 2
    go i (yes l) = rw (get_or-append a b 0 i l) (ha.each i)
    go i (no l) =
        let e : i ≡ length a + (i - length a) = omega arith in
        rw (e, get_or-append-add a b (i - length a) 0) (hb.each (i - length a))

pub bits-list_of : (n : ℕ) {f : ℕ → ℕ} → ((i : ℕ) → f i < 2) → AreBits (list_of n f)
bits-list_of n {f} h = record { each = λ i. go i (dec_lt i n) }
  where
    go : (i : ℕ) → Dec (i < n) → get_or (list_of n f) i 0 < 2
    go i (yes l) = rw (get_or-list_of n f i 0 l) (h i)
    go i (no l) = rw (get_or-eq_default (list_of n f) 0 {n = i} (rw (length-list_of n f) (omega arith))) (omega arith)

bits-tail : {b : ℕ} {bs : List ℕ} → AreBits (b ∷ bs) → AreBits bs
bits-tail h = record { each = λ i. h.each (suc i) }

pub length-store_bits : (s : List ℕ) (p : ℕ) (bs : List ℕ) → length (store_bits s p bs) ≡ length s
unfolding store_bits
length-store_bits s p [] = refl
length-store_bits s p (b ∷ bs) = length-store_bits (set_bit s p b) (suc p) bs ∙ length-set_bit s p b

pub store_bits-append : (s : List ℕ) (p : ℕ) (a b : List ℕ) → store_bits s p (a ++ b) ≡ store_bits (store_bits s p a) (p + length a) b
unfolding store_bits
store_bits-append s p [] b = rw add-zero
store_bits-append s p (x ∷ a) b = rw (add-suc p (length a), ← suc-add p (length a)) (store_bits-append (set_bit s p x) (suc p) a b)

pub store_bits-bytes : (s : List ℕ) (p : ℕ) (bs : List ℕ) → AreBits bs → AreBytes s → AreBytes (store_bits s p bs)
unfolding store_bits
store_bits-bytes s p [] hb h = h
store_bits-bytes s p (b ∷ bs) hb h = store_bits-bytes (set_bit s p b) (suc p) bs (bits-tail hb) (set_bit-bytes s p b (hb.each 0) h)

-- no other bit changes
pub store_bits-other : (s : List ℕ) (p : ℕ) (bs : List ℕ) (q : ℕ) → AreBits bs → ((i : ℕ) → i < length bs → q ≢ p + i)
    → bit_at (store_bits s p bs) q ≡ bit_at s q
unfolding store_bits
store_bits-other s p [] q hb n = refl
store_bits-other s p (b ∷ bs) q hb n =
    store_bits-other (set_bit s p b) (suc p) bs q (bits-tail hb) (λ i h e. n (suc i) (suc-le-suc h) (omega arith))
    ∙ set_bit-other s p q b (hb.each 0) (λ e. n 0 (suc-le-suc zero-le) (omega arith))

-- they read back
pub store_bits-at : (s : List ℕ) (p : ℕ) (bs : List ℕ) (i : ℕ) → AreBits bs → p + length bs ≤ bits_held (length s) → i < length bs
    → bit_at (store_bits s p bs) (p + i) ≡ get_or bs i 0
unfolding store_bits
store_bits-at s p [] i hb room h = absurd (not-suc-le-zero h)
store_bits-at s p (b ∷ bs) zero hb room h =
    rw add-zero (store_bits-other (set_bit s p b) (suc p) bs p (bits-tail hb) (λ i m e. absurd (omega arith))
    ∙ set_bit-same s p b (hb.each 0) (omega arith))
store_bits-at s p (b ∷ bs) (suc i) hb room h =
    rw (add-suc p i, ← suc-add p i)
    (store_bits-at (set_bit s p b) (suc p) bs i (bits-tail hb) (omega (arith, length-set_bit s p b)) (le_of_suc-le-suc h))

-- ---- programs

pub length-pack : (bs : List ℕ) → length (pack bs) ≡ bytes_for (length bs)
unfolding pack
length-pack bs = length-store_bits _ 0 bs ∙ length-replicate (bytes_for (length bs)) 0

zeros : (n i : ℕ) → get_or (zero_bytes n) i 0 ≡ 0
zeros n i = go (dec_lt i n)
  where
    go : Dec (i < n) → get_or (zero_bytes n) i 0 ≡ 0
    go (yes l) = get_or-replicate n i 0 0 l
    go (no l) = get_or-eq_default (zero_bytes n) 0 (rw (length-replicate {A = ℕ} n 0) (omega arith))

pub pack-bytes : (bs : List ℕ) → AreBits bs → AreBytes (pack bs)
unfolding pack
pack-bytes bs h = store_bits-bytes _ 0 bs h (record { each = λ i. rw (zeros (bytes_for (length bs)) i) (omega arith) })

-- bit p of a program is the p-th of its bits, and a spare bit is 0
pub bit_at-pack : (bs : List ℕ) → AreBits bs → (p : ℕ) → bit_at (pack bs) p ≡ get_or bs p 0
unfolding pack
bit_at-pack bs h p = go (dec_lt p (length bs))
  where
    n : ℕ
    n = bytes_for (length bs)

    room : 0 + length bs ≤ bits_held (length (zero_bytes n))
    room = rw (length-replicate {A = ℕ} n 0) (omega arith)

    clear : bit_at (zero_bytes n) p ≡ 0
    clear = unfold bit_at in rw (zeros n (bit_byte p)) (ap (λ x. x % 2) (zero-div (2 ^ bit_place p)))

    go : Dec (p < length bs) → bit_at (store_bits (zero_bytes n) 0 bs) p ≡ get_or bs p 0
    go (yes l) = rw zero-add at (store_bits-at (zero_bytes n) 0 bs p h room l)
    go (no l) =
        store_bits-other (zero_bytes n) 0 bs p h (λ i m e. absurd (omega arith)) ∙ clear
        ∙ sym (get_or-eq_default bs 0 (omega arith))

pub length-unpack : (n : ℕ) (s : List ℕ) → length (unpack n s) ≡ n
unfolding unpack
length-unpack n s = length-list_of n (bit_at s)

pub unpack-at : (n : ℕ) (s : List ℕ) (i : ℕ) → i < n → get_or (unpack n s) i 0 ≡ bit_at s i
unfolding unpack
unpack-at n s i h = get_or-list_of n (bit_at s) i 0 h

pub unpack-bits : (n : ℕ) (s : List ℕ) → AreBits (unpack n s)
unfolding unpack
unpack-bits n s = bits-list_of n (bit_at_lt s)

-- a program holds the bits that it was packed from
pub unpack-pack : (bs : List ℕ) → AreBits bs → unpack (length bs) (pack bs) ≡ bs
unpack-pack bs h =
    let n = length bs in
    ext_get_or 0 (unpack n (pack bs)) bs (length-unpack n (pack bs)) (λ i l.
    unpack-at n (pack bs) i (rw (length-unpack n (pack bs)) at l) ∙ bit_at-pack bs h i)

-- a program of the exact length with no spare bit set is the packing of its bits
pub pack-unpack : (n : ℕ) (s : List ℕ) → AreBytes s → length s ≡ bytes_for n → ((p : ℕ) → n ≤ p → bit_at s p ≡ 0) → pack (unpack n s) ≡ s
pack-unpack n s hs l spare =
    ext_bits (pack bs) s (length-pack bs ∙ ap bytes_for (length-unpack n s) ∙ sym l) (pack-bytes bs (unpack-bits n s)) hs
    (λ p h. bit_at-pack bs (unpack-bits n s) p ∙ go p (dec_lt p n))
  where
    bs : List ℕ
    bs = unpack n s

    go : (p : ℕ) → Dec (p < n) → get_or bs p 0 ≡ bit_at s p
    go p (yes m) = unpack-at n s p m
    go p (no m) = get_or-eq_default bs 0 (rw (length-unpack n s) (omega arith)) ∙ sym (spare p (omega arith))
