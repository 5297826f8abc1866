-- Storing bits one after another. Stores of different bits commute, so the parts of a program may be stored in any order.
use mathlib.Core.Path.{◌≡◌, refl, sym, ap, ◌∙◌}
use mathlib.Core.Logic.{◌≢◌}
use mathlib.Core.List.{List, [], ◌∷◌, ◌++◌, append-nil}
use Prim.Native.Nat.{ℕ, suc, ◌+◌, ◌-◌, ◌%◌, ◌≤◌, ◌<◌, min}
use native.Mathlib.Nat.{add-zero, zero-add, add-suc, suc-add, min-eq_left, mod-eq_of_lt}
use native.Mathlib.Decide.{ℕ_discrete}
use native.Mathlib.Omega.{arith}
use borrow.Rule.Slice.PartMut.{mid_of, post_of, put_mid}
use lib.ListN.{length, set, take, drop, replicate, length-drop, length-replicate, drop_of_length-le, take-append-drop, get_or-append}
use lib.Seq.{set-append_left, get_or-append-add, take_all, length-take-le}
use Rattle.lists.specs.Lists.{list_of}
use Rattle.lists.proofs.ListsLaws.{length-list_of, list_of-append}
use Rattle.fault.specs.Buffers.{over}
use Rattle.block_elements.specs.Bits.{bit_byte, bit_place, bytes_for, bit_at, set_bit, store_bits, zero_bytes, pack, AreBits, bits_held}
use Rattle.block_elements.proofs.BitsLaws.{AreBytes}
use Rattle.block_elements.proofs.BitsLaws.{length-set_bit, set_bit-same, set_bit-other, set_bit-past, set_bit-bytes, ext_bits, length-store_bits, store_bits-append, store_bits-bytes}

-- ---- the next ones

pub store_none : (s : List ℕ) (p : ℕ) (f : ℕ → ℕ) → s ≡ store_bits s p (list_of 0 f)
unfolding list_of store_bits
store_none s p f = refl

-- n more of them
pub store_next : (s : List ℕ) (p i n : ℕ) (f : ℕ → ℕ)
    → store_bits (store_bits s p (list_of i f)) (p + i) (list_of n (λ j. f (i + j))) ≡ store_bits s p (list_of (i + n) f)
store_next s p i n f =
    let next = list_of n (λ j. f (i + j)) in
    ap (λ k. store_bits (store_bits s p (list_of i f)) (p + k) next) (sym (length-list_of i f))
    ∙ sym (ap (store_bits s p) (list_of-append i n f) ∙ store_bits-append s p (list_of i f) next)

-- one more
pub store_more : (s : List ℕ) (p i : ℕ) (f : ℕ → ℕ) → set_bit (store_bits s p (list_of i f)) (p + i) (f i) ≡ store_bits s p (list_of (i + 1) f)
unfolding list_of store_bits
store_more s p i f = ap (λ j. set_bit (store_bits s p (list_of i f)) (p + i) (f j)) (sym (add-zero i)) ∙ store_next s p i 1 f

-- a store of b's lowest bit
pub store_step : (s₀ : List ℕ) {s : List ℕ} (p i : ℕ) {b : ℕ} (f : ℕ → ℕ) → s ≡ store_bits s₀ p (list_of i f) → b < 2 → b ≡ f i
    → set_bit s (p + i) (b % 2) ≡ store_bits s₀ p (list_of (i + 1) f)
store_step s₀ p i f held small e = rw (mod-eq_of_lt small, held, e) (store_more s₀ p i f)

-- past the end nothing is stored
pub store_bits-past : (bs s : List ℕ) (p : ℕ) → bits_held (length s) ≤ p → store_bits s p bs ≡ s
unfolding store_bits
store_bits-past [] s p l = refl
store_bits-past (b ∷ bs) s p l =
    store_bits-past bs (set_bit s p b) (suc p) (omega (arith, length-set_bit s p b)) ∙ set_bit-past s p b l

-- ---- any order

set_bit_comm : {s : List ℕ} → AreBytes s → (p q b c : ℕ) → b < 2 → c < 2 → p ≢ q → set_bit (set_bit s p b) q c ≡ set_bit (set_bit s q c) p b
set_bit_comm {s} hs p q b c hb hc n =
    ext_bits (set_bit (set_bit s p b) q c) (set_bit (set_bit s q c) p b) (lpq ∙ sym lqp)
    (set_bit-bytes _ q c hc (set_bit-bytes s p b hb hs)) (set_bit-bytes _ p b hb (set_bit-bytes s q c hc hs))
    (λ x l. go x (omega (arith, lpq)) (ℕ_discrete x p) (ℕ_discrete x q))
  where
    lpq : length (set_bit (set_bit s p b) q c) ≡ length s
    lpq = length-set_bit (set_bit s p b) q c ∙ length-set_bit s p b

    lqp : length (set_bit (set_bit s q c) p b) ≡ length s
    lqp = length-set_bit (set_bit s q c) p b ∙ length-set_bit s q c

    go : (x : ℕ) → x < bits_held (length s) → Dec (x ≡ p) → Dec (x ≡ q) → bit_at (set_bit (set_bit s p b) q c) x ≡ bit_at (set_bit (set_bit s q c) p b) x
    go x l (yes e) (yes f) = absurd (n (sym e ∙ f))
    go x l (yes e) (no f) =
        rw e (set_bit-other (set_bit s p b) q p c hc n ∙ set_bit-same s p b hb (rw e at l)
        ∙ sym (set_bit-same (set_bit s q c) p b hb (rw (length-set_bit s q c, ← e) l)))
    go x l (no d) (yes f) =
        rw f (set_bit-same (set_bit s p b) q c hc (rw (length-set_bit s p b, ← f) l)
        ∙ sym (set_bit-other (set_bit s q c) p q b hb (λ z. n (sym z)) ∙ set_bit-same s q c hc (rw f at l)))
    go x l (no d) (no f) =
        set_bit-other (set_bit s p b) q x c hc f ∙ set_bit-other s p x b hb d
        ∙ sym (set_bit-other (set_bit s q c) p x b hb d ∙ set_bit-other s q x c hc f)

bits-head : {b : ℕ} {bs : List ℕ} → AreBits (b ∷ bs) → b < 2
bits-head h = h.each 0

bits-rest : {b : ℕ} {bs : List ℕ} → AreBits (b ∷ bs) → AreBits bs
bits-rest h = record { each = λ i. h.each (suc i) }

-- a bit below those that are stored
set_bit_under : (u : List ℕ) {s : List ℕ} → AreBytes s → AreBits u → (p q b : ℕ) → b < 2 → q < p
    → set_bit (store_bits s p u) q b ≡ store_bits (set_bit s q b) p u
unfolding store_bits
set_bit_under [] hs hu p q b hb l = refl
set_bit_under (x ∷ u) {s} hs hu p q b hb l =
    set_bit_under u (set_bit-bytes s p x (bits-head hu) hs) (bits-rest hu) (suc p) q b hb (omega arith)
    ∙ ap (λ t. store_bits t (suc p) u) (set_bit_comm hs p q x b (bits-head hu) hb (λ e. absurd (omega arith)))

store_bits_under : (v u : List ℕ) {s : List ℕ} → AreBytes s → AreBits u → AreBits v → (p q : ℕ) → q + length v ≤ p
    → store_bits (store_bits s p u) q v ≡ store_bits (store_bits s q v) p u
unfolding store_bits
store_bits_under [] u hs hu hv p q l = refl
store_bits_under (b ∷ v) u {s} hs hu hv p q l =
    ap (λ t. store_bits t (suc q) v) (set_bit_under u hs hu p q b (bits-head hv) (omega arith))
    ∙ store_bits_under v u (set_bit-bytes s q b (bits-head hv) hs) hu (bits-rest hv) p (suc q) (omega arith)

-- a level's parts: input rows, output rows, upper, lower, stored in this order, stand in the order of the rows
pub store_level : {s : List ℕ} (I U L O : List ℕ) (p h part : ℕ) → AreBytes s → AreBits I → AreBits U → AreBits L → AreBits O
    → length I ≡ h → length U ≡ part → length L ≡ part
    → store_bits (store_bits (store_bits (store_bits s p I) (p + h + part + part) O) (p + h) U) (p + h + part) L ≡ store_bits s p (I ++ (U ++ (L ++ O)))
store_level {s} I U L O p h part hs hI hU hL hO eI eU eL =
    let s₁ = store_bits s p I in
    let b₁ = store_bits-bytes s p I hI hs in
    let s₂ = store_bits s₁ (p + h) U in
    let b₂ = store_bits-bytes s₁ (p + h) U hU b₁ in
    ap (λ t. store_bits t (p + h + part) L) (store_bits_under U O b₁ hO hU (p + h + part + part) (p + h) (omega arith))
    ∙ store_bits_under L O b₂ hO hL (p + h + part + part) (p + h + part) (omega arith)
    ∙ sym (rw (store_bits-append s p I (U ++ (L ++ O)), eI, store_bits-append s₁ (p + h) U (L ++ O), eU, store_bits-append s₂ (p + h + part) L O, eL) refl)

-- ---- bits in a part of the bytes

set-behind : (a t : List ℕ) (i v : ℕ) → set (a ++ t) (length a + i) v ≡ a ++ set t i v
set-behind [] t i v = rw zero-add
set-behind (x ∷ a) t i v = rw suc-add (ap (λ l. x ∷ l) (set-behind a t i v))

set_bit-behind : (a t : List ℕ) (p b : ℕ) → set_bit (a ++ t) (bits_held (length a) + p) b ≡ a ++ set_bit t p b
unfolding set_bit
set_bit-behind a t p b =
    let byte : bit_byte (bits_held (length a) + p) ≡ length a + bit_byte p = omega arith in
    let place : bit_place (bits_held (length a) + p) ≡ bit_place p = omega arith in
    rw (byte, place, get_or-append-add a t (bit_byte p) 0) (set-behind a t (bit_byte p) _)

-- bits stored behind a
pub store_bits-behind : (bs a t : List ℕ) (p : ℕ) → store_bits (a ++ t) (bits_held (length a) + p) bs ≡ a ++ store_bits t p bs
unfolding store_bits
store_bits-behind [] a t p = refl
store_bits-behind (b ∷ bs) a t p =
    rw (set_bit-behind a t p b, ← add-suc (bits_held (length a)) p) (store_bits-behind bs a (set_bit t p b) (suc p))

set_bit-front : (a t : List ℕ) (p b : ℕ) → p < bits_held (length a) → set_bit (a ++ t) p b ≡ set_bit a p b ++ t
unfolding set_bit
set_bit-front a t p b l =
    let i : bit_byte p < length a = omega arith in
    rw (get_or-append a t 0 (bit_byte p) i) (set-append_left a t (bit_byte p) _ i)

-- bits stored before t
pub store_bits-front : (bs a t : List ℕ) (p : ℕ) → p + length bs ≤ bits_held (length a) → store_bits (a ++ t) p bs ≡ store_bits a p bs ++ t
unfolding store_bits
store_bits-front [] a t p l = refl
store_bits-front (b ∷ bs) a t p l =
    rw (set_bit-front a t p b (omega arith)) (store_bits-front bs (set_bit a p b) t (suc p) (omega (arith, length-set_bit a p b)))

-- the part of the bytes from byte k on, with bits stored in it, put back
pub store_part : (s : List ℕ) (k p : ℕ) (bs : List ℕ) → k ≤ length s
    → put_mid k (length s - k) s (store_bits (mid_of k (length s - k) s) p bs) ≡ store_bits s (bits_held k + p) bs
store_part s k p bs l =
    let rest : mid_of k (length s - k) s ≡ drop k s = take_all (length s - k) (drop k s) (omega (arith, length-drop k s)) in
    let none : post_of k (length s - k) s ≡ [] = drop_of_length-le (drop k s) {i = length s - k} (omega (arith, length-drop k s)) in
    let front : length (take k s) ≡ k = length-take-le k s l in
    rw (rest, none, append-nil (store_bits (drop k s) p bs))
    (sym (store_bits-behind bs (take k s) (drop k s) p)
    ∙ ap (λ n. store_bits (take k s ++ drop k s) (bits_held n + p) bs) front
    ∙ ap (λ t. store_bits t (bits_held k + p) bs) (take-append-drop k s))

-- the part that begins with the byte of bit p, as it comes back with bits stored from that bit on
pub store_from_byte : (s : List ℕ) (p : ℕ) (bs : List ℕ) {byte place : ℕ} {part : List ℕ} → byte ≡ bit_byte p → place ≡ bit_place p → bit_byte p ≤ length s
    → part ≡ store_bits (mid_of byte (length s - byte) s) place bs → put_mid byte (length s - byte) s part ≡ store_bits s p bs
store_from_byte s p bs eb ep l e =
    let split : bits_held (bit_byte p) + bit_place p ≡ p = omega arith in
    rw (e, eb, ep) (store_part s (bit_byte p) (bit_place p) bs l ∙ ap (λ k. store_bits s k bs) split)

-- stores in the part from the first bit's byte on, and past the end
pub ruleset placed = (store_from_byte, store_bits-past)

-- bits stored from bit 0 on in zeroed bytes are the packed bits, followed by what stood past them
pub store_zeroed : (bs old : List ℕ) (n : ℕ) → bytes_for (length bs) ≡ n → store_bits (replicate n 0 ++ drop n old) 0 bs ≡ over (pack bs) old
unfolding pack
store_zeroed bs old n e =
    let z = zero_bytes (bytes_for (length bs)) in
    let lz : length z ≡ bytes_for (length bs) = length-replicate (bytes_for (length bs)) 0 in
    rw (← e) (store_bits-front bs z (drop (bytes_for (length bs)) old) 0 (omega arith)
    ∙ ap (λ k. store_bits z 0 bs ++ drop k old) (sym (length-store_bits z 0 bs ∙ lz)))

-- bytes that are there are filled
pub bytes-filled : (n b : ℕ) (old : List ℕ) → n ≤ length old → over (replicate (min n (length old)) b) old ≡ replicate n b ++ drop n old
bytes-filled n b old h =
    ap (λ k. over (replicate k b) old) (min-eq_left h) ∙ ap (λ k. replicate n b ++ drop k old) (length-replicate n b)

-- bits stored from bit 0 on, once the bytes that they take are cleared
pub store_cleared : (bs old : List ℕ) {bytes : ℕ} {cleared last : List ℕ} → bytes ≡ bytes_for (length bs) → bytes ≤ length old
    → cleared ≡ over (replicate (min bytes (length old)) 0) old → last ≡ store_bits cleared 0 bs → last ≡ over (pack bs) old
store_cleared bs old {bytes} size room clear stored =
    stored ∙ ap (λ s. store_bits s 0 bs) (clear ∙ bytes-filled bytes 0 old room) ∙ store_zeroed bs old bytes (sym size)
