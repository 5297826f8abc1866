-- Document 01: "Program bits follow the rows. Bit p lies in byte p div 8 at place p mod 8, place 0 lowest. Length: bits divided by 8,
-- rounded up. Spare bits are 0." Where a bit lies is said here, and known to no other file.
use Rattle.std.specs.Prelude.{ℕ, suc, ◌+◌, ◌*◌, ◌/◌, ◌%◌, ◌^◌, ◌<◌, List, [], ◌∷◌, length, get_or, set, replicate}
use Rattle.lists.specs.Lists.{list_of}

-- the byte in which bit p lies
abbrev pub bit_byte : ℕ → ℕ
bit_byte p = p / 8

-- its place there
abbrev pub bit_place : ℕ → ℕ
bit_place p = p % 8

-- the bytes that hold n bits
abbrev pub bytes_for : ℕ → ℕ
bytes_for n = (n + 7) / 8

-- the bits that n bytes hold
abbrev pub bits_held : ℕ → ℕ
bits_held n = 8 * n

-- the bit of x at a place
abbrev pub bit_of : ℕ → ℕ → ℕ
bit_of place x = x / 2 ^ place % 2

-- x with the bit b at a place: what lies above the place, b, what lies below
abbrev pub with_bit : ℕ → ℕ → ℕ → ℕ
with_bit place b x = (x / 2 ^ place / 2 * 2 + b) * 2 ^ place + x % 2 ^ place

-- program bit p; past the end it is 0
unfoldable pub bit_at : List ℕ → ℕ → ℕ
bit_at bytes p = bit_of (bit_place p) (get_or bytes (bit_byte p) 0)

-- the bytes with program bit p made b, which is 0 or 1; past the end nothing changes
unfoldable pub set_bit : List ℕ → ℕ → ℕ → List ℕ
set_bit bytes p b = set bytes (bit_byte p) (with_bit (bit_place p) b (get_or bytes (bit_byte p) 0))

-- the bytes with these bits stored from bit p on
unfoldable pub store_bits : List ℕ → ℕ → List ℕ → List ℕ
store_bits bytes p [] = bytes
store_bits bytes p (b ∷ bs) = store_bits (set_bit bytes p b) (suc p) bs

-- n bytes of 0
abbrev pub zero_bytes : ℕ → List ℕ
zero_bytes n = replicate n 0

-- the program of these bits
unfoldable pub pack : List ℕ → List ℕ
pack bs = store_bits (zero_bytes (bytes_for (length bs))) 0 bs

-- the first n bits of a program
unfoldable pub unpack : ℕ → List ℕ → List ℕ
unpack n bytes = list_of n (bit_at bytes)

-- every element is 0 or 1
pub record AreBits (bs : List ℕ) : Type 0 where
  pub each : (i : ℕ) → get_or bs i 0 < 2
