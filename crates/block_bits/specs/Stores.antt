-- The bits that are stored at once: those of a byte, and the lowest bits of many bytes.
use Rattle.std.specs.Prelude.{ℕ, zero, suc, ◌+◌, ◌*◌, ◌/◌, ◌%◌, ◌^◌, min, List, length, get_or, set}
use Rattle.lists.specs.Lists.{list_of}
use Rattle.block_elements.specs.Bits.{bit_of, bits_held}

-- the `count` lowest bits of the byte x, the lowest first; a byte has no more than eight
unfoldable pub field_bits : ℕ → ℕ → List ℕ
field_bits count x = list_of (min count (bits_held 1)) (λ i. bit_of i x)

-- the lowest bit of byte i
abbrev pub low_bit : List ℕ → ℕ → ℕ
low_bit bytes i = get_or bytes i 0 % 2

-- the lowest bit of each byte
unfoldable pub low_bits : List ℕ → List ℕ
low_bits bytes = list_of (length bytes) (low_bit bytes)

-- the number of the n bits f 0 to f (n - 1), the lowest first
unfoldable pub number_of : (ℕ → ℕ) → ℕ → ℕ
number_of f zero = 0
number_of f (suc n) = f 0 + 2 * number_of (λ i. f (suc i)) n

-- x with the n bits from a place on made those of v, which has no more: what lies above them, v, what lies below
abbrev pub with_field : ℕ → ℕ → ℕ → ℕ → ℕ
with_field place n v x = (x / 2 ^ (n + place) * 2 ^ n + v) * 2 ^ place + x % 2 ^ place

-- two bytes as a number, the lower first; past the end they are 0
abbrev pub two_bytes : List ℕ → ℕ → ℕ
two_bytes bytes i = get_or bytes i 0 + 256 * get_or bytes (i + 1) 0

-- the bytes with two made those of w; past the end nothing changes
abbrev pub put_two_bytes : List ℕ → ℕ → ℕ → List ℕ
put_two_bytes bytes i w = set (set bytes i (w % 256)) (i + 1) (w / 256)
