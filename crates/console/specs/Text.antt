-- Text as bytes in ASCII: words, and numbers in decimal digits; and text in a lent buffer.
use Rattle.std.specs.Prelude.{ℕ, zero, suc, ◌+◌, ◌/◌, ◌%◌, ◌≡◌, cond, List, [], ◌∷◌, ◌++◌, ltb, length, take}
use Prim.Native.Char.{code}
use Prim.Native.String.{String, [] as none, ◌∷◌ as ◌then◌}
use Rattle.io.specs.Counts.{IsPrefixLen}
use Rattle.fault.specs.Buffers.{over}

-- the bytes of a text
unfoldable pub ascii : String → List ℕ
ascii none = []
ascii (c then s) = code c ∷ ascii s

-- the byte of a digit: that of 0 is 48
abbrev pub digit : ℕ → ℕ
digit d = 48 + d

-- a number of at most so many decimal digits: no zero in front, the lowest digit last
unfoldable pub decimal_within : ℕ → ℕ → List ℕ
decimal_within zero n = []
decimal_within (suc most) n = cond (ltb n 10) (digit n ∷ []) (decimal_within most (n / 10) ++ (digit (n % 10) ∷ []))

-- the most digits of a number of 64 bits
abbrev pub most_digits : ℕ
most_digits = 20

-- a number of 64 bits in decimal digits
abbrev pub decimal : ℕ → List ℕ
decimal n = decimal_within most_digits n

-- a word and its number
abbrev pub named : List ℕ → ℕ → List ℕ
named name number = name ++ decimal number

-- the text of a buffer's first `at` bytes with more behind it, as far as the buffer has room
abbrev pub text_with : List ℕ → ℕ → List ℕ → List ℕ
text_with buffer at more = take (length buffer) (take at buffer ++ more)

-- what a call left that put more behind a buffer's first `at` bytes: the buffer begins with that text, what stands past it is as it was, and the
-- call answers how long the text is
pub record Puts (before : List ℕ) (at : ℕ) (more after : List ℕ) (long : ℕ) : Type 0 where
  pub is_after : after ≡ over (text_with before at more) before
  pub is_long : long ≡ length (text_with before at more)
  pub counted : IsPrefixLen long after
