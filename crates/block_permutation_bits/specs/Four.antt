-- The program bits of P(4) as one number, the first row's lowest: two input rows, the upper P(2), the lower P(2), the output row.
use Rattle.std.specs.Prelude.{ℕ, ◌+◌, ◌*◌, ◌/◌, ◌%◌, cond, eqb}

-- those before the output row's, where the inputs `third` and `upper` go through the upper half, and `lower` through the lower. An input pair is crossed
-- where its second input goes through the upper half: that gives 1 for input 1 and 2 for input 3, counted from 0. A half is crossed where its first
-- output takes its second input
unfoldable pub sides_word : ℕ → ℕ → ℕ → ℕ
sides_word third upper lower = third % 2 + third / 3 % 2 + (upper % 2 + upper / 3 % 2) + 4 * (upper / 2 % 2) + 8 * (lower / 2 % 2)

-- the inputs of the first three outputs tell the word: the third's goes through the upper half, and the first's through the lower where it is of the
-- same pair
unfoldable pub four_word : ℕ → ℕ → ℕ → ℕ
four_word first second third = cond (eqb (first / 2) (third / 2)) (16 + sides_word third second first) (sides_word third first second)
