-- Document 01, "Blocks": the universal block U(K), K = 2 ^ n, with 2K pins, and its programming. All recurse on the level n: U(2 * 2 ^ n) has
-- two halves U(2 ^ n). Pins and gates count from 0. The selection block S(K/2, K) inside is a parameter.
use Rattle.std.specs.Prelude.{ℕ, zero, suc, ◌+◌, ◌-◌, ◌*◌, ◌^◌, Bool, cond, ◌&&◌, List, [], ◌∷◌, ◌++◌, leb, ltb, get_or, take}
use Rattle.lists.specs.Lists.{list_of}
use Rattle.lists.specs.Counting.{one_if}
use Rattle.blocks.specs.Elements.{Row, Y, Gate, operands, gate_bits, bit_of}
use Rattle.fabric_universal.specs.Selector.{pin_count, Selector}

-- ---- rows

-- k rows Y(pin k + j, selected j)
unfoldable pub mix_rows : ℕ → List ℕ → List ℕ → List Row
mix_rows k pins selected = list_of k (λ j. Y (get_or pins (k + j) 0) (get_or selected j 0))

-- k wires from `next` on: the outputs of k Y rows
unfoldable pub wires_from : ℕ → ℕ → List ℕ
wires_from k next = list_of k (λ j. next + j)

module _ (S : Selector) where
  -- how many rows U(2 ^ n) has, how many wires it makes, how many program bits it takes
  unfoldable pub universal_count : ℕ → ℕ
  universal_count zero = 1
  universal_count (suc n) = universal_count n + ((S n).count + (pin_count n + universal_count n))

  unfoldable pub universal_wires : ℕ → ℕ
  universal_wires zero = 1
  universal_wires (suc n) = universal_wires n + ((S n).wires + (pin_count n + universal_wires n))

  unfoldable pub universal_takes : ℕ → ℕ
  universal_takes zero = gate_bits
  universal_takes (suc n) = universal_takes n + ((S n).count + (pin_count n + universal_takes n))

  -- the first wire that the selection block makes, that the Y rows make, that the lower half makes
  abbrev pub select_next : ℕ → ℕ → ℕ
  select_next n next = next + universal_wires n

  abbrev pub mix_next : ℕ → ℕ → ℕ
  mix_next n next = select_next n next + (S n).wires

  abbrev pub lower_half_next : ℕ → ℕ → ℕ
  lower_half_next n next = mix_next n next + pin_count n

  -- the output wires of U(2 ^ n), where `next` is the next unmade wire: upper's, then lower's. Each is a gate row's, whatever the pins
  unfoldable pub universal_outs : ℕ → ℕ → List ℕ
  universal_outs zero next = next ∷ []
  universal_outs (suc n) next = universal_outs n next ++ universal_outs n (lower_half_next n next)

  -- what the selection block gives to the lower half of U(2 * 2 ^ n), and that half's pins
  abbrev pub selected_outs : ℕ → ℕ → List ℕ
  selected_outs n next = (S n).outs (universal_outs n next) (select_next n next)

  abbrev pub lower_pins : ℕ → ℕ → List ℕ
  lower_pins n next = wires_from (pin_count n) (mix_next n next)

  -- the rows of U(2 ^ n) on these pins. U(1) is G; otherwise upper, selection block, Y rows, lower
  unfoldable pub universal_rows : ℕ → List ℕ → ℕ → List Row
  universal_rows zero pins next = Gate (get_or pins 0 0 ∷ get_or pins 1 0 ∷ []) ∷ []
  universal_rows (suc n) pins next =
      universal_rows n (take (pin_count n) pins) next
      ++ ((S n).rows (universal_outs n next) (select_next n next)
      ++ (mix_rows (pin_count n) pins (selected_outs n next)
      ++ universal_rows n (lower_pins n next) (lower_half_next n next)))

-- ---- programming

-- gates whose wires follow `before` others: gate g's own wire is before + g + 1, the operands of its pins 2g and 2g + 1 are wires, and it has
-- a table
pub record Gates : Type 0 where
  pub before : ℕ
  pub operand : ℕ → ℕ
  pub table : ℕ → ℕ

-- the wire of gate g
abbrev pub wire_of : Gates → ℕ → ℕ
wire_of G g = G.before + suc g

-- the bits of a table, the lowest first
unfoldable pub table_program : ℕ → List ℕ
table_program t = list_of gate_bits (λ i. bit_of i t)

-- the wire w is of one of the h gates from `base` on
unfoldable pub is_of : Gates → ℕ → ℕ → ℕ → Bool
is_of G base h w = ltb (G.before + base) w && leb w (G.before + base + h)

-- the input of the selection block, counted from 1, that the pin of operand w wants behind the h gates from `base` on: its operand if that is
-- one of them, otherwise the first
unfoldable pub wanted_gate : Gates → ℕ → ℕ → ℕ → ℕ
wanted_gate G base h w = cond (is_of G base h w) (w - (G.before + base)) 1

-- what the pins of the h gates after the h gates from `base` on want, and their Y rows' bits
unfoldable pub wanted_gates : Gates → ℕ → ℕ → List ℕ
wanted_gates G base h = list_of (operands * h) (λ j. wanted_gate G base h (G.operand (operands * (base + h) + j)))

unfoldable pub mix_bits : Gates → ℕ → ℕ → List ℕ
mix_bits G base h = list_of (operands * h) (λ j. one_if (is_of G base h (G.operand (operands * (base + h) + j))))

-- the program bits of U(2 ^ n) for the gates from `base` on, in the rows' order
unfoldable pub universal_bits : Selector → Gates → ℕ → ℕ → List ℕ
universal_bits S G zero base = table_program (G.table base)
universal_bits S G (suc n) base =
    universal_bits S G n base
    ++ ((S n).bits (wanted_gates G base (2 ^ n)) ++ (mix_bits G base (2 ^ n) ++ universal_bits S G n (base + 2 ^ n)))
