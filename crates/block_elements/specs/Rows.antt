-- Document 01, "Elements and their table": the rows X, Y and G, their entries in the table, and what a run of them does.
-- The run is defined over wires that carry values of any type A; bits are one instance. It only appends: a wire keeps its value.
use Rattle.std.specs.Prelude.{ℕ, zero, suc, ◌+◌, ◌*◌, ◌^◌, ◌<◌, ◌≡◌, List, [], ◌∷◌, ◌++◌, map, length, get_or, take, drop}
use Rattle.lists.specs.Lists.{Below, Every}

-- an element with its input wires: X and Y have a left and a right one, a gate (document 01: G) has a list of operand wires
pub data Row : Type 0 where
  X Y : ℕ → ℕ → Row
  Gate : List ℕ → Row

-- a row's input wires
unfoldable pub inputs_of : Row → List ℕ
inputs_of (X l r) = l ∷ r ∷ []
inputs_of (Y l r) = l ∷ r ∷ []
inputs_of (Gate ws) = ws

-- how many wires a row makes: its outputs
unfoldable pub makes : Row → ℕ
makes (X l r) = 2
makes (Y l r) = 1
makes (Gate ws) = 1

-- the bits of a gate's table: a line for each choice of operand bits
abbrev pub table_bits : List ℕ → ℕ
table_bits ws = 2 ^ length ws

-- how many program bits a row takes; a gate takes its table
unfoldable pub takes : Row → ℕ
takes (X l r) = 1
takes (Y l r) = 1
takes (Gate ws) = table_bits ws

-- how many gates a row is
unfoldable pub gates_in : Row → ℕ
gates_in (X l r) = 0
gates_in (Y l r) = 0
gates_in (Gate ws) = 1

-- a figure of each row, added up over a list of rows
unfoldable pub total : (Row → ℕ) → List Row → ℕ
total f [] = 0
total f (row ∷ rows) = f row + total f rows

-- ---- the table's entries

-- the operands of a gate in this family of fabrics
abbrev pub operands : ℕ
operands = 2

-- the entries of a row in the table: its kind, and as many wires as a gate has operands
abbrev pub stride : ℕ
stride = suc operands

-- the program bits of a gate: four
abbrev pub gate_bits : ℕ
gate_bits = 2 ^ operands

-- kind 1 X, 2 Y, 3 G; then the left and the right wire
unfoldable pub entries : Row → List ℕ
entries (X l r) = 1 ∷ l ∷ r ∷ []
entries (Y l r) = 2 ∷ l ∷ r ∷ []
entries (Gate ws) = 3 ∷ ws

-- the entries of a list of rows, row after row
unfoldable pub flat : List Row → List ℕ
flat [] = []
flat (row ∷ rows) = entries row ++ flat rows

-- the row of a kind with these wires; a kind that document 01 calls malformed is read as a gate
unfoldable pub row_of : ℕ → ℕ → ℕ → Row
row_of zero l r = Gate (l ∷ r ∷ [])
row_of (suc zero) l r = X l r
row_of (suc (suc zero)) l r = Y l r
row_of (suc (suc (suc k))) l r = Gate (l ∷ r ∷ [])

-- the rows of a table's entries
unfoldable pub decode : List ℕ → List Row
decode [] = []
decode (k ∷ []) = []
decode (k ∷ l ∷ []) = []
decode (k ∷ l ∷ r ∷ es) = row_of k l r ∷ decode es

-- a row of this family: as many input wires as a gate has operands
abbrev pub InFamily : Row → Type 0
InFamily row = length (inputs_of row) ≡ operands

-- each row's wires are made before that row, where the first row makes the wire `next`
pub data MadeBefore : ℕ → List Row → Type 0 where
  made_none : {next : ℕ} → MadeBefore next []
  made_more : {next : ℕ} {row : Row} {rows : List Row} → Below next (inputs_of row) → MadeBefore (next + makes row) rows → MadeBefore next (row ∷ rows)

-- ---- the run

-- bit 0: the left value; bit 1: the right one
unfoldable pub choose : {A : Type 0} → ℕ → A → A → A
choose zero left right = left
choose (suc b) left right = right

-- where a run stands: the values on the wires made so far, the program bits that are left, the number of the next gate row
pub record State (A : Type 0) : Type 0 where
  pub wires : List A
  pub bits : List ℕ
  pub gates : ℕ

-- what the wire w carries, where an unmade wire carries `none`
abbrev pub on : {A : Type 0} → A → State A → ℕ → A
on none s w = get_or s.wires w none

-- a gate's value is made of its number among the gate rows, counted from 0, of its table's bits, the lowest first, and of its
-- operands' values
module _ {A : Type 0} (none : A) (gate : ℕ → List ℕ → List A → A) where
  -- the values that a row makes. X: bit 0 straight, bit 1 crossed
  unfoldable pub outputs : Row → State A → List A
  outputs (X l r) s =
      choose (get_or s.bits 0 0) (on none s l) (on none s r) ∷ choose (get_or s.bits 0 0) (on none s r) (on none s l) ∷ []
  outputs (Y l r) s = choose (get_or s.bits 0 0) (on none s l) (on none s r) ∷ []
  outputs (Gate ws) s = gate s.gates (take (table_bits ws) s.bits) (map (on none s) ws) ∷ []

  -- one row: it makes its wires and uses up its bits
  unfoldable pub step : Row → State A → State A
  step row s = record {
    wires = s.wires ++ outputs row s;
    bits = drop (takes row) s.bits;
    gates = s.gates + gates_in row;
  }

  -- the rows in order
  unfoldable pub run : List Row → State A → State A
  run [] s = s
  run (row ∷ rows) s = run rows (step row s)

-- the line of a table for these operand bits, counted from 0: of a and b it is 2a + b
unfoldable pub line_of : ℕ → List ℕ → ℕ
line_of before [] = before
line_of before (a ∷ more) = line_of (2 * before + a) more

-- the action of a gate on bits: "used as a plan's table is", bit 2a + b of the table
unfoldable pub gate_on_bits : ℕ → List ℕ → List ℕ → ℕ
gate_on_bits number table operands = get_or table (line_of 0 operands) 0

-- a block's run from s to t: each of its `size` outputs o carries what its input π o carried, the wires there were are kept, `made` wires
-- are made, the bits `rest` are left, and no gate was run
pub record Delivered {A : Type 0} (none : A) (size : ℕ) (π : ℕ → ℕ) (ins outs : List ℕ) (s t : State A) (made : ℕ) (rest : List ℕ) : Type 0 where
  pub carried : (o : ℕ) → o < size → on none t (get_or outs o 0) ≡ on none s (get_or ins (π o) 0)
  pub kept : (w : ℕ) → w < length s.wires → on none t w ≡ on none s w
  pub wires : length t.wires ≡ length s.wires + made
  pub bits : t.bits ≡ rest
  pub gates : t.gates ≡ s.gates

-- rows of this family that make `made` wires and take `taken` bits, `count` of them gates
pub record Totals (rows : List Row) (made taken count : ℕ) : Type 0 where
  pub wires : total makes rows ≡ made
  pub bits : total takes rows ≡ taken
  pub gates : total gates_in rows ≡ count
  pub family : Every InFamily rows
