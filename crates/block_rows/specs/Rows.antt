-- Rows in a table of 16-bit entries.
use Rattle.std.specs.Prelude.{ℕ, ◌*◌, ◌%◌, cond, List, [], ◌∷◌, leb, length, get_or}
use Rattle.lists.specs.Lists.{list_of}
use Rattle.fault.specs.Buffers.{over}
use Rattle.elements.specs.declared.Kind.{Kind}
use Rattle.elements.specs.Elements.{max_wires, kind_number}
use Rattle.block_elements.specs.Rows.{Row, stride, flat, row_of}

-- a table with one row in front, if there is room for it
unfoldable pub row_put : ℕ → ℕ → ℕ → List ℕ → List ℕ
row_put kind left right old = cond (leb stride (length old)) (over (kind ∷ left % max_wires ∷ right % max_wires ∷ []) old) old

-- `count` rows of a kind: row i takes the wires at place step * i of two lists
unfoldable pub pair_rows : Kind → ℕ → List ℕ → List ℕ → ℕ → List Row
pair_rows kind count lefts rights step = list_of count (λ i. row_of (kind_number kind) (get_or lefts (step * i) 0) (get_or rights (step * i) 0))

-- a table with these rows in front, if there is room for them
unfoldable pub rows_put : List Row → List ℕ → List ℕ
rows_put rows old = cond (leb (stride * length rows) (length old)) (over (flat rows) old) old
