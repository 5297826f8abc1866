-- Document 01, "Elements and their table": what stands where in a table, u, v, R; then kind, left wire, right wire per row; then v output wires; and
-- the wires and program bits that its rows make and take. Rows and outputs count from 0.
use Rattle.std.specs.Prelude.{ℕ, suc, ◌+◌, ◌*◌, List, get_or}
use Rattle.lists.specs.Lists.{list_of}
use Rattle.blocks.specs.Elements.{Row, stride, makes, takes, total, row_of}

-- ---- where the entries stand

-- the entries before the rows
abbrev pub header : ℕ
header = 3

-- which of them are u, v and the number of rows
abbrev pub inputs_place : ℕ
inputs_place = 0

abbrev pub outputs_place : ℕ
outputs_place = 1

abbrev pub rows_place : ℕ
rows_place = 2

-- which entries of a row are its left and its right wire; its kind is the first, with the number 0
abbrev pub left_place : ℕ
left_place = 1

abbrev pub right_place : ℕ
right_place = 2

-- where row i begins; behind the last row stand the output wires
abbrev pub row_start : ℕ → ℕ
row_start i = header + stride * i

-- ---- what stands there

abbrev pub inputs_in : List ℕ → ℕ
inputs_in table = get_or table inputs_place 0

abbrev pub outputs_in : List ℕ → ℕ
outputs_in table = get_or table outputs_place 0

abbrev pub rows_in : List ℕ → ℕ
rows_in table = get_or table rows_place 0

-- row i: its kind, its left and its right wire
abbrev pub kind_at : List ℕ → ℕ → ℕ
kind_at table i = get_or table (row_start i) 0

abbrev pub left_at : List ℕ → ℕ → ℕ
left_at table i = get_or table (row_start i + left_place) 0

abbrev pub right_at : List ℕ → ℕ → ℕ
right_at table i = get_or table (row_start i + right_place) 0

unfoldable pub row_at : List ℕ → ℕ → Row
row_at table i = row_of (kind_at table i) (left_at table i) (right_at table i)

-- output wire j
abbrev pub output_wire_at : List ℕ → ℕ → ℕ
output_wire_at table j = get_or table (row_start (rows_in table) + j) 0

-- the first n rows, and all of them
abbrev pub rows_to : List ℕ → ℕ → List Row
rows_to table n = list_of n (row_at table)

abbrev pub table_rows : List ℕ → List Row
table_rows table = rows_to table (rows_in table)

-- the wires made before row i: wire 0, the inputs, and the earlier rows'
unfoldable pub wires_before : List ℕ → ℕ → ℕ
wires_before table i = suc (inputs_in table) + total makes (rows_to table i)

-- the program bits before row i's
unfoldable pub bits_before : List ℕ → ℕ → ℕ
bits_before table i = total takes (rows_to table i)

-- all wires, all program bits
abbrev pub wires_in : List ℕ → ℕ
wires_in table = wires_before table (rows_in table)

abbrev pub bits_in : List ℕ → ℕ
bits_in table = bits_before table (rows_in table)
