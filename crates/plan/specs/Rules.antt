-- Document 01, "Refusal table": when numbers 2 to 4 and 6 to 9 are not given.
use Rattle.std.specs.Prelude.{ℕ, ◌+◌, Bool, ◌&&◌, nat_le, nat_lt}

-- a number of inputs, gates or outputs: 1 to its limit
unfoldable pub count_allowed : ℕ → ℕ → Bool
count_allowed limit n = nat_le 1 n && nat_le n limit

-- the map byte in which all three map bits stand
abbrev pub max_map : ℕ
max_map = 7

-- a map byte: not above 7
unfoldable pub map_allowed : ℕ → Bool
map_allowed b = nat_le b max_map

-- an operand: not wire 0, and below the bound: the gate's own wire; in a drawing the wire after the last
unfoldable pub operand_allowed : ℕ → ℕ → Bool
operand_allowed bound w = nat_le 1 w && nat_lt w bound

-- the table in which all four bits stand
abbrev pub max_table : ℕ
max_table = 15

-- a table in memory: not above 15. A table byte has its own limit
unfoldable pub table_allowed : ℕ → Bool
table_allowed t = nat_le t max_table

-- an output: in u + 1 to u + k
unfoldable pub source_allowed : ℕ → ℕ → ℕ → Bool
source_allowed u k w = nat_le (u + 1) w && nat_le w (u + k)
