-- The table of a byte within its limit is a table.
use Prim.Native.Nat.{ℕ, ◌≤◌}
use native.Mathlib.Omega.{arith}
use mathlib.Core.Bool.{Bool, true, false}
use Rattle.plan.specs.Rules.{max_table}
use Rattle.plan_fields.specs.Fields.{table_limit, table_of_byte}

pub byte-table-bound : (second : Bool) (b : ℕ) → b ≤ table_limit second → table_of_byte second b ≤ max_table
byte-table-bound true b h = h
byte-table-bound false b h = omega arith
