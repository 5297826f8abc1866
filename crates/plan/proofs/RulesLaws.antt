-- The rules as orders between numbers.
use Rattle.std.proofs.Common.{◌≡◌, ℕ, ◌+◌, ◌-◌, ◌<◌, ◌≤◌, Bool, true, ◌&&◌, ltb, leb, ◌↔◌, arith, ltb-true, lt-ltb, le-leb, leb-true}
use mathlib.Core.Bool.{and-eq-true_iff}
use Rattle.plan.specs.Rules.{count_allowed, max_map, map_allowed, operand_allowed, max_table, table_allowed, source_allowed}

-- two tests that both pass
pub both_bounds : {a b : Bool} {P Q : Type 0} → (a ≡ true) ↔ P → (b ≡ true) ↔ Q → (a && b ≡ true) ↔ (P × Q)
both_bounds {a} {b} p q =
    (λ h. let (low, high) = (and-eq-true_iff a b).0 h in (p.0 low, q.0 high), λ h. (and-eq-true_iff a b).1 (p.1 h.0, q.1 h.1))

at_most : (a b : ℕ) → (leb a b ≡ true) ↔ (a ≤ b)
at_most a b = (leb-true a b, le-leb a b)

below : (a b : ℕ) → (ltb a b ≡ true) ↔ (a < b)
below a b = (ltb-true a b, lt-ltb a b)

-- what the rules allow, as bounds
pub count_bounds : (limit n : ℕ) → (count_allowed limit n ≡ true) ↔ ((1 ≤ n) × (n ≤ limit))
unfolding count_allowed
count_bounds limit n = both_bounds (at_most 1 n) (at_most n limit)

pub map-bound : (m : ℕ) → (map_allowed m ≡ true) ↔ (m ≤ max_map)
unfolding map_allowed
map-bound m = at_most m max_map

pub operand_bounds : (own w : ℕ) → (operand_allowed own w ≡ true) ↔ ((1 ≤ w) × (w < own))
unfolding operand_allowed
operand_bounds own w = both_bounds (at_most 1 w) (below w own)

pub table-bound : (t : ℕ) → (table_allowed t ≡ true) ↔ (t ≤ max_table)
unfolding table_allowed
table-bound t = at_most t max_table

pub source_bounds : (u k w : ℕ) → (source_allowed u k w ≡ true) ↔ ((u + 1 ≤ w) × (w ≤ u + k))
unfolding source_allowed
source_bounds u k w = both_bounds (at_most (u + 1) w) (at_most w (u + k))

-- the wire just before a gate is an allowed operand
pub default_allowed : (own : ℕ) → 2 ≤ own → operand_allowed own (own - 1) ≡ true
unfolding operand_allowed
default_allowed own h = rw (le-leb 1 (own - 1) (omega arith), lt-ltb (own - 1) own (omega arith))
