-- The kinds of rows from their counts: an X row makes two wires, another row one; a G row takes four bits, another row one.
use Rattle.std.specs.Prelude.{◌+◌, ◌-◌, ◌/◌, ◌≤◌}
use Rattle.elements.specs.declared.Counts.{Counts}
use Rattle.elements.specs.declared.KindCounts.{KindCounts}
use Rattle.fabric_sizes.specs.Parts.{block_limit}

-- X = wires - rows, G = (bits - rows) / 3, and the others are Y
abbrev pub kinds_from : Counts → KindCounts
kinds_from c = record {
  x = c.wires - c.rows;
  y = c.rows - (c.wires - c.rows) - (c.bits - c.rows) / 3;
  g = (c.bits - c.rows) / 3;
  total = c.rows;
}

-- counts that some rows have
pub record HaveKinds (c : Counts) : Type 0 where
  pub few_rows : c.rows ≤ block_limit
  pub wires : c.rows ≤ c.wires
  pub bits : c.rows ≤ c.bits
  pub others : c.wires - c.rows + (c.bits - c.rows) / 3 ≤ c.rows

-- a line of a part of the sheet, whose figures are small
pub record FewKinds (a : KindCounts) : Type 0 where
  pub x : a.x ≤ block_limit
  pub y : a.y ≤ block_limit
  pub g : a.g ≤ block_limit
  pub total : a.total ≤ block_limit
