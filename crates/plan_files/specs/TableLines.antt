-- Document 02, W4: "a gate drawn with one operand has a table of two lines". What is proved of table bytes: of a gate where it is read, and of the
-- gates of a plan that either reading hands back.
use Rattle.std.specs.Prelude.{ℕ, ◌+◌, ◌-◌, ◌/◌, ◌%◌, ◌^◌, ◌<◌, ◌≤◌, ◌≡◌, Bool, true, false, List, length, get_or}
use Rattle.plan.specs.declared.record.Gate.{Gate}
use Rattle.plan.specs.declared.record.Plan.{Plan}
use Rattle.plan.specs.Record.{wire, gate_at, gate_wire}
use Rattle.plan.specs.Rules.{max_map, operand_allowed, max_table}
use Rattle.plan_evaluation_checks.specs.EvaluationChecks.{contact_fault}
use Rattle.plan_evaluation.specs.Evaluation.{wire_bit, table_bit}
use Rattle.plan_fields.specs.Parsing.{got, refused, byte_at, standing}
use Rattle.plan_fields.specs.Fields.{map_field, operand_field, max_two_lines, table_of_byte, first_place, second_place, table_place, absent_table, map_bit, gate_step_within}
use Rattle.plan_reading.specs.PlanFile.{operand_bound, gate_steps, header_bytes, whole_file, parsed_outcome, plan_read}
use Rattle.plan_drawn.specs.DrawnFile.{cursor_behind, drawn_read}
use Rattle.plan_files.specs.Encoding.{TwoLines, encode_gate, gate_bytes}

-- line x of a table of two lines: for operand x
abbrev pub line_bit : ℕ → ℕ → ℕ
line_bit b x = b / 2 ^ x % 2

-- the byte before a cursor
abbrev pub last_byte : List ℕ → ℕ → ℕ
last_byte s next = byte_at s (next - 1)

-- a gate in a file s: `at` is the offset of its map byte
module _ (s : List ℕ) (at : ℕ) where
  -- whether its second operand stands, and whether its table stands
  abbrev pub second_stands : Bool
  second_stands = map_bit (byte_at s at) second_place

  abbrev pub table_stands : Bool
  table_stands = map_bit (byte_at s at) table_place

  -- it was read as g: `next` is the offset behind its last byte, which is its table byte where one stands
  module _ (next : ℕ) (g : Gate) where
    -- one operand: the operands are equal and bits 1 and 2 of the table are clear. A table byte is 0 to 3, and on operand bit x the table gives its line x
    pub record OneOperand : Type 0 where
      pub equal : g.second ≡ g.first
      pub clear : TwoLines g.table
      pub limit : table_stands ≡ true → last_byte s next ≤ max_two_lines
      pub table : table_stands ≡ true → g.table ≡ table_of_byte false (last_byte s next)
      pub line : table_stands ≡ true → (x : ℕ) → x ≤ 1 → table_bit g.table x x ≡ line_bit (last_byte s next) x
      pub absent : table_stands ≡ false → g.table ≡ absent_table

    -- two operands, equal or not: the table is the byte, 0 to 15
    pub record TwoOperands : Type 0 where
      pub limit : table_stands ≡ true → last_byte s next ≤ max_table
      pub table : table_stands ≡ true → g.table ≡ last_byte s next
      pub absent : table_stands ≡ false → g.table ≡ absent_table

    -- by whether the second operand stands
    pub record TableRead : Type 0 where
      pub one : second_stands ≡ false → OneOperand
      pub two : second_stands ≡ true → TwoOperands

-- of every gate that is read, within any bound
abbrev pub TableReadTheorem : Type 0
TableReadTheorem = (bound own : ℕ) (s : List ℕ) (at next : ℕ) (g : Gate) → gate_step_within bound own s at ≡ got g next → TableRead s at next g

-- "8 is given above 3 where the second operand is absent", at the table byte; up to 3 the gate is read. At o the table byte stands, behind a map byte m
-- without the second operand and the first operand w
abbrev pub TwoLinesCheckedTheorem : Type 0
TwoLinesCheckedTheorem = (bound own : ℕ) (s : List ℕ) (at m a w o : ℕ) → map_field s at ≡ got m a
    → standing (map_bit m first_place) (operand_field bound) (own - 1) s a ≡ got w o
    → map_bit m second_place ≡ false → map_bit m table_place ≡ true → o < length s
    → (max_two_lines < byte_at s o → gate_step_within bound own s at ≡ refused 8 o)
    × (byte_at s o ≤ max_two_lines
    → gate_step_within bound own s at ≡ got (record { first = wire w; second = wire w; table = table_of_byte false (byte_at s o) }) (o + 1))

-- a standing second operand that is equal keeps all sixteen tables: each is read from the gate's bytes in which every field stands
abbrev pub SixteenTablesTheorem : Type 0
SixteenTablesTheorem = (bound own w t : ℕ) → operand_allowed bound w ≡ true → t ≤ max_table →
    let g : Gate = record { first = wire w; second = wire w; table = t } in gate_step_within bound own (encode_gate max_map g) 0 ≡ got g gate_bytes

module _ (drawn : Bool) (s : List ℕ) where
  -- the record that the file holds, of a plan or of a drawing
  abbrev pub held : Plan
  held = (parsed_outcome (whole_file drawn s 0)).plan

  -- where the map byte of its gate g, counted from 0, stands: behind the gates before it
  abbrev pub gate_offset : ℕ → ℕ
  gate_offset g = cursor_behind (gate_steps drawn held.inputs held.gate_count g s header_bytes)

  -- the gate at place p of the plan q comes from gate g of the file: its table is read there; and where it has one operand and a table byte, its wire
  -- has in evaluation line x of that byte, x the bit of its operand
  pub record LinesFollowed (q : Plan) (p g : ℕ) : Type 0 where
    pub next : ℕ
    pub stands : gate_step_within (operand_bound drawn held.inputs held.gate_count g) (gate_wire held.inputs g) s (gate_offset g)
        ≡ got (gate_at held g) next
    pub read : TableRead s (gate_offset g) next (gate_at q p)
    pub evaluates : second_stands s (gate_offset g) ≡ false → table_stands s (gate_offset g) ≡ true
        → (row : List ℕ) → contact_fault q.inputs row ≡ 0
        → wire_bit q row (gate_wire q.inputs p) ≡ line_bit (last_byte s next) (wire_bit q row (gate_at q p).first.0)

-- every gate of a plan that the plain reading hands back
abbrev pub PlainLinesTheorem : Type 0
PlainLinesTheorem = (s : List ℕ) → (plan_read s).number ≡ 0 → (g : ℕ) → g < (plan_read s).plan.gate_count → LinesFollowed false s (plan_read s).plan g g

-- and of one that drawn reading hands back, by the drawn number of each place
abbrev pub DrawnLinesTheorem : Type 0
DrawnLinesTheorem = (s : List ℕ) → (drawn_read s).number ≡ 0 → (p : ℕ) → p < (drawn_read s).plan.gate_count
    → LinesFollowed true s (drawn_read s).plan p (get_or (drawn_read s).drawn p 0 - 1)
