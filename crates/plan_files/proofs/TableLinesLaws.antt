-- A gate that was read was read field by field: the last of its bytes is its table byte, where one stands. A plan's gates are those of its file, or
-- those of the drawing renumbered, with the same tables; and a gate's bit in evaluation is that of its table.
use Prim.Native.Nat.{ℕ, zero, suc, ◌-◌, ◌/◌, ◌%◌, ◌<◌, ◌≤◌}
use native.Mathlib.Omega.{arith}
use mathlib.Core.Path.{◌≡◌, refl, sym, ap, ◌∙◌}
use mathlib.Core.Bool.{Bool, true, false, true≢false}
use mathlib.Core.List.{List}
use lib.Dec.{leb}
use lib.ListN.{get_or}
use borrow.Author.Tests.{le-leb, lt-leb, leb-true}
use Rattle.fault.specs.declared.Fault.{Fault}
use Rattle.plan.specs.declared.record.Gate.{Gate}
use Rattle.plan.specs.declared.record.Plan.{Plan}
use Rattle.plan.specs.Record.{wire, gate_at}
use Rattle.plan.specs.Rules.{map_allowed, max_table}
use Rattle.plan.specs.Faults.{Accepted}
use Rattle.plan.proofs.RulesLaws.{table-bound}
use Rattle.plan_evaluation_checks.proofs.EvaluationChecksLaws.{row-bit}
use Rattle.plan_evaluation.specs.Evaluation.{wire_bit, table_bit}
use Rattle.plan_evaluation.proofs.EvaluationLaws.{wire-bit, gate-bit}
use Rattle.plan_fields.specs.Parsing.{got, pure, byte_at, field, standing}
use Rattle.plan_fields.specs.Fields.{map_field, operand_field, max_two_lines, table_limit, table_of_byte, table_field, first_place, second_place, table_place, absent_table, map_bit, gate_fields, gate_step_within}
use Rattle.plan_fields.proofs.ParsingLaws.{field-read, field-got, field-bad, both_read}
use Rattle.plan_reading.specs.PlanFile.{plan_read, drawing_read}
use Rattle.plan_order.specs.Drawing.{drawn_order, renumbered, ordered_plan}
use Rattle.plan_drawn.specs.DrawnFile.{drawn_read}
use Rattle.plan_drawn.proofs.WholeFileLaws.{table_on, second_on, FileHeld}
use Rattle.plan_drawn.proofs.DrawingFileLaws.{file-held, plan-got, drawing-got}
use Rattle.plan_drawn.proofs.DrawnTheoremsLaws.{drawn-right_theorem}
use Rattle.plan_files.specs.Encoding.{TwoLines}
use Rattle.plan_files.proofs.ReadFiguresLaws.{read-accepted}
use Rattle.plan_files.specs.TableLines.{line_bit, last_byte, second_stands, table_stands, TableRead, TableReadTheorem, TwoLinesCheckedTheorem, SixteenTablesTheorem}
use Rattle.plan_files.specs.TableLines.{held, gate_offset, LinesFollowed, PlainLinesTheorem, DrawnLinesTheorem}
use Rattle.plan_files.proofs.ReadingLaws.{by_test, whole-stands}
use Rattle.plan_files.proofs.EncodingLaws.{outer_bits, gate-reads, full-gate}

-- ---- a gate where it is read

-- a table that was read: that of the byte before the cursor, which is within its limit; or the absent one
table-read : (stands second : Bool) (s : List ℕ) (at t next : ℕ) → standing stands (table_field second) absent_table s at ≡ got t next
    → (stands ≡ true → (last_byte s next ≤ table_limit second) × (t ≡ table_of_byte second (last_byte s next))) × (stands ≡ false → t ≡ absent_table)
table-read true second s at t next e =
    let (b, mid, here, end) = both_read (λ b. pure (table_of_byte second b)) s (field 1 byte_at (λ b. leb b (table_limit second)) Fault.Table s at) e in
    let (allowed, value, behind) = field-read 1 byte_at (λ b. leb b (table_limit second)) Fault.Table s at (sym here) in
    let table : table_of_byte second b ≡ t = cc in
    let cursor : mid ≡ next = cc in
    let place : next - 1 ≡ at = omega arith in
    (λ _. rw (place, ← value) (leb-true b (table_limit second) allowed, sym table), λ f. absurd (true≢false f))
table-read false second s at t next e = (λ f. absurd (true≢false (sym f)), λ _. let same : absent_table ≡ t = cc in sym same)

-- an operand that is left out
left_out : (bound default : ℕ) (s : List ℕ) (at w next : ℕ) (stands : Bool) → standing stands (operand_field bound) default s at ≡ got w next
    → stands ≡ false → w ≡ default
left_out bound default s at w next true e f = absurd (true≢false f)
left_out bound default s at w next false e f = let same : default ≡ w = cc in sym same

-- the table of a byte of two lines: bits 1 and 2 are clear, and on operand bit x it gives line x
two-lines : (b : ℕ) → TwoLines (table_of_byte false b)
two-lines b = (outer_bits (b % 2) (b / 2 % 2) (omega arith) (omega arith)).2

line-given : (b x : ℕ) → x ≤ 1 → table_bit (table_of_byte false b) x x ≡ line_bit b x
unfolding table_bit
line-given b zero h = let (low, _, _) = outer_bits (b % 2) (b / 2 % 2) (omega arith) (omega arith) in omega arith
line-given b (suc zero) h = (outer_bits (b % 2) (b / 2 % 2) (omega arith) (omega arith)).1
line-given b (suc (suc x)) h = absurd (omega arith)

-- a gate, by what each of its fields was read as
read_so : (s : List ℕ) (at x y t next : ℕ) → (second_stands s at ≡ false → y ≡ x)
    → (table_stands s at ≡ true → (last_byte s next ≤ table_limit (second_stands s at)) × (t ≡ table_of_byte (second_stands s at) (last_byte s next)))
    → (table_stands s at ≡ false → t ≡ absent_table)
    → TableRead s at next (record { first = wire x; second = wire y; table = t })
read_so s at x y t next same here absent = record {
  one = λ f.
      let one-here : table_stands s at ≡ true → (last_byte s next ≤ max_two_lines) × (t ≡ table_of_byte false (last_byte s next)) = rw f at here in
      record {
        equal = ap wire (same f);
        clear = by_test (table_stands s at) (λ h. rw (one-here h).1 (two-lines (last_byte s next))) (λ h. rw (absent h));
        limit = λ h. (one-here h).0;
        table = λ h. (one-here h).1;
        line = λ h x l. rw (one-here h).1 (line-given (last_byte s next) x l);
        absent = absent;
      };
  two = λ f.
      let two_here : table_stands s at ≡ true → (last_byte s next ≤ max_table) × (t ≡ last_byte s next) = rw f at here in
      record { limit = λ h. (two_here h).0; table = λ h. (two_here h).1; absent = absent };
}

-- with m its map byte, x and y its operands, t its table
fields_read : (bound : ℕ) (s : List ℕ) (at m x y b c t d : ℕ) (g : Gate) (next : ℕ) → m ≡ byte_at s at
    → standing (map_bit m second_place) (operand_field bound) x s b ≡ got y c
    → standing (map_bit m table_place) (table_field (map_bit m second_place)) absent_table s c ≡ got t d
    → got (record { first = wire x; second = wire y; table = t }) d ≡ got g next → TableRead s at next g
fields_read bound s at m x y b c t d g next here second table e =
    let same : record { first = wire x; second = wire y; table = t } ≡ g = cc in
    let end : d ≡ next = cc in
    let second-here = rw here at second in
    let (stands, absent) = table-read (table_stands s at) (second_stands s at) s c t d (rw here at table) in
    rw (← same, ← end) (read_so s at x y t d (left_out bound x s b y c (second_stands s at) second-here) stands absent)

pub table-read_theorem : TableReadTheorem
unfolding gate_step_within
table-read_theorem bound own s at next g e =
    let (m, a, map, e) = both_read (gate_fields bound own) s (map_field s at) e in
    let (x, b, first, e) = both_read (second_on bound m) s (standing (map_bit m first_place) (operand_field bound) (own - 1) s a) e in
    let (y, c, second, e) = both_read (table_on m x) s (standing (map_bit m second_place) (operand_field bound) x s b) e in
    let (t, d, table, e) = both_read (λ t. pure (record { first = wire x; second = wire y; table = t })) s
    (standing (map_bit m table_place) (table_field (map_bit m second_place)) absent_table s c) e in
    fields_read bound s at m x y b c t d g next (field-read 1 byte_at map_allowed Fault.Map s at (sym map)).1 second table e

-- ---- the checks of a table of two lines, and the sixteen tables of four

pub two-lines-checked : TwoLinesCheckedTheorem
unfolding gate_step_within
two-lines-checked bound own s at m a w o map first second table room = (
  λ above. rw (map, first, second, table, ← field-bad 1 byte_at (λ b. leb b max_two_lines) Fault.Table s o refl refl (omega arith) (lt-leb _ _ above)),
  λ fits. rw (map, first, second, table, ← field-got 1 byte_at (λ b. leb b max_two_lines) Fault.Table s o refl refl (omega arith) (le-leb _ _ fits)),
)

pub sixteen_tables : SixteenTablesTheorem
sixteen_tables bound own w t allowed h =
    let g : Gate = record { first = wire w; second = wire w; table = t } in
    gate-reads _ bound own _ g 0 _ (record { first = allowed; second = allowed; table = (table-bound t).1 h }) (full-gate own g) whole-stands

-- ---- the gates of a plan

-- a gate with the same table, whose operands are equal where those of the gate that was read are
same-table : (s : List ℕ) (at next : ℕ) (g h : Gate) → h.table ≡ g.table → (g.second ≡ g.first → h.second ≡ h.first) → TableRead s at next g
    → TableRead s at next h
same-table s at next g h table equal r = record {
  one = λ f. let o = r.one f in record {
    equal = equal o.equal;
    clear = rw table o.clear;
    limit = o.limit;
    table = λ e. table ∙ o.table e;
    line = λ e x l. rw table (o.line e x l);
    absent = λ e. table ∙ o.absent e;
  };
  two = λ f. let o = r.two f in record { limit = o.limit; table = λ e. table ∙ o.table e; absent = λ e. table ∙ o.absent e };
}

-- the gate at place p of an accepted plan q, which has such a gate's table
lines-followed : (drawn : Bool) (s : List ℕ) (q : Plan) (p g : ℕ) → FileHeld drawn s (held drawn s) → g < (held drawn s).gate_count
    → Accepted q → p < q.gate_count → (gate_at q p).table ≡ (gate_at (held drawn s) g).table
    → ((gate_at (held drawn s) g).second ≡ (gate_at (held drawn s) g).first → (gate_at q p).second ≡ (gate_at q p).first) → LinesFollowed drawn s q p g
lines-followed drawn s q p g file low accepted place table equal =
    let item = file.gate g low in
    let read = same-table s (gate_offset drawn s g) item.next (gate_at (held drawn s) g) (gate_at q p) table equal
    (table-read_theorem _ _ s (gate_offset drawn s g) item.next _ item.stands) in
    record {
      next = item.next;
      stands = item.stands;
      read = read;
      evaluates = λ f e row contacts.
          let one = read.one f in
          gate-bit q row accepted contacts p place
          ∙ ap (λ w. table_bit (gate_at q p).table (wire_bit q row (gate_at q p).first.0) (wire_bit q row w.0)) one.equal
          ∙ one.line e _ (wire-bit q row (row-bit q.inputs row contacts) q.gate_count ((gate_at q p).first.0 - 1));
    }

pub plain_lines : PlainLinesTheorem
unfolding plan_read
plain_lines s e g low =
    let file = file-held false s (plan-got s e).1 in
    lines-followed false s (plan_read s).plan g g file low (read-accepted s e) low refl (λ h. h)

pub drawn-lines : DrawnLinesTheorem
unfolding drawing_read
drawn-lines s e p low =
    let right = drawn-right_theorem s e in
    let d : Plan = (drawing_read s).plan in
    let low : p < d.gate_count = rw right.plan at low in
    let g : ℕ = get_or (drawn_order d) p 0 in
    let place : get_or (drawn_read s).drawn p 0 - 1 ≡ g = omega (arith, right.list p low) in
    let gate = right.right.gate p low in
    rw (place, right.plan)
    (lines-followed true s (ordered_plan d) p g (file-held true s (drawing-got s right.read).1) (right.order.below p low) right.right.accepted low
    (ap (λ h. h.table) gate) (λ h. rw gate (ap (λ w. wire (renumbered d w.0)) h)))
