-- The run on the work buffer, row by row: it stands before the first row, then before each next one, and behind the last it has every wire.
use mathlib.Core.Path.{◌≡◌, refl, sym, ap, ◌∙◌}
use mathlib.Core.List.{List, [], ◌∷◌, ◌++◌}
use Prim.Native.Nat.{ℕ, zero, suc, ◌+◌, ◌≤◌, ◌<◌}
use native.Mathlib.Nat.{add-zero}
use native.Mathlib.Numerals.{add-one}
use native.Mathlib.Omega.{arith}
use lib.ListN.{length, get_or, take, drop, length-append, length-take, length-drop, get_or-append}
use lib.Seq.{sets, length-sets, get_or-take, get_or-drop}
use Rattle.lists.specs.Lists.{list_of}
use Rattle.fault.specs.Buffers.{over}
use Rattle.elements.specs.Elements.{max_wires}
use Rattle.blocks.specs.Elements.{makes, total, stride, row_of, outputs, step, run, gate_on_bits, unpack, AreBits, State}
use Rattle.blocks.proofs.ElementsLaws.{run-append, run-wires, run-bits, unpack-bits}
use Rattle.fabric_sizes.specs.Layout.{inputs_in, rows_in, kind_at, left_at, right_at, row_at, rows_to, wires_before, bits_before, wires_in, bits_in, row_start}
use Rattle.fabric_sizes.proofs.LayoutLaws.{wires-more, bits-more}
use Rattle.fabric_table_checks.specs.declared.table.TableCounts.{TableCounts}
use Rattle.fabric_table_checks.specs.Counting.{kind_wires, CountsOf, CountedBefore}
use Rattle.fabric_table_checks.proofs.CountingLaws.{of_kind_lem, wires_mono, bits_mono, counted-few, counted-one-more}
use Rattle.fabric_run.specs.Running.{run_start, run_wires}
use Rattle.fabric_run.specs.RunRows.{row_state, row_done, kind_entry, left_of, right_of, RowRoom, Runnable}
use Rattle.fabric_run.proofs.RunningLaws.{run-are_bits}
use Rattle.fabric_run.proofs.RowLaws.{sees_row}
use Rattle.series.proofs.CopyingLaws.{sets_over}
use Rattle.fabric_run.proofs.WorkLaws.{over_longer}

-- where a run stands before row i
abbrev pub state_to : List ℕ → List ℕ → List ℕ → ℕ → State ℕ
state_to table program row i = run 0 gate_on_bits (rows_to table i) (run_start table program row)

-- the three entries of row i
pub record EntriesOf (table : List ℕ) (i : ℕ) (entries : List ℕ) : Type 0 where
  pub size : length entries ≡ stride
  pub kind : kind_entry entries ≡ kind_at table i
  pub left : left_of entries ≡ left_at table i
  pub right : right_of entries ≡ right_at table i

-- they stand at its place
pub entries-read : (table : List ℕ) (i at n : ℕ) → at ≡ row_start i → n ≡ stride → at + n ≤ length table → EntriesOf table i (take n (drop at table))
entries-read table i at n is three room =
    let entry : (k : ℕ) → k < stride → get_or (take n (drop at table)) k 0 ≡ get_or table (row_start i + k) 0
    = λ k h. get_or-take n (drop at table) k 0 (omega arith) ∙ get_or-drop at table k 0 ∙ ap (λ x. get_or table (x + k) 0) is in
    record {
      size = omega (arith, length-take n (drop at table), length-drop at table);
      kind = entry 0 (omega arith) ∙ ap (λ x. get_or table x 0) (add-zero (row_start i));
      left = entry 1 (omega arith);
      right = entry 2 (omega arith);
    }

-- before row i: wires and bits are counted, and the work buffer holds the run so far, followed by what stood there
pub record RunStands (table program row old : List ℕ) (i : ℕ) (before : TableCounts) (work : List ℕ) : Type 0 where
  pub ready : Runnable table row (length old)
  pub within : i ≤ rows_in table
  pub counted : CountedBefore table i before
  pub size : length work ≡ length old
  pub held : work ≡ over (state_to table program row i).wires old

module _ (table program row : List ℕ) where
  state-more : (i : ℕ) → state_to table program row (suc i) ≡ step 0 gate_on_bits (row_at table i) (state_to table program row i)
  unfolding list_of run
  state-more i = run-append 0 gate_on_bits (rows_to table i) (row_at table i ∷ []) (run_start table program row)

  wires-done : (i : ℕ) → length row ≡ inputs_in table → length (state_to table program row i).wires ≡ wires_before table i
  unfolding wires_before
  wires-done i e = run-wires 0 gate_on_bits (rows_to table i) (run_start table program row) ∙ ap (λ n. suc n + total makes (rows_to table i)) e

  bits_left : (i : ℕ) → (state_to table program row i).bits ≡ drop (bits_before table i) (unpack (bits_in table) program)
  unfolding bits_before
  bits_left i = run-bits 0 gate_on_bits (rows_to table i) (run_start table program row)

  wires-bits : (i : ℕ) → AreBits row → AreBits (state_to table program row i).wires
  wires-bits i h = run-are_bits (rows_to table i) (run_start table program row) (start-bits h) (unpack-bits (bits_in table) program)
    where
      start-bits : AreBits row → AreBits (0 ∷ row)
      start-bits h = record { each = each }
        where
          each : (j : ℕ) → get_or (0 ∷ row) j 0 < 2
          each zero = omega arith
          each (suc j) = h.each j

module _ {table program row old : List ℕ} {i : ℕ} {before : TableCounts} {work : List ℕ} (now : RunStands table program row old i before work) where
  abbrev ready : Runnable table row (length old)
  ready = now.ready

  abbrev ws : List ℕ
  ws = (state_to table program row i).wires

  done : length ws ≡ wires_before table i
  done = wires-done table program row i ready.contacts

  held-wire : (w : ℕ) → w < wires_before table i → get_or ws w 0 ≡ get_or work w 0
  held-wire w l = sym (ap (λ b. get_or b w 0) now.held ∙ get_or-append ws _ 0 w (rw done l))

  held-bit : (w : ℕ) → w < wires_before table i → get_or work w 0 ≤ 1
  held-bit w l = omega (arith, held-wire w l, (wires-bits table program row i ready.contact_bits).each w)

  module _ (h : i < rows_in table) where
    -- the row's wires are made, with a bit on each, and those that it makes have room
    pub row-ready : {entries : List ℕ} → rows_in table ≤ max_wires → EntriesOf table i entries → RowRoom (kind_wires (kind_entry entries)) entries before work
    unfolding row_at
    row-ready {entries} few e =
        let r = ready.well_formed.row i h in
        let start = ready.well_formed.start in
        let own = of_kind_lem (kind_at table i) (left_at table i) (right_at table i) in
        let new : kind_wires (kind_entry entries) ≡ kind_wires (kind_at table i) = ap kind_wires e.kind in
        record {
          entries = omega (arith, e.size);
          left = omega (arith, e.left, r.left, now.counted.wires);
          right = omega (arith, e.right, r.right, now.counted.wires);
          left_bit = rw e.left (held-bit (left_at table i) r.left);
          right_bit = rw e.right (held-bit (right_at table i) r.right);
          room = omega (arith, new, wires-more table i, wires_mono table (suc i) (rows_in table) h, ready.room, now.size, own.wires, now.counted.wires);
          bits = (counted-few start.inputs (omega arith) now.counted).bits;
        }

    -- it makes what the run makes of it
    row_made : outputs 0 gate_on_bits (row_at table i) (state_to table program row i) ≡ outputs 0 gate_on_bits (row_at table i) (row_state program before.bits work)
    unfolding row_at
    row_made =
        let r = ready.well_formed.row i h in
        let left = bits_left table program row i ∙ ap (λ b. drop b (unpack (bits_in table) program)) (sym now.counted.bits) in
        sees_row program (bits_in table) before.bits work (state_to table program row i) left (left_at table i) (right_at table i)
        (held-wire (left_at table i) r.left) (held-wire (right_at table i) r.right)
        (held-bit (left_at table i) r.left) (held-bit (right_at table i) r.right) (kind_at table i)
        (omega (arith, bits-more table i, bits_mono table (suc i) (rows_in table) h, now.counted.bits))

    pub row_more : row_done (row_at table i) program before work ≡ over (state_to table program row (i + 1)).wires old
    unfolding step
    row_more =
        let new = outputs 0 gate_on_bits (row_at table i) (state_to table program row i) in
        let more : ws ++ new ≡ (state_to table program row (i + 1)).wires = sym (rw (add-one i, state-more table program row i)) in
        let all = wires-done table program row (i + 1) ready.contacts in
        let most = wires_mono table (i + 1) (rows_in table) (omega arith) in
        let room : length ws + length new ≤ length old = omega (arith, simp length-append at (ap length more), ready.room) in
        ap (λ xs. sets work before.wires xs) (sym row_made)
        ∙ ap (λ b. sets b before.wires new) now.held
        ∙ ap (λ n. sets (over ws old) n new) (now.counted.wires ∙ sym done)
        ∙ sets_over ws old new room ∙ ap (λ xs. over xs old) more

    -- behind it the run stands before the next row
    pub stands-more : {entries : List ℕ} (own : TableCounts) (after : List ℕ) → EntriesOf table i entries → CountsOf (kind_entry entries) own
        → after ≡ row_done (row_of (kind_entry entries) (left_of entries) (right_of entries)) program before work
        → RunStands table program row old (i + 1) (record { wires = before.wires + own.wires; bits = before.bits + own.bits }) after
    unfolding row_at
    stands-more own after is counts e =
        let done : after ≡ row_done (row_at table i) program before work = rw (is.kind, is.left, is.right) at e in
        record {
          ready = ready;
          within = omega arith;
          counted = counted-one-more now.counted (rw is.kind at counts);
          size = ap length done ∙ length-sets work before.wires (outputs 0 gate_on_bits (row_at table i) (row_state program before.bits work)) ∙ now.size;
          held = done ∙ row_more;
        }

-- wire 0 and the inputs are wires of the table
start-wires : (table : List ℕ) → suc (inputs_in table) ≤ wires_in table
unfolding wires_before total list_of
start-wires table = omega (arith, wires_mono table 0 (rows_in table) (omega arith))

-- a row of inputs leaves a place on the work buffer for wire 0
pub start-room : {table row : List ℕ} {n : ℕ} → Runnable table row n → length row < n
start-room {table} ready = omega (arith, start-wires table, ready.contacts, ready.room)

-- with wire 0 and the inputs on the work buffer the run stands before the first row
pub stands-first : (table program row old work : List ℕ) (before : TableCounts) → Runnable table row (length work) → CountedBefore table 0 before
    → work ≡ over (0 ∷ row) old → RunStands table program row work 0 before work
unfolding list_of run
stands-first table program row old work before ready counted e = record {
  ready = ready;
  within = omega arith;
  counted = counted;
  size = refl;
  held = rw e (sym (over_longer (0 ∷ row) (0 ∷ row) old (omega arith)));
}

-- behind the last row it has every wire
pub stands-last : {table program row start work : List ℕ} {i : ℕ} {before : TableCounts} (old : List ℕ) → RunStands table program row start i before work
    → i ≡ rows_in table → start ≡ over (0 ∷ row) old → work ≡ over (run_wires table program row) old
unfolding run_wires
stands-last {table} {program} {row} {start} old now all e =
    let ws = (state_to table program row (rows_in table)).wires in
    let l = wires-done table program row (rows_in table) now.ready.contacts in
    now.held ∙ ap (λ n. over (state_to table program row n).wires start) all
    ∙ ap (over ws) e ∙ over_longer ws (0 ∷ row) old (omega (arith, start-wires table, now.ready.contacts))
