-- The series of a well-formed table is one of contacts, and each of its rows can be run; an interval more on the work buffer.
use mathlib.Core.Path.{◌≡◌, refl, ap, ap₂, subst, ◌∙◌}
use mathlib.Core.List.{List, ◌++◌}
use Prim.Native.Nat.{ℕ, zero, suc, ◌+◌, ◌-◌, ◌*◌, ◌≤◌, ◌<◌}
use native.Mathlib.Omega.{arith}
use native.Mathlib.Numerals.{add-one}
use native.Mathlib.Decide.{dec_lt}
use lib.ListN.{length, get_or, take, drop, length-append, length-take, length-drop, get_or-eq_default}
use lib.Seq.{sets, length-sets}
use borrow.Rule.Slice.PartMut.{put_mid}
use Rattle.lists.proofs.ListsLaws.{length-list_of, get_or-list_of}
use Rattle.fault.specs.Buffers.{over}
use Rattle.series.specs.Series.{interval_row, of_last, last_of}
use Rattle.series.proofs.SeriesLaws.{Contacts, ContactSeries, row-contacts, row_ends, SeriesStands, state-lent, series-more}
use Rattle.series.proofs.CopyingLaws.{last_stored}
use Rattle.blocks.specs.Elements.{AreBits}
use Rattle.plan_series_checks.specs.SeriesChecks.{SeriesWithin}
use Rattle.plan_series_checks.proofs.SeriesChecksLaws.{contact-faultless}
use Rattle.fabric_sizes.specs.Layout.{inputs_in, outputs_in, output_wire_at, wires_in}
use Rattle.fabric_table_checks.specs.TableFault.{WellFormed}
use Rattle.fabric_run.specs.Running.{run_wires, run_outputs}
use Rattle.fabric_run.specs.RunRows.{Runnable}
use Rattle.fabric_run.proofs.RunningLaws.{length-run_wires, run_wires-bits}
use Rattle.fabric_run.proofs.WorkLaws.{over_longer, part-stored, work-front}

-- a row of contacts has bits
bits_of : {u : ℕ} {row : List ℕ} → Contacts u row → AreBits row
bits_of c = record { each = λ i. omega (arith, c.bit i) }

-- the run gives v contacts for a row of u
pub length-run_outputs : (table program row : List ℕ) → length (run_outputs table program row) ≡ outputs_in table
unfolding run_outputs
length-run_outputs table program row = length-list_of (outputs_in table) _

output-bit : (table program row : List ℕ) → AreBits row → (i : ℕ) → i < outputs_in table → get_or (run_outputs table program row) i 0 ≤ 1
unfolding run_outputs
output-bit table program row bits i l =
    let wires = run_wires table program row in
    rw (get_or-list_of (outputs_in table) (λ j. get_or wires (output_wire_at table j) 0) i 0 l)
    (omega (arith, (run_wires-bits table program row bits).each (output_wire_at table i)))

outputs-contacts : (table program row : List ℕ) → Contacts (inputs_in table) row → Contacts (outputs_in table) (run_outputs table program row)
outputs-contacts table program row c = record { size = length-run_outputs table program row; bit = λ i. go i (dec_lt i (outputs_in table)) }
  where
    go : (i : ℕ) → Dec (i < outputs_in table) → get_or (run_outputs table program row) i 0 ≤ 1
    go i (yes l) = output-bit table program row (bits_of c) i l
    go i (no l) =
        let size = length-run_outputs table program row in
        rw (get_or-eq_default (run_outputs table program row) 0 {n = i} (omega arith)) (omega arith)

module _ (table program : List ℕ) {h n : ℕ} {fresh start : List ℕ} {results end : ℕ}
    (within : SeriesWithin (inputs_in table) (outputs_in table) h n fresh start results end) where
  whole : inputs_in table - h + h ≡ inputs_in table
  whole = let l = within.hold.inputs in omega arith

  pub run-contacts : ContactSeries (run_outputs table program) (inputs_in table - h) h (outputs_in table) n fresh start
  run-contacts = record {
    gives = λ row c. outputs-contacts table program row (subst (λ m. Contacts m row) whole c);
    held = within.hold.outputs;
    rows = (contact-faultless _ fresh).0 within.fresh_rows;
    state = (contact-faultless h start).0 within.start_state;
  }

  -- the start state has the length of the place where the end state goes
  pub start_fits : (older : List ℕ) → h ≤ length older → length start ≡ length (take h older)
  start_fits older room = omega (arith, run-contacts.state.size, length-take h older)

  -- the start state, copied to where the end state goes
  pub state-started : (older copied : List ℕ) → copied ≡ start → h ≤ length older → copied ++ drop h older ≡ sets older 0 start
  state-started older copied e room = work-front older start copied h e (omega (arith, run-contacts.state.size)) room

  pub state-room : (older copied : List ℕ) → copied ≡ start → h ≤ length (copied ++ drop h older)
  state-room older copied e = omega (arith, ap length e, run-contacts.state.size, length-append copied (drop h older))

  -- the row of interval t
  abbrev row : ℕ → List ℕ
  row t = interval_row (run_outputs table program) (inputs_in table - h) h fresh start t

  pub interval_runnable : WellFormed table → {work : ℕ} → wires_in table ≤ work → (t : ℕ) → t < n → Runnable table (row t) work
  interval_runnable well_formed room t l =
      let c = subst (λ m. Contacts m (row t)) whole (row-contacts run-contacts t l) in
      record { well_formed = well_formed; contacts = c.size; contact_bits = bits_of c; room = room }

  -- its fresh entries and its results lie within the lent buffers
  pub fresh_ends : {count : ℕ} (t : ℕ) → t < n → count ≡ inputs_in table - h → t * count + count ≤ length fresh
  fresh_ends t l e = rw e (omega (arith, row_ends t n (inputs_in table - h) l, run-contacts.rows.size))

  pub results-end : {count : ℕ} (t : ℕ) → t < n → count ≡ outputs_in table → t * count + count ≤ results
  results-end t l e = rw e (omega (arith, row_ends t n (outputs_in table) l, within.rows_room))

  pub out_places : {v : ℕ} (results' : List ℕ) (t : ℕ) → t < n → v ≡ outputs_in table → length results' ≡ results
      → length (take (t * v + v - t * v) (drop (t * v) results')) ≡ outputs_in table
  out_places {v} results' t l e size =
      omega (arith, results-end t l e, length-take (t * v + v - t * v) (drop (t * v) results'), length-drop (t * v) results')

  -- the row that it is lent, behind which the state stands
  pub row_lent : {count : ℕ} {results₀ end₀ results' end' : List ℕ} (t : ℕ) → t < n → count ≡ inputs_in table - h
      → SeriesStands (run_outputs table program) (inputs_in table - h) h fresh start results₀ end₀ t results' end'
      → take (t * count + count - t * count) (drop (t * count) fresh) ++ take h end' ≡ row t
  row_lent {count} t l e now =
      let long : t * count + count - t * count ≡ count = omega arith in
      ap₂ (λ (r s : List ℕ). r ++ s) (rw long (ap (λ m. take m (drop (t * m) fresh)) e)) (state-lent run-contacts now (omega arith))

  -- one interval more: its outputs behind the rows, the last of them in the state's place
  pub interval_more : {v k x y : ℕ} {results₀ end₀ results' end' out tail : List ℕ} (t : ℕ) → t < n → v ≡ outputs_in table → k ≡ v → x ≡ t * v → y ≡ t * v + v
      → length results₀ ≡ results → length results' ≡ results → h ≤ length end₀ → length end' ≡ length end₀
      → SeriesStands (run_outputs table program) (inputs_in table - h) h fresh start results₀ end₀ t results' end'
      → out ≡ run_outputs table program (row t) → tail ≡ take (y - (y - h)) (drop (y - h) (put_mid x k results' out))
      → (length (put_mid x k results' out) ≡ length results')
      × SeriesStands (run_outputs table program) (inputs_in table - h) h fresh start results₀ end₀ (t + 1) (put_mid x k results' out) (tail ++ drop h end')
  interval_more {v} {k} {x} {y} {results'} {end'} {out} {tail} t l ev ek ex ey size₀ size' place long now eo et =
      let outs = run_outputs table program (row t) in
      let all = length-run_outputs table program (row t) in
      let at : x ≡ t * outputs_in table = ex ∙ ap (λ m. t * m) ev in
      let past : y - h ≡ t * outputs_in table + outputs_in table - h = ap (λ m. m - h) (ey ∙ ap (λ m. t * m + m) ev) in
      let held = within.hold.outputs in
      let room = results-end t l ev in
      let back : y - (y - h) ≡ h = omega arith in
      let rows = part-stored results' outs out x k eo (omega arith) (omega arith) ∙ ap (λ m. sets results' m outs) at in
      let last = et ∙ ap (λ m. take m (drop (y - h) (put_mid x k results' out))) back
      ∙ ap (λ m. take h (drop m (put_mid x k results' out))) past
      ∙ ap (λ b. take h (drop (t * outputs_in table + outputs_in table - h) b)) rows
      ∙ last_stored results' outs (t * outputs_in table) h (outputs_in table) all held (omega (arith, results-end t l refl)) in
      let state = work-front end' (last_of h outs) tail h last (omega (arith, length-drop (length outs - h) outs)) (omega arith) in
      (ap length rows ∙ length-sets results' (t * outputs_in table) outs, series-more run-contacts now l (omega (arith, within.rows_room)) place rows state)

  -- the wires of interval t behind those of the interval before
  pub work-more : (work₀ : List ℕ) {work after : List ℕ} (t : ℕ) → t < n
      → work ≡ over (of_last (run_outputs table program) (inputs_in table - h) h fresh start (run_wires table program) t) work₀
      → after ≡ over (run_wires table program (row t)) work
      → after ≡ over (of_last (run_outputs table program) (inputs_in table - h) h fresh start (run_wires table program) (t + 1)) work₀
  work-more work₀ t l held e =
      rw (add-one t) (e ∙ ap (over (run_wires table program (row t))) held ∙ over_longer (run_wires table program (row t)) (last t) work₀ (before t l))
    where
      last : ℕ → List ℕ
      last s = of_last (run_outputs table program) (inputs_in table - h) h fresh start (run_wires table program) s

      size : (s : ℕ) → s < n → length (run_wires table program (row s)) ≡ wires_in table
      size s m = length-run_wires table program (row s) (subst (λ m. Contacts m (row s)) whole (row-contacts run-contacts s m)).size

      before : (s : ℕ) → s < n → length (last s) ≤ length (run_wires table program (row s))
      before zero m = omega arith
      before (suc s) m = omega (arith, size s (omega arith), size (suc s) m)
