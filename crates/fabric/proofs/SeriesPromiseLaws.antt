-- A series of runs that equal the plan equals the plan's series. From single runs alone it follows that the table is well formed with the plan's counts,
-- that the program is exact, and that run and evaluation give the same outputs.
use mathlib.Core.Path.{◌≡◌, sym, ap, subst, ◌∙◌}
use mathlib.Core.List.{List}
use Prim.Native.Nat.{ℕ, ◌+◌, ◌-◌, ◌*◌, ◌≤◌, ◌<◌}
use native.Mathlib.Omega.{arith}
use native.Mathlib.Decide.{dec_lt}
use borrow.Author.Tests.{leb-true, le-leb}
use lib.Dec.{leb}
use lib.ListN.{length, get_or, drop, replicate, length-replicate, get_or-replicate, get_or-append, get_or-eq_default}
use lib.Seq.{ext_get_or, get_or-append-add, get_or-drop}
use Rattle.fault.specs.declared.Fault.{Fault}
use Rattle.fault.specs.Buffers.{over, filled}
use Rattle.fault.specs.Checks.{room_fault}
use Rattle.fault.proofs.ChecksLaws.{unless-zero, and_then-zero}
use Rattle.series.specs.Series.{state_after, series_rows, interval_row}
use Rattle.series.proofs.SeriesLaws.{Contacts, ContactSeries, row-contacts, rows-length, state-contacts, same-state, same_rows}
use Rattle.plan.specs.declared.record.Plan.{Plan}
use Rattle.plan.specs.Faults.{Accepted}
use Rattle.plan_evaluation_checks.specs.EvaluationChecks.{contact_fault, evaluate_fault}
use Rattle.plan_evaluation_checks.proofs.EvaluationChecksLaws.{row-length}
use Rattle.plan_series_checks.specs.SeriesChecks.{SeriesWithin, plan_series_fault}
use Rattle.plan_series_checks.proofs.SeriesChecksLaws.{series-faultless, contact-faultless}
use Rattle.plan_evaluation.specs.Evaluation.{plan_outputs, gate_bit}
use Rattle.plan_evaluation.proofs.EvaluationLaws.{length-plan_outputs, plan_outputs-bits}
use Rattle.plan_evaluation.proofs.PlanSeriesLaws.{plan-contacts}
use Rattle.fabric_sizes.specs.Layout.{inputs_in, outputs_in, wires_in}
use Rattle.fabric_run_checks.specs.RunFault.{given_fault, run_fault, run_series_fault}
use Rattle.fabric_run.specs.Running.{run_outputs}
use Rattle.fabric_run.proofs.RunSeriesLaws.{length-run_outputs}
use Rattle.fabric.specs.SeriesPromise.{RowGiven, RunsAsPlan, SeriesGiven, SeriesRooms, SeriesSame, SeriesPromise}

-- lists of one number
long : (n x : ℕ) → length (replicate n x) ≡ n
long n x = length-replicate n x

each : (n x i : ℕ) → i < n → get_or (replicate n x) i 0 ≡ x
each n x i l = get_or-replicate n i x 0 l

-- where neither call refuses, what they write is the same entry by entry if it is the same list
entry-same : (new : List ℕ) {a b : ℕ} {other : List ℕ} → a ≡ 0 → b ≡ 0 → other ≡ new → (old₁ old₂ : List ℕ) (j : ℕ) → j < length new
    → get_or (filled a other old₁) j 0 ≡ get_or (filled b new old₂) j 0
entry-same new za zb e old₁ old₂ j l = rw (za, zb, e) (get_or-append new _ 0 j l ∙ sym (get_or-append new _ 0 j l))

-- what a run that is not refused says of its table
record RunSays (table program row : List ℕ) (work ran : ℕ) : Type 0 where
  given : given_fault table program ≡ 0
  inputs : length row ≡ inputs_in table
  wires : wires_in table ≤ work
  outputs : outputs_in table ≤ ran

run-says : (table program row : List ℕ) (work ran : ℕ) → run_fault table program row work ran ≡ 0 → RunSays table program row work ran
unfolding run_fault room_fault
run-says table program row work ran e =
    let g = (and_then-zero (given_fault table program) _).0 e in
    let c = (and_then-zero (contact_fault (inputs_in table) row) _).0 g.1 in
    let r = (and_then-zero (room_fault (wires_in table) work) (room_fault (outputs_in table) ran)).0 c.1 in
    record {
      given = g.0;
      inputs = row-length (inputs_in table) row c.0;
      wires = leb-true (wires_in table) work ((unless-zero (leb (wires_in table) work) Fault.Short).0 r.0);
      outputs = leb-true (outputs_in table) ran ((unless-zero (leb (outputs_in table) ran) Fault.Short).0 r.1);
    }

module _ (p : Plan) (table program : List ℕ) (w : ℕ) (accepted : Accepted p) (as-plan : RunsAsPlan p table program w) where
  abbrev u : ℕ
  u = p.inputs

  abbrev v : ℕ
  v = p.output_count

  -- buffers of just the stated lengths, whose entries are no bits
  abbrev some-work : List ℕ
  some-work = replicate w 2

  abbrev some_result : List ℕ
  some_result = replicate v 2

  given-row : (row : List ℕ) → Contacts u row → RowGiven p w row some-work some_result some_result
  given-row row c = record {
    contacts = (contact-faultless u row).1 c;
    work_room = omega (arith, long w 2);
    ran_room = omega (arith, long v 2);
    evaluated_room = omega (arith, long v 2);
  }

  says : (row : List ℕ) → Contacts u row → RunSays table program row w v
  says row c = subst (λ n. RunSays table program row n v) (long w 2) (subst (λ n. RunSays table program row (length some-work) n) (long v 2)
      (run-says table program row (length some-work) (length some_result) (as-plan.runs row some-work some_result some_result (given-row row c))))

  -- a row of contacts there is
  zeros : Contacts u (replicate u 0)
  zeros = record { size = long u 0; bit = λ i. go i (dec_lt i u) }
    where
      go : (i : ℕ) → Dec (i < u) → get_or (replicate u 0) i 0 ≤ 1
      go i (yes l) = rw (each u 0 i l) (omega arith)
      go i (no l) = rw (get_or-eq_default {A = ℕ} (replicate u 0) 0 {n = i} (omega (arith, long u 0))) (omega arith)

  shape : RunSays table program (replicate u 0) w v
  shape = says (replicate u 0) zeros

  -- the table has the plan's inputs
  same_inputs : inputs_in table ≡ u
  same_inputs = sym shape.inputs ∙ long u 0

  -- on a row of contacts: what the run and evaluation leave, entry by entry
  module _ (row : List ℕ) (c : Contacts u row) where
    abbrev ran_out : List ℕ
    ran_out = run_outputs table program row

    abbrev plan-out : List ℕ
    plan-out = plan_outputs 0 gate_bit p row

    evaluates : evaluate_fault p row (length some_result) ≡ 0
    unfolding room_fault
    evaluates = rw (accepted, (contact-faultless u row).1 c, le-leb v (length some_result) (omega (arith, long v 2)))

    left : (j : ℕ) → j < v → get_or (over ran_out some_result) j 0 ≡ get_or plan-out j 0
    left j l =
        let unrefused = as-plan.runs row some-work some_result some_result (given-row row c) in
        let same = as-plan.same row some-work some_result some_result (given-row row c) j l in
        ap (λ z. get_or (filled z ran_out some_result) j 0) (sym unrefused) ∙ same ∙ ap (λ z. get_or (filled z plan-out some_result) j 0) evaluates
        ∙ get_or-append plan-out (drop (length plan-out) some_result) 0 j (omega (arith, length-plan_outputs p row))

    -- no output is left out: what stood in the buffer was no bit
    all-outputs : ¬ (outputs_in table < v)
    all-outputs few =
        let size = length-run_outputs table program row in
        let j = outputs_in table in
        let stood : get_or (over ran_out some_result) j 0 ≡ 2 =
        ap (λ m. get_or (over ran_out some_result) m 0) (sym size ∙ omega arith) ∙ get_or-append-add ran_out (drop (length ran_out) some_result) 0 0
        ∙ get_or-drop (length ran_out) some_result 0 0 ∙ ap (λ m. get_or some_result m 0) (omega (arith, size)) ∙ each v 2 j few in
        absurd (omega (arith, stood, left j few, plan_outputs-bits p row ((contact-faultless u row).1 c) j few))

  same-outputs : outputs_in table ≡ v
  same-outputs = let most = shape.outputs in let least = all-outputs (replicate u 0) zeros in omega arith

  -- so run and evaluation give the same
  same_step : (row : List ℕ) → Contacts u row → run_outputs table program row ≡ plan_outputs 0 gate_bit p row
  same_step row c =
      let ran = length-run_outputs table program row ∙ same-outputs in
      let evaluated = length-plan_outputs p row in
      ext_get_or 0 (ran_out row c) (plan-out row c) (ran ∙ sym evaluated) (λ i l.
      sym (get_or-append (ran_out row c) (drop (length (ran_out row c)) some_result) 0 i l) ∙ left row c i (omega arith))

  -- ---- a series

  module _ (h n : ℕ) (fresh start work ran ranEnd evaluated evaluatedEnd : List ℕ) (given : SeriesGiven p h n fresh start)
      (rooms : SeriesRooms p w h n (length work) (length ran) (length ranEnd) (length evaluated) (length evaluatedEnd)) where
    within : (results end : ℕ) → n * v ≤ results → h ≤ end → SeriesWithin u v h n fresh start results end
    within results end r e = record {
      hold = given.hold;
      fresh_rows = given.fresh_rows;
      start_state = given.start_state;
      rows_room = r;
      state_room = e;
    }

    contacts : ContactSeries (plan_outputs 0 gate_bit p) (u - h) h v n fresh start
    contacts = plan-contacts p (within (length evaluated) (length evaluatedEnd) rooms.evaluated_room rooms.evaluated_end_room)

    plan-series : plan_series_fault p h n fresh start (length evaluated) (length evaluatedEnd) ≡ 0
    plan-series =
        rw accepted ((series-faultless u v h n fresh start (length evaluated) (length evaluatedEnd)).1
        (within (length evaluated) (length evaluatedEnd) rooms.evaluated_room rooms.evaluated_end_room))

    run-series : run_series_fault table program h n fresh start (length work) (length ran) (length ranEnd) ≡ 0
    unfolding run_series_fault room_fault
    run-series =
        let wires = shape.wires in
        let room = rooms.work_room in
        rw (
          shape.given,
          same_inputs,
          same-outputs,
          (series-faultless u v h n fresh start (length ran) (length ranEnd)).1 (within (length ran) (length ranEnd) rooms.ran_room rooms.ran_end_room),
          le-leb (wires_in table) (length work) (omega arith),
        )

    -- the steps agree on every row of the series
    agree : (t : ℕ) → t < n → let row = interval_row (plan_outputs 0 gate_bit p) (u - h) h fresh start t in plan_outputs 0 gate_bit p row ≡ run_outputs table program row
    agree t l =
        let whole : u - h + h ≡ u = (let m = given.hold.inputs in omega arith) in
        sym (same_step _ (subst (λ m. Contacts m (interval_row (plan_outputs 0 gate_bit p) (u - h) h fresh start t)) whole (row-contacts contacts t l)))

    rows_same : series_rows (run_outputs table program) (inputs_in table - h) h fresh start n ≡ series_rows (plan_outputs 0 gate_bit p) (u - h) h fresh start n
    rows_same =
        ap (λ m. series_rows (run_outputs table program) (m - h) h fresh start n) same_inputs
        ∙ sym (same_rows (plan_outputs 0 gate_bit p) (run_outputs table program) (u - h) h fresh start n agree n (omega arith))

    states-same : state_after (run_outputs table program) (inputs_in table - h) h fresh start n ≡ state_after (plan_outputs 0 gate_bit p) (u - h) h fresh start n
    states-same =
        ap (λ m. state_after (run_outputs table program) (m - h) h fresh start n) same_inputs
        ∙ sym (same-state (plan_outputs 0 gate_bit p) (run_outputs table program) (u - h) h fresh start n agree n (omega arith))

    promised : SeriesSame p table program h n fresh start work ran ranEnd evaluated evaluatedEnd
    promised = record {
      evaluates = plan-series;
      runs = run-series;
      rows = λ j l.
          let rows = series_rows (plan_outputs 0 gate_bit p) (u - h) h fresh start n in
          entry-same rows run-series plan-series rows_same ran evaluated j (omega (arith, rows-length contacts n (omega arith)));
      states = λ j l.
          let state = state_after (plan_outputs 0 gate_bit p) (u - h) h fresh start n in
          entry-same state run-series plan-series states-same ranEnd evaluatedEnd j (omega (arith, (state-contacts contacts n (omega arith)).size));
    }

pub series_promise : SeriesPromise
series_promise p table program w h n fresh start work ran ranEnd evaluated evaluatedEnd accepted as-plan given rooms =
    promised p table program w accepted as-plan h n fresh start work ran ranEnd evaluated evaluatedEnd given rooms
