-- The checks of a series pass exactly where the hold count and the intervals are within their bounds, the entries are contacts and the buffers have
-- room.
use mathlib.Core.Path.{◌≡◌, refl, sym}
use mathlib.Core.Logic.{◌↔◌}
use mathlib.Core.List.{List, []}
use Prim.Native.Nat.{ℕ, zero, suc, ◌-◌, ◌*◌, ◌≤◌, ◌<◌}
use native.Mathlib.Nat.{mul-le-mul}
use native.Mathlib.Omega.{arith}
use mir.Syntax.{w64}
use mir.Val.{Fits}
use mir.Facts.{Fits-below}
use Rattle.fault.specs.Checks.{and_then, room_fault}
use Rattle.fault.proofs.ChecksLaws.{room-passes, unless-zero, and_then-zero, leb_iff}
use Rattle.series.proofs.SeriesLaws.{Contacts}
use Rattle.plan.specs.Record.{word_numbers}
use Rattle.plan_evaluation_checks.specs.EvaluationChecks.{contact_fault}
use Rattle.plan_evaluation_checks.proofs.EvaluationChecksLaws.{row-length, row-bit, contact-passes}
use Rattle.plan_series_checks.specs.SeriesChecks.{max_intervals, hold_fault, series_fault, HoldWithin, SeriesWithin}

-- as many entries as all intervals have, where each has fewer than 65,536, are few
pub entries-few : {n e : ℕ} → n ≤ max_intervals → e < word_numbers → n * e ≤ max_intervals * word_numbers
entries-few h l = mul-le-mul {m₂ = word_numbers} h (omega arith)

pub entries_fit : {n e : ℕ} → n ≤ max_intervals → e < word_numbers → Fits w64 (n * e)
entries_fit {n} {e} h l = Fits-below {n = max_intervals * word_numbers} tt (entries-few h l)

-- 16 is not given within the bounds alone
pub hold-faultless : (u v h n : ℕ) → (hold_fault u v h n ≡ 0) ↔ HoldWithin u v h n
unfolding hold_fault
hold-faultless u v h n = simp (and_then-zero, unless-zero, leb_iff) (
  λ e. record { inputs = e.0; outputs = e.1.0; intervals = e.1.1 },
  λ w. (w.inputs, (w.outputs, w.intervals)),
)

-- so they hold where it is not
pub hold_within : (u v h n : ℕ) → 0 ≡ hold_fault u v h n → HoldWithin u v h n
hold_within u v h n e = (hold-faultless u v h n).0 (sym e)

-- nor with fewer intervals
pub hold-fewer : {u v h k : ℕ} (n : ℕ) → HoldWithin u v h k → n ≤ k → HoldWithin u v h n
hold-fewer n w l = record { inputs = w.inputs; outputs = w.outputs; intervals = (let m = w.intervals in omega arith) }

-- nor 12, nor 11
pub series-faultless : (u v h n : ℕ) (fresh start : List ℕ) (results end : ℕ)
    → (series_fault u v h n fresh start results end ≡ 0) ↔ SeriesWithin u v h n fresh start results end
unfolding series_fault room_fault
series-faultless u v h n fresh start results end = simp (and_then-zero, unless-zero, leb_iff, hold-faultless) (
  λ e. record { hold = e.0; fresh_rows = e.1.0.0; start_state = e.1.0.1; rows_room = e.1.1.0; state_room = e.1.1.1 },
  λ w. (w.hold, ((w.fresh_rows, w.start_state), (w.rows_room, w.state_room))),
)

-- 12 is not given for a row of contacts alone
pub contact-faultless : (u : ℕ) (row : List ℕ) → (contact_fault u row ≡ 0) ↔ Contacts u row
contact-faultless u row = (
  λ e. record { size = row-length u row e; bit = row-bit u row e },
  λ c. sym (contact-passes u row c.size (λ i l. c.bit i)),
)

-- fresh rows and a start state of contacts pass where the hold count, the intervals and the buffers do
pub series-passes : {u v h n : ℕ} {fresh start : List ℕ} (results end : ℕ) → HoldWithin u v h n → Contacts (n * (u - h)) fresh → Contacts h start
    → n * v ≤ results → h ≤ end → series_fault u v h n fresh start results end ≡ 0
series-passes {u} {v} {h} {n} {fresh} {start} results end hold rows state r e = (series-faultless u v h n fresh start results end).1 (record {
  hold = hold;
  fresh_rows = (contact-faultless (n * (u - h)) fresh).1 rows;
  start_state = (contact-faultless h start).1 state;
  rows_room = r;
  state_room = e;
})

-- a check that never fails leaves the answer as it is
then_none : (a : ℕ) → and_then a 0 ≡ a
then_none zero = refl
then_none (suc a) = refl

-- the checks of one interval with nothing held are those of its row and of the results: 12, 11
pub single-fault : (u v : ℕ) (row : List ℕ) (results end : ℕ) → series_fault u v 0 1 row [] results end ≡ and_then (contact_fault u row) (room_fault v results)
unfolding series_fault
single-fault u v row results end =
    let hold = (hold-faultless u v 0 1).1 (record { inputs = omega arith; outputs = omega arith; intervals = omega arith }) in
    let none = (contact-faultless 0 []).1 (record { size = refl; bit = λ i. omega arith }) in
    let fresh : 1 * (u - 0) ≡ u = omega arith in
    let rows : 1 * v ≡ v = omega arith in
    rw (hold, none, fresh, rows, sym (room-passes {long = 0} {stated = 0} {room = end} refl (omega arith)), then_none, then_none)
