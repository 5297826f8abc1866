-- Document 02, W6: the checks of a series of n intervals with hold count h, over u inputs and v outputs, in their order.
use Rattle.std.specs.Prelude.{ℕ, ◌-◌, ◌*◌, ◌≤◌, ◌≡◌, List, leb}
use Rattle.fault.specs.declared.Fault.{Fault}
use Rattle.fault.specs.Checks.{unless, and_then, room_fault}
use Rattle.plan.specs.declared.record.Plan.{Plan}
use Rattle.plan.specs.Faults.{plan_fault}
use Rattle.plan_evaluation_checks.specs.EvaluationChecks.{contact_fault}

-- "a number of intervals from 0 to 4,096"
abbrev pub max_intervals : ℕ
max_intervals = 4096

-- "16, hold, if h exceeds u or v or the intervals exceed 4,096"
unfoldable pub hold_fault : ℕ → ℕ → ℕ → ℕ → ℕ
hold_fault u v h n =
    and_then (unless (leb h u) Fault.Hold) (and_then (unless (leb h v) Fault.Hold) (unless (leb n max_intervals) Fault.Hold))

-- "12, which now also covers the whole lent series and the start state, each of exactly its length": u - h fresh entries an interval, h of the state
abbrev pub series_contact_fault : ℕ → ℕ → ℕ → List ℕ → List ℕ → ℕ
series_contact_fault u h n fresh start = and_then (contact_fault (n * (u - h)) fresh) (contact_fault h start)

-- 11: v results an interval, h entries for the end state
abbrev pub series_room_fault : ℕ → ℕ → ℕ → ℕ → ℕ → ℕ
series_room_fault v h n results end = and_then (room_fault (n * v) results) (room_fault h end)

-- 16, 12, 11, for lent buffers of `results` and `end` entries
unfoldable pub series_fault : ℕ → ℕ → ℕ → ℕ → List ℕ → List ℕ → ℕ → ℕ → ℕ
series_fault u v h n fresh start results end =
    and_then (hold_fault u v h n) (and_then (series_contact_fault u h n fresh start) (series_room_fault v h n results end))

-- the plan's series: plan faults, 16, 12, 11
abbrev pub plan_series_fault : Plan → ℕ → ℕ → List ℕ → List ℕ → ℕ → ℕ → ℕ
plan_series_fault p h n fresh start results end = and_then (plan_fault p) (series_fault p.inputs p.output_count h n fresh start results end)

-- the hold count and the intervals are within their bounds: 16 is not given
pub record HoldWithin (u v h n : ℕ) : Type 0 where
  pub inputs : h ≤ u
  pub outputs : h ≤ v
  pub intervals : n ≤ max_intervals

-- neither 16 nor 12 nor 11 is given
pub record SeriesWithin (u v h n : ℕ) (fresh start : List ℕ) (results end : ℕ) : Type 0 where
  pub hold : HoldWithin u v h n
  pub fresh_rows : contact_fault (n * (u - h)) fresh ≡ 0
  pub start_state : contact_fault h start ≡ 0
  pub rows_room : n * v ≤ results
  pub state_room : h ≤ end
