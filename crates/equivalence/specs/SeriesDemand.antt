-- Document 02, W6: "The fabric's series equals the plan's, for every accepted plan". The third demand's claim for series of intervals: over the definitions
-- that the contracts of the calls equate, from any entry buffers, the run's series of what the fabric call and the program call wrote leaves the output
-- rows and the end state that the plan's series leaves, entry by entry; none of these calls refuses then.
use Rattle.std.specs.Prelude.{◌≡◌, List, ℕ, ◌≤◌, length}
use Rattle.plan.specs.declared.record.Plan.{Plan}
use Rattle.plan.specs.Faults.{Accepted}
use Rattle.fabric.specs.Fabrics.{program_length, plan_program_fault}
use Rattle.fabric.specs.SeriesPromise.{SeriesGiven, SeriesRooms, SeriesSame}
use Rattle.equivalence.specs.ThirdDemand.{plan_table_length, plan_fabric_wires, plan_fabric_fault, entries_written, bytes_written}

module _ (p : Plan) (h n : ℕ) (fresh start table program work ran ranEnd evaluated evaluatedEnd : List ℕ) where
  pub record SeriesDemand : Type 0 where
    pub fabricates : plan_fabric_fault p table ≡ 0
    pub programs : plan_program_fault p (length program) ≡ 0
    pub same : SeriesSame p (entries_written p table) (bytes_written p program) h n fresh start work ran ranEnd evaluated evaluatedEnd

-- over all accepted plans, hold counts and series that 16 and 12 do not refuse, and earlier contents of the lent buffers
abbrev pub SeriesDemandHolds : Type 0
SeriesDemandHolds = (p : Plan) (h n : ℕ) (fresh start table program work ran ranEnd evaluated evaluatedEnd : List ℕ) → Accepted p
    → SeriesGiven p h n fresh start → plan_table_length p ≤ length table → program_length p ≤ length program
    → SeriesRooms p (plan_fabric_wires p) h n (length work) (length ran) (length ranEnd) (length evaluated) (length evaluatedEnd)
    → SeriesDemand p h n fresh start table program work ran ranEnd evaluated evaluatedEnd
