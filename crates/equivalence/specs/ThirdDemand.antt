-- The third demand, over the definitions that the contracts of the four calls equate: their answers, and the lent buffers after them, from any
-- entry buffers. For every accepted plan and every input row the run of the fabric for the plan's three counts with the plan's program bits writes
-- the outputs that plan evaluation writes, one by one; whichever two accepted plans share their counts have the same table, entry by entry; none of
-- these calls refuses then.
use Rattle.std.specs.Prelude.{◌≡◌, List, ℕ, ◌<◌, ◌≤◌, length, get_or, take}
use Rattle.plan.specs.declared.record.Plan.{Plan}
use Rattle.plan.specs.Faults.{Accepted}
use Rattle.plan_evaluation_checks.specs.EvaluationChecks.{evaluate_fault}
use Rattle.plan_evaluation.specs.Evaluation.{evaluate_result}
use Rattle.fabric.specs.Fabrics.{fabric_wires, table_length, fabric_fault, program_length, plan_program_fault, fabric_result, plan_program_result, run_fault, run_result}

-- the fabric of the plan's three counts: its table's length, its wires
abbrev pub plan_table_length : Plan → ℕ
plan_table_length p = table_length p.inputs p.gate_count p.output_count

abbrev pub plan_fabric_wires : Plan → ℕ
plan_fabric_wires p = fabric_wires p.inputs p.gate_count p.output_count

-- "A row of input contacts is u entries, each 0 or 1"
pub record ContactRow (u : ℕ) (row : List ℕ) : Type 0 where
  pub size : length row ≡ u
  pub bit : (i : ℕ) → i < u → get_or row i 0 ≤ 1

-- two plans that share their counts
pub record CountsShared (p q : Plan) : Type 0 where
  pub shared_inputs : q.inputs ≡ p.inputs
  pub shared_gates : q.gate_count ≡ p.gate_count
  pub shared_outputs : q.output_count ≡ p.output_count

-- the fabric call for a plan's counts, on a lent buffer: its answer, and the entries that it leaves up to the stated length
abbrev pub plan_fabric_fault : Plan → List ℕ → ℕ
plan_fabric_fault p table = fabric_fault p.inputs p.gate_count p.output_count (length table)

abbrev pub entries_written : Plan → List ℕ → List ℕ
entries_written p table = take (plan_table_length p) (fabric_result p.inputs p.gate_count p.output_count table)

-- the program call: the bytes that it leaves up to the stated length
abbrev pub bytes_written : Plan → List ℕ → List ℕ
bytes_written p program = take (program_length p) (plan_program_result p program)

-- lent buffers of at least the stated lengths
pub record Rooms (p : Plan) (table program work evaluated ran : ℕ) : Type 0 where
  pub table_room : plan_table_length p ≤ table
  pub program_room : program_length p ≤ program
  pub work_room : plan_fabric_wires p ≤ work
  pub evaluated_room : p.output_count ≤ evaluated
  pub ran_room : p.output_count ≤ ran

module _ (p : Plan) (row table program work evaluated ran : List ℕ) where
  -- exactly the entries and bytes that the fabric call and the program call wrote
  abbrev entries : List ℕ
  entries = entries_written p table

  abbrev bytes : List ℕ
  bytes = bytes_written p program

  -- What the calls give. None refuses; the run's outputs are evaluation's, one by one; and for every accepted plan q that shares the counts, p
  -- itself among them, the fabric call does not refuse a buffer of at least the stated length, and leaves these very entries in it.
  pub record ThirdDemand : Type 0 where
    pub evaluates : evaluate_fault p row (length evaluated) ≡ 0
    pub fabricates : plan_fabric_fault p table ≡ 0
    pub programs : plan_program_fault p (length program) ≡ 0
    pub runs : run_fault entries bytes row (length work) (length ran) ≡ 0
    pub same : (j : ℕ) → j < p.output_count → get_or (run_result entries bytes row work ran) j 0 ≡ get_or (evaluate_result p row evaluated) j 0
    pub same_table : (q : Plan) (other : List ℕ) → Accepted q → CountsShared p q → plan_table_length q ≤ length other
        → (plan_fabric_fault q other ≡ 0) × (entries_written q other ≡ entries)

-- the demand: one claim about the calls together, over all accepted plans, rows of input contacts and earlier contents of the lent buffers
abbrev pub ThirdDemandHolds : Type 0
ThirdDemandHolds = (p : Plan) (row table program work evaluated ran : List ℕ) → Accepted p → ContactRow p.inputs row
    → Rooms p (length table) (length program) (length work) (length evaluated) (length ran) → ThirdDemand p row table program work evaluated ran
