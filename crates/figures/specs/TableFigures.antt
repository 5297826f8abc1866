-- Document 02, W4, on figures: both readings of one gate with each kind of table byte, by the definitions that their calls' contracts cite.
use Rattle.std.specs.Prelude.{ℕ, List, [], ◌∷◌, ◌++◌}
use Rattle.plan.specs.declared.record.Plan.{Plan}
use Rattle.plan.specs.Record.{wire, places, plan_of}
use Rattle.plan.specs.Rules.{count_allowed, map_allowed, operand_allowed, source_allowed}
use Rattle.plan_fields.specs.Parsing.{field, in_order}
use Rattle.plan_fields.specs.Fields.{gate_step_within}
use Rattle.plan_reading.specs.PlanFile.{not_stub, at_end, whole_file, plan_read}
use Rattle.figures.specs.Figure.{Figure}
use Rattle.figures.specs.StatedFigures.{outcome_numbers, refuses}
use Rattle.figures.specs.DrawnFigures.{draws, drawn_refuses}

-- reading the file gives this plan
unfoldable pub reads_as : List ℕ → Plan → Figure
unfolding outcome_numbers plan_read whole_file not_stub at_end gate_step_within field in_order places count_allowed map_allowed operand_allowed source_allowed
reads_as file plan = record { computed = outcome_numbers (plan_read file); stated = outcome_numbers (record { number = 0; at = 0; plan = plan }) }

-- one input, a gate of these bytes, which is the output
one_gate : List ℕ → List ℕ
one_gate bytes = 1 ∷ 0 ∷ 1 ∷ 0 ∷ 1 ∷ 0 ∷ (bytes ++ (2 ∷ 0 ∷ []))

-- both readings of the gate's bytes give the gate with both operands on the input and this table
table_is : List ℕ → ℕ → List Figure
unfolding one_gate places
table_is bytes t =
    let p : Plan = plan_of 1 1 1 (record { first = wire 1; second = wire 1; table = t } ∷ []) (wire 2 ∷ []) in
    reads_as (one_gate bytes) p ∷ draws (one_gate bytes) p (1 ∷ []) ∷ []

-- both readings refuse the gate's bytes with this number at this offset
table_refused : List ℕ → ℕ → ℕ → List Figure
unfolding one_gate
table_refused bytes number at = refuses (one_gate bytes) number at ∷ drawn_refuses (one_gate bytes) number at ∷ []

unfoldable pub table_figures : List Figure
unfolding table_is table_refused
table_figures =
    -- one operand, left out or standing: bytes 0, 1 (NOT), 2, 3 become 0, 1, 8, 9; above 3 is 8, at the table byte
    table_is (4 ∷ 0 ∷ []) 0 ++ (table_is (4 ∷ 1 ∷ []) 1 ++ (table_is (4 ∷ 2 ∷ []) 8 ++ (table_is (4 ∷ 3 ∷ []) 9
    ++ (table_is (5 ∷ 1 ∷ 0 ∷ 2 ∷ []) 8 ++ (table_refused (4 ∷ 4 ∷ []) 8 7 ++ (table_refused (5 ∷ 1 ∷ 0 ∷ 8 ∷ []) 8 9
    -- an absent table is 8, with one operand and with two
    ++ (table_is (0 ∷ []) 8 ++ (table_is (2 ∷ 1 ∷ 0 ∷ []) 8
    -- a second operand that stands and is equal: four lines
    ++ (table_is (6 ∷ 1 ∷ 0 ∷ 2 ∷ []) 2 ++ (table_is (6 ∷ 1 ∷ 0 ∷ 15 ∷ []) 15 ++ table_refused (6 ∷ 1 ∷ 0 ∷ 16 ∷ []) 8 9))))))))))
