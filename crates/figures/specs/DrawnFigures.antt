-- Document 02, W1, on figures: drawn reading of a few files, by the definition that its call's contract cites.
use Rattle.std.specs.Prelude.{ℕ, List, [], ◌∷◌, ◌++◌}
use Rattle.plan.specs.declared.record.Plan.{Plan}
use Rattle.plan.specs.Record.{max_gates, wire, places, plan_of, zero_plan}
use Rattle.plan.specs.Rules.{count_allowed, map_allowed, operand_allowed, source_allowed}
use Rattle.plan_fields.specs.Parsing.{field, in_order}
use Rattle.plan_fields.specs.Fields.{gate_step_within}
use Rattle.plan_reading.specs.PlanFile.{not_stub, at_end, whole_file}
use Rattle.plan_drawn.specs.DrawnFile.{map_offset, no_cycle, drawn_file, DrawnOutcome, drawn_read}
use Rattle.figures.specs.Figure.{Figure}
use Rattle.figures.specs.StatedFigures.{plan_numbers}

-- what drawn reading says, as a row of numbers: number, offset, plan, drawn numbers
drawn_row : DrawnOutcome → List ℕ
unfolding plan_numbers
drawn_row o = o.number ∷ o.at ∷ (plan_numbers o.plan ++ o.drawn)

-- drawn reading of the file gives this plan and these drawn numbers
unfoldable pub draws : List ℕ → Plan → List ℕ → Figure
unfolding drawn_row drawn_read drawn_file no_cycle whole_file not_stub at_end gate_step_within field in_order places count_allowed map_allowed operand_allowed
    source_allowed
draws file plan drawn = record {
  computed = drawn_row (drawn_read file);
  stated = drawn_row (record { number = 0; at = 0; plan = plan; drawn = places max_gates 0 drawn });
}

-- drawn reading of the file refuses with this number at this offset, and record and list are all zero
unfoldable pub drawn_refuses : List ℕ → ℕ → ℕ → Figure
unfolding drawn_row drawn_read drawn_file no_cycle map_offset whole_file not_stub at_end gate_step_within field in_order places count_allowed map_allowed operand_allowed
    source_allowed
drawn_refuses file number at = record {
  computed = drawn_row (drawn_read file);
  stated = drawn_row (record { number = number; at = at; plan = zero_plan; drawn = places max_gates 0 [] });
}

unfoldable pub drawn_figures : List Figure
unfolding places
drawn_figures =
    -- gate 1 on gates 2 and 3, gates 2 and 3 on inputs, gate 4 on gate 1: taken as 2, 3, 1, 4
    draws
    (4 ∷ 0 ∷ 4 ∷ 0 ∷ 2 ∷ 0 ∷ 3 ∷ 6 ∷ 0 ∷ 7 ∷ 0 ∷ 3 ∷ 1 ∷ 0 ∷ 2 ∷ 0 ∷ 5 ∷ 3 ∷ 0 ∷ 1 ∷ 7 ∷ 5 ∷ 0 ∷ 4 ∷ 0 ∷ 14 ∷ 5 ∷ 0 ∷ 8 ∷ 0 ∷ [])
    (plan_of 4 4 2
    (record { first = wire 1; second = wire 2; table = 8 } ∷ record { first = wire 3; second = wire 3; table = 1 }
    ∷ record { first = wire 5; second = wire 6; table = 8 } ∷ record { first = wire 7; second = wire 4; table = 14 } ∷ [])
    (wire 7 ∷ wire 8 ∷ []))
    (2 ∷ 3 ∷ 1 ∷ 4 ∷ [])
    -- the search begins at the lowest gate again: gate 1 on gate 3, gates 2 to 4 on inputs: taken as 2, 3, 1, 4
    ∷ draws
    (1 ∷ 0 ∷ 4 ∷ 0 ∷ 1 ∷ 0 ∷ 1 ∷ 4 ∷ 0 ∷ 1 ∷ 1 ∷ 0 ∷ 1 ∷ 1 ∷ 0 ∷ 1 ∷ 1 ∷ 0 ∷ 2 ∷ 0 ∷ [])
    (plan_of 1 4 1
    (record { first = wire 1; second = wire 1; table = 8 } ∷ record { first = wire 1; second = wire 1; table = 8 }
    ∷ record { first = wire 3; second = wire 3; table = 8 } ∷ record { first = wire 1; second = wire 1; table = 8 } ∷ [])
    (wire 4 ∷ []))
    (2 ∷ 3 ∷ 1 ∷ 4 ∷ [])
    -- one gate fed by itself: 15 at its map byte; with table 0, which ignores the operand, too
    ∷ drawn_refuses (1 ∷ 0 ∷ 1 ∷ 0 ∷ 1 ∷ 0 ∷ 1 ∷ 2 ∷ 0 ∷ 2 ∷ 0 ∷ []) 15 6
    ∷ drawn_refuses (1 ∷ 0 ∷ 1 ∷ 0 ∷ 1 ∷ 0 ∷ 5 ∷ 2 ∷ 0 ∷ 0 ∷ 2 ∷ 0 ∷ []) 15 6
    -- gate 1 on an input, gate 2 on gate 3, gates 3 and 4 on each other: gate 2 is left over, though in no ring
    ∷ drawn_refuses (1 ∷ 0 ∷ 4 ∷ 0 ∷ 1 ∷ 0 ∷ 1 ∷ 1 ∷ 0 ∷ 1 ∷ 4 ∷ 0 ∷ 1 ∷ 5 ∷ 0 ∷ 1 ∷ 4 ∷ 0 ∷ 2 ∷ 0 ∷ []) 15 9
    -- 10 comes before 15
    ∷ drawn_refuses (1 ∷ 0 ∷ 1 ∷ 0 ∷ 1 ∷ 0 ∷ 1 ∷ 2 ∷ 0 ∷ 2 ∷ 0 ∷ 0 ∷ []) 10 11
    -- an operand 0, or above u + k: 7
    ∷ drawn_refuses (1 ∷ 0 ∷ 1 ∷ 0 ∷ 1 ∷ 0 ∷ 1 ∷ 0 ∷ 0 ∷ 2 ∷ 0 ∷ []) 7 7
    ∷ drawn_refuses (1 ∷ 0 ∷ 1 ∷ 0 ∷ 1 ∷ 0 ∷ 1 ∷ 3 ∷ 0 ∷ 2 ∷ 0 ∷ []) 7 7
    ∷ []
