-- Document 02, W7, on figures: what both readings settle, and the three edits of a plan, by the definitions that the calls' contracts cite.
use Rattle.std.specs.Prelude.{ℕ, List, [], ◌∷◌, ◌++◌}
use Rattle.lists.specs.Lists.{list_of}
use Rattle.plan.specs.declared.record.Gate.{Gate}
use Rattle.plan.specs.declared.record.Plan.{Plan}
use Rattle.plan.specs.Record.{wire, places, plan_of, gate_at, output_at, stored_uses}
use Rattle.plan.specs.Faults.{plan_fault}
use Rattle.plan_reading.specs.PlanFile.{plan_read}
use Rattle.plan_drawn.specs.DrawnFile.{drawn_read}
use Rattle.plan_edits.specs.Edits.{EditOutcome, gate_replaced, gate_appended, output_replaced}
use Rattle.figures.specs.Figure.{Figure}

edited_gate : ℕ → ℕ → ℕ → Gate
edited_gate a b t = record { first = wire a; second = wire b; table = t }

-- a gate as a row of numbers
gate_row : Gate → List ℕ
gate_row g = g.first.0 ∷ g.second.0 ∷ g.table ∷ []

-- a plan's K and the uses of the first six wires
figures_row : Plan → List ℕ
figures_row p = p.gate_places ∷ list_of 6 (stored_uses p)

-- an edit's answer: its number, the counts, the first three places of the gates, two of the outputs, the figures
edit_row : EditOutcome → List ℕ
unfolding gate_row figures_row
edit_row o =
    let p : Plan = o.plan in
    o.number ∷ p.inputs ∷ p.gate_count ∷ p.output_count
    ∷ (gate_row (gate_at p 0) ++ gate_row (gate_at p 1) ++ gate_row (gate_at p 2) ++ (output_at p 0).0 ∷ (output_at p 1).0 ∷ figures_row p)

-- the plan of the bench sheet's five lines with this output, K and uses; a gate, an output and the uses of wires 5 and 6 stand in unused places
five_lines : ℕ → ℕ → List ℕ → Plan
unfolding edited_gate places
five_lines output stored uses =
    let p : Plan = plan_of 2 2 1 (edited_gate 1 2 8 ∷ edited_gate 3 1 6 ∷ edited_gate 9 9 99 ∷ []) (wire output ∷ wire 7 ∷ []) in record {
      inputs = 2;
      gate_count = 2;
      output_count = 1;
      gates = p.gates;
      outputs = p.outputs;
      gate_places = stored;
      uses = uses ++ (99 ∷ 77 ∷ []);
    }

-- with its figures; with one use of wire 4 too many
settled_plan : Plan
unfolding five_lines
settled_plan = five_lines 4 2 (2 ∷ 1 ∷ 1 ∷ 1 ∷ [])

damaged_plan : Plan
unfolding five_lines
damaged_plan = five_lines 4 2 (2 ∷ 1 ∷ 1 ∷ 2 ∷ [])

-- an edit that is done gives this
edits : EditOutcome → List ℕ → Figure
unfolding edit_row
edits o row = record { computed = edit_row o; stated = 0 ∷ row }

-- a refused one gives its number and the plan back
edit_refuses : Plan → EditOutcome → ℕ → Figure
unfolding edit_row
edit_refuses p o number = record { computed = edit_row o; stated = edit_row (record { number = number; plan = p }) }

-- a plan's first fault
faults : Plan → ℕ → Figure
faults p number = record { computed = plan_fault p ∷ []; stated = number ∷ [] }

-- the figures of a plan that was read
settles : Plan → List ℕ → Figure
unfolding figures_row
settles p row = record { computed = figures_row p; stated = row }

unfoldable pub edit_figures : List Figure
unfolding edited_gate five_lines settled_plan damaged_plan edits edit_refuses faults settles
edit_figures =
    -- the bench sheet's five lines; gate 1 drawn on gate 2, which is on the input; a file below 6 bytes
    settles (plan_read (2 ∷ 0 ∷ 2 ∷ 0 ∷ 1 ∷ 0 ∷ 3 ∷ 1 ∷ 0 ∷ 2 ∷ 0 ∷ 6 ∷ 1 ∷ 0 ∷ 6 ∷ 4 ∷ 0 ∷ [])).plan (2 ∷ 2 ∷ 1 ∷ 1 ∷ 1 ∷ 0 ∷ 0 ∷ [])
    ∷ settles (drawn_read (1 ∷ 0 ∷ 2 ∷ 0 ∷ 1 ∷ 0 ∷ 1 ∷ 3 ∷ 0 ∷ 1 ∷ 1 ∷ 0 ∷ 2 ∷ 0 ∷ [])).plan (2 ∷ 2 ∷ 2 ∷ 1 ∷ 0 ∷ 0 ∷ 0 ∷ [])
    ∷ settles (plan_read []).plan (0 ∷ 0 ∷ 0 ∷ 0 ∷ 0 ∷ 0 ∷ 0 ∷ [])
    -- gate 2 on input 1 twice; a third gate, with which K doubles, and nothing names its wire 5; gate 1 as the output
    ∷ edits (gate_replaced settled_plan 2 (edited_gate 1 1 9)) (2 ∷ 2 ∷ 1 ∷ 1 ∷ 2 ∷ 8 ∷ 1 ∷ 1 ∷ 9 ∷ 9 ∷ 9 ∷ 99 ∷ 4 ∷ 7 ∷ 2 ∷ 3 ∷ 1 ∷ 0 ∷ 1 ∷ 99 ∷ 77 ∷ [])
    ∷ edits (gate_appended settled_plan (edited_gate 4 4 8)) (2 ∷ 3 ∷ 1 ∷ 1 ∷ 2 ∷ 8 ∷ 3 ∷ 1 ∷ 6 ∷ 4 ∷ 4 ∷ 8 ∷ 4 ∷ 7 ∷ 4 ∷ 2 ∷ 1 ∷ 1 ∷ 3 ∷ 0 ∷ 77 ∷ [])
    ∷ edits (output_replaced settled_plan 1 (wire 3)) (2 ∷ 2 ∷ 1 ∷ 1 ∷ 2 ∷ 8 ∷ 3 ∷ 1 ∷ 6 ∷ 9 ∷ 9 ∷ 99 ∷ 3 ∷ 7 ∷ 2 ∷ 2 ∷ 1 ∷ 2 ∷ 0 ∷ 99 ∷ 77 ∷ [])
    -- 18 below and above the gates and the outputs; 7 for either operand, 8; on appending the own wire is 5; 9 below and above the gate wires
    ∷ edit_refuses settled_plan (gate_replaced settled_plan 0 (edited_gate 1 1 9)) 18 ∷ edit_refuses settled_plan (gate_replaced settled_plan 3 (edited_gate 1 1 9)) 18
    ∷ edit_refuses settled_plan (gate_replaced settled_plan 1 (edited_gate 3 1 8)) 7 ∷ edit_refuses settled_plan (gate_replaced settled_plan 1 (edited_gate 1 0 16)) 7
    ∷ edit_refuses settled_plan (gate_replaced settled_plan 1 (edited_gate 1 2 16)) 8 ∷ edit_refuses settled_plan (gate_appended settled_plan (edited_gate 4 5 8)) 7
    ∷ edit_refuses settled_plan (gate_appended settled_plan (edited_gate 4 4 16)) 8 ∷ edit_refuses settled_plan (output_replaced settled_plan 0 (wire 3)) 18
    ∷ edit_refuses settled_plan (output_replaced settled_plan 2 (wire 2)) 18 ∷ edit_refuses settled_plan (output_replaced settled_plan 1 (wire 2)) 9
    ∷ edit_refuses settled_plan (output_replaced settled_plan 1 (wire 5)) 9
    -- 17 for a use, and for K; after 9; before 18
    ∷ faults settled_plan 0 ∷ faults damaged_plan 17 ∷ faults (five_lines 4 4 (2 ∷ 1 ∷ 1 ∷ 1 ∷ [])) 17 ∷ faults (five_lines 2 2 (2 ∷ 1 ∷ 1 ∷ 1 ∷ [])) 9
    ∷ edit_refuses damaged_plan (gate_replaced damaged_plan 0 (edited_gate 1 1 9)) 17 ∷ []
