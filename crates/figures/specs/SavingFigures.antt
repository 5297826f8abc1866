-- Document 02, W5, on figures: saving a few plans, by the definitions that the call's contract cites.
use Rattle.std.specs.Prelude.{ℕ, List, [], ◌∷◌, ◌++◌, length, replicate}
use Rattle.plan.specs.declared.record.Gate.{Gate}
use Rattle.plan.specs.declared.record.Plan.{Plan}
use Rattle.plan.specs.Record.{wire, places, plan_of}
use Rattle.plan_saving.specs.Saving.{SaveOutcome, plan_save, save_result}
use Rattle.figures.specs.Figure.{Figure}

-- a buffer of n bytes before the call
lent : ℕ → List ℕ
lent n = replicate n 255

-- what saving says and leaves, as a row of numbers: number, length, the buffer
saved_row : SaveOutcome → List ℕ → List ℕ
saved_row o buffer = o.number ∷ o.file_length ∷ buffer

-- saving into a buffer of two bytes more than the file's writes this file and leaves those two
unfoldable pub saves : Plan → List ℕ → Figure
unfolding lent saved_row plan_save
saves plan file = let n : ℕ = length (file ++ lent 2) in record {
  computed = saved_row (plan_save plan n) (save_result plan (lent n));
  stated = saved_row (record { number = 0; file_length = length file }) (file ++ lent 2);
}

-- saving into a buffer of n bytes is refused with this number, and the buffer is as it was
unfoldable pub save_refuses : Plan → ℕ → ℕ → Figure
unfolding lent saved_row plan_save
save_refuses plan n number = record {
  computed = saved_row (plan_save plan n) (save_result plan (lent n));
  stated = saved_row (record { number = number; file_length = 0 }) (lent n);
}

gate_of : ℕ → ℕ → ℕ → Gate
gate_of a b t = record { first = wire a; second = wire b; table = t }

-- one gate on two inputs, which is the output; another gate stands in an unused place
two_inputs : ℕ → ℕ → ℕ → Plan
unfolding gate_of places
two_inputs a b t = plan_of 2 1 1 (gate_of a b t ∷ gate_of 9 9 99 ∷ []) (wire 3 ∷ [])

-- its file, in which the gate has these bytes
gate_saved : ℕ → ℕ → ℕ → List ℕ → Figure
unfolding two_inputs saves
gate_saved a b t bytes = saves (two_inputs a b t) (2 ∷ 0 ∷ 1 ∷ 0 ∷ 1 ∷ 0 ∷ (bytes ++ (3 ∷ 0 ∷ [])))

unfoldable pub saving_figures : List Figure
unfolding gate_of two_inputs gate_saved save_refuses places
saving_figures =
    -- the bench sheet's plans: NOT, and that of the five lines
    saves (plan_of 1 1 1 (gate_of 1 1 1 ∷ []) (wire 2 ∷ [])) (1 ∷ 0 ∷ 1 ∷ 0 ∷ 1 ∷ 0 ∷ 4 ∷ 1 ∷ 2 ∷ 0 ∷ [])
    ∷ saves (plan_of 2 2 1 (gate_of 1 2 8 ∷ gate_of 3 1 6 ∷ []) (wire 4 ∷ []))
    (2 ∷ 0 ∷ 2 ∷ 0 ∷ 1 ∷ 0 ∷ 3 ∷ 1 ∷ 0 ∷ 2 ∷ 0 ∷ 6 ∷ 1 ∷ 0 ∷ 6 ∷ 4 ∷ 0 ∷ [])
    -- every field equals its default; only the first, the second, the table does not
    ∷ gate_saved 2 2 8 (0 ∷ []) ∷ gate_saved 1 1 8 (1 ∷ 1 ∷ 0 ∷ []) ∷ gate_saved 2 1 8 (2 ∷ 1 ∷ 0 ∷ []) ∷ gate_saved 2 2 0 (4 ∷ 0 ∷ [])
    -- equal operands: two lines say the tables 1 and 9; of 2, 4, 10 and 15 bit 1 or 2 stands, and so does the second operand
    ∷ gate_saved 2 2 1 (4 ∷ 1 ∷ []) ∷ gate_saved 1 1 9 (5 ∷ 1 ∷ 0 ∷ 3 ∷ []) ∷ gate_saved 2 2 2 (6 ∷ 2 ∷ 0 ∷ 2 ∷ []) ∷ gate_saved 2 2 4 (6 ∷ 2 ∷ 0 ∷ 4 ∷ [])
    ∷ gate_saved 2 2 10 (6 ∷ 2 ∷ 0 ∷ 10 ∷ []) ∷ gate_saved 1 1 15 (7 ∷ 1 ∷ 0 ∷ 1 ∷ 0 ∷ 15 ∷ [])
    -- 11 in a buffer one byte below the file's nine; a plan fault comes before it
    ∷ save_refuses (two_inputs 2 2 8) 8 11 ∷ save_refuses (two_inputs 2 2 16) 0 8 ∷ save_refuses (two_inputs 3 2 8) 20 7 ∷ []
