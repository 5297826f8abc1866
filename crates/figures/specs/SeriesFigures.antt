-- Document 02, W6, on figures: the series of a few plans, by the definitions that the call's contract cites.
use Rattle.std.specs.Prelude.{ℕ, List, [], ◌∷◌, ◌++◌, length, replicate}
use Rattle.plan.specs.declared.record.Gate.{Gate}
use Rattle.plan.specs.declared.record.Plan.{Plan}
use Rattle.plan.specs.Record.{wire, places, plan_of}
use Rattle.plan_series_checks.specs.SeriesChecks.{plan_series_fault}
use Rattle.plan_evaluation.specs.PlanSeries.{plan_series_results, plan_series_end}
use Rattle.figures.specs.Figure.{Figure}

-- a buffer of n entries before the call
before : ℕ → List ℕ
before n = replicate n 7

-- what the call says and leaves in buffers of so many entries, as a row of numbers: number, results, end state
series_row : Plan → ℕ → ℕ → List ℕ → List ℕ → ℕ → ℕ → List ℕ
unfolding before
series_row p h n fresh start results end =
    plan_series_fault p h n fresh start results end
    ∷ (plan_series_results p h n fresh start (before results) (before end) ++ plan_series_end p h n fresh start (before results) (before end))

-- in buffers of an entry more than is needed the series gives these rows and this state, and leaves that entry
unfoldable pub gives : Plan → ℕ → ℕ → List ℕ → List ℕ → List ℕ → List ℕ → Figure
unfolding before series_row
gives p h n fresh start rows state = record {
  computed = series_row p h n fresh start (length (7 ∷ rows)) (length (7 ∷ state));
  stated = 0 ∷ (rows ++ (7 ∷ state) ++ (7 ∷ []));
}

-- in buffers of so many entries it is refused with this number, and both are as they were
unfoldable pub series_refuses : Plan → ℕ → ℕ → List ℕ → List ℕ → ℕ → ℕ → ℕ → Figure
unfolding before series_row
series_refuses p h n fresh start results end number = record {
  computed = series_row p h n fresh start results end;
  stated = number ∷ (before results ++ before end);
}

gate : ℕ → ℕ → ℕ → Gate
gate a b t = record { first = wire a; second = wire b; table = t }

-- a latch that sheds until reset: inputs trip, reset and the state; the output is trip OR state, AND NOT reset
latch : Plan
unfolding gate places
latch = plan_of 3 2 1 (gate 1 3 14 ∷ gate 4 2 4 ∷ []) (wire 5 ∷ [])

-- inputs a and the state b; the outputs are a and NOT b, of which the last is held
turns : Plan
unfolding gate places
turns = plan_of 2 2 2 (gate 1 1 8 ∷ gate 2 2 1 ∷ []) (wire 3 ∷ wire 4 ∷ [])

unfoldable pub series_figures : List Figure
unfolding latch turns
series_figures =
    -- trip, then nothing, then reset, then nothing, then both
    gives latch 1 6 (0 ∷ 0 ∷ 1 ∷ 0 ∷ 0 ∷ 0 ∷ 0 ∷ 1 ∷ 0 ∷ 0 ∷ 1 ∷ 1 ∷ []) (0 ∷ []) (0 ∷ 1 ∷ 1 ∷ 0 ∷ 0 ∷ 0 ∷ []) (0 ∷ [])
    -- its first three intervals, and the other three from the state left
    ∷ gives latch 1 3 (0 ∷ 0 ∷ 1 ∷ 0 ∷ 0 ∷ 0 ∷ []) (0 ∷ []) (0 ∷ 1 ∷ 1 ∷ []) (1 ∷ [])
    ∷ gives latch 1 3 (0 ∷ 1 ∷ 0 ∷ 0 ∷ 1 ∷ 1 ∷ []) (1 ∷ []) (0 ∷ 0 ∷ 0 ∷ []) (0 ∷ [])
    -- 0 intervals: the end state is the start state
    ∷ gives latch 1 0 [] (1 ∷ []) [] (1 ∷ [])
    -- nothing held: three fresh entries an interval
    ∷ gives latch 0 2 (0 ∷ 0 ∷ 1 ∷ 1 ∷ 1 ∷ 1 ∷ []) [] (1 ∷ 0 ∷ []) []
    -- the last output is held; both are, so that no entry is fresh
    ∷ gives turns 1 3 (1 ∷ 1 ∷ 0 ∷ []) (0 ∷ []) (1 ∷ 1 ∷ 1 ∷ 0 ∷ 0 ∷ 1 ∷ []) (1 ∷ [])
    ∷ gives turns 2 2 [] (1 ∷ 0 ∷ []) (1 ∷ 1 ∷ 1 ∷ 0 ∷ []) (1 ∷ 0 ∷ [])
    -- 16: a hold count above the outputs, above the inputs, 4,097 intervals; before 12, and after a plan fault
    ∷ series_refuses latch 2 1 (0 ∷ []) (0 ∷ 0 ∷ []) 1 2 16 ∷ series_refuses turns 3 0 [] [] 0 0 16 ∷ series_refuses latch 1 4097 [] [] 0 0 16
    ∷ series_refuses latch 4 0 (2 ∷ []) [] 0 0 16 ∷ series_refuses (plan_of 3 2 1 [] []) 4 0 [] [] 0 0 7
    -- 12: fresh entries, a state of another length, an entry of 2 in either; 4,096 intervals pass 16, and 12 comes before 11
    ∷ series_refuses latch 1 1 (0 ∷ []) (0 ∷ []) 1 1 12 ∷ series_refuses latch 1 1 (0 ∷ 0 ∷ []) [] 1 1 12 ∷ series_refuses latch 1 1 (0 ∷ 2 ∷ []) (0 ∷ []) 1 1 12
    ∷ series_refuses latch 1 1 (0 ∷ 0 ∷ []) (2 ∷ []) 1 1 12 ∷ series_refuses latch 1 4096 [] [] 0 0 12
    -- 11: a results' entry, an end state's entry too few; at 0 intervals too
    ∷ series_refuses latch 1 1 (0 ∷ 0 ∷ []) (0 ∷ []) 0 1 11 ∷ series_refuses latch 1 1 (0 ∷ 0 ∷ []) (0 ∷ []) 1 0 11
    ∷ series_refuses latch 1 0 [] (0 ∷ []) 0 0 11 ∷ []
