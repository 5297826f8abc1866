-- Document 02, W6, a series of intervals, over any step from a row to outputs: "The last h outputs of one interval are the last h inputs of the
-- next". Intervals count from 0. "Fresh rows .. and output rows .. lie one after another".
use Rattle.std.specs.Prelude.{ℕ, zero, suc, ◌-◌, ◌*◌, List, [], ◌++◌, length, take, drop}

-- the last h entries
abbrev pub last_of : {A : Type 0} → ℕ → List A → List A
last_of h l = drop (length l - h) l

-- the fresh entries of interval t, where each has f
abbrev pub fresh_row : {A : Type 0} → ℕ → List A → ℕ → List A
fresh_row f fresh t = take f (drop (t * f) fresh)

-- f fresh entries an interval, h entries held, the fresh rows, the start state
module _ {A : Type 0} (step : List A → List A) (f h : ℕ) (fresh start : List A) where
  -- the state after n intervals: the start state, or the last h outputs of the interval before
  unfoldable pub state_after : ℕ → List A
  state_after zero = start
  state_after (suc t) = last_of h (step (fresh_row f fresh t ++ state_after t))

  -- the row of interval t: its fresh entries, then the state
  abbrev pub interval_row : ℕ → List A
  interval_row t = fresh_row f fresh t ++ state_after t

  -- the output rows of n intervals, one after another
  unfoldable pub series_rows : ℕ → List A
  series_rows zero = []
  series_rows (suc t) = series_rows t ++ step (interval_row t)

  -- what is shown of the last of n intervals' rows; nothing at 0 intervals
  abbrev pub of_last : (List A → List A) → ℕ → List A
  of_last show zero = []
  of_last show (suc t) = show (interval_row t)
