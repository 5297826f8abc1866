-- Document 02, W6: "intervals n, then m from the state left on the rows that follow, give the output rows and end state that n + m give".
use Rattle.std.specs.Prelude.{ℕ, ◌+◌, ◌*◌, ◌≡◌, List, ◌++◌, take}

-- of three calls, for n, for m and for n + m intervals, what the lent buffers hold afterwards: results of v entries an interval, h entries of the end
-- state
pub record Composes (v h n m : ℕ) (results₁ results₂ end₂ results₃ end₃ : List ℕ) : Type 0 where
  pub rows : take (n * v) results₁ ++ take (m * v) results₂ ≡ take ((n + m) * v) results₃
  pub state : take h end₂ ≡ take h end₃
