-- Each of the first q places holds what `input` gave for it.
use Rattle.std.proofs.Common.{ℕ, ◌<◌, get_or}
use Rattle.fabric_lists.proofs.wanted.list_by.Given as goal

abbrev pub invariant-loop-q : goal.invariant-loop-q
invariant-loop-q g l = (k : ℕ) → k < l.q → goal.F-post g l.input k (get_or l.place-items k 0)
