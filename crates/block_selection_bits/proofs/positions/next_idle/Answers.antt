-- The first 0 in the part of the counts is that of the next idle input.
use Rattle.std.proofs.Common.{ℕ, ◌≡◌, ◌+◌, ◌-◌, ◌≢◌, Some, length, take, drop, rules, tests}
use Rattle.std.proofs.lemmas.Iterator.{IsFirst-from_position, YieldsList-from_slice}
use Rattle.block_selection_bits.specs.Arrays.{NextIdle}
use Rattle.block_selection_bits.proofs.PositionsLaws.{next-found}
use Rattle.block_selection_bits.proofs.positions.next_idle.Goals as goal
use Rattle.block_selection_bits.proofs.positions.next_idle.Goals.{After-position}

-- what `position` found
found : (c : After-position) → (x : ℕ) × (c.position.result ≡ Some x) × NextIdle c.args.counts.now c.args.from (c.args.from + x)
found c =
    let counts = c.args.counts.now in
    let from = c.args.from in
    next-found counts from c.requires c.position.result
    (IsFirst-from_position _ _ _ (λ x. x ≡ 0) (λ x. x ≢ 0) c.position.ensures.ran (YieldsList-from_slice (take (length counts - from) (drop from counts)) cc)
    (λ x q k. search (rules, tests)) (λ x q k. search (rules, tests)))

pub unwrap-requires : goal.unwrap-requires
unwrap-requires c = rw (found c).1

pub returns : goal.returns
returns c =
    let f = found (goal.at.returns c).After-position in
    let e : f.0 ≡ c.unwrap.result = cc (f.1, c.unwrap.ensures) in
    rw e at f.2
