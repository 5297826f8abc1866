-- An input's count is at most the number of outputs, so that one more fits; and counting the input of the next output keeps the invariant.
use Rattle.std.proofs.Common.{◌≡◌, ◌-◌, arith}
use Rattle.block_networks.specs.Wanted.{mapping}
use Rattle.block_networks.proofs.SelectionRouting.{selected_lt}
use Rattle.block_selection_bits.proofs.CountsLaws.{input-wanted, wanting_le, counted_none, wanting-counted}
use Rattle.block_selection_bits.proofs.counting.count_wanted.Goals as goal

pub loop-input-init : goal.loop-input-init
loop-input-init c = counted_none (mapping c.args.wanted.now) c.requires.blank

pub overflow_add-counts : goal.overflow_add-counts
overflow_add-counts c =
    let j = c.from.result - 1 in
    omega (arith, c.loop-input.invariant.each j, wanting_le (mapping c.args.wanted.now) c.loop-input.input-index j)

pub loop-input-preserved : goal.loop-input-preserved
loop-input-preserved c =
    let wanted = c.args.wanted.now in
    let i = c.loop-input.input-index in
    let j : mapping wanted i ≡ c.from.result - 1 = omega (arith, input-wanted wanted i c.loop-input-test.true, c.from.ensures) in
    rw (← j) (wanting-counted (mapping wanted) i (omega (arith, selected_lt c.requires.demand.inputs i c.loop-input-test.true)) c.loop-input.invariant)
