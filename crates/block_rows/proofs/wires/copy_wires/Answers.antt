-- A turn more copies the next wire.
use Rattle.std.proofs.Common.{get_or, refl, arith}
use Rattle.lists.specs.Lists.{list_of}
use Rattle.fault.proofs.BuffersLaws.{list-step, copied-front}
use Rattle.block_rows.proofs.wires.copy_wires.Goals as goal

pub loop-i-init : goal.loop-i-init
unfolding list_of
loop-i-init c = refl

pub loop-i-preserved : goal.loop-i-preserved
loop-i-preserved c = list-step c.args.to.now c.loop-i.i (λ j. get_or c.args.from.now j 0) c.loop-i.invariant refl (omega arith)

pub returns : goal.returns
returns c = copied-front c.args.from.now c.args.to.now c.loop-i.i 0 c.loop-i.invariant (omega arith)
