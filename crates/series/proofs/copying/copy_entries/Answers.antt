-- A turn more copies the next entry.
use Rattle.std.proofs.Common.{get_or, refl, arith}
use Rattle.lists.specs.Lists.{list_of}
use Rattle.fault.proofs.BuffersLaws.{list-step, copied-front, copied_whole}
use Rattle.series.proofs.copying.copy_entries.Goals as goal

pub loop-i-init : goal.loop-i-init
unfolding list_of
loop-i-init c = refl

pub loop-i-preserved : goal.loop-i-preserved
loop-i-preserved c = list-step c.args.to.now c.loop-i.i (λ j. get_or c.args.from.now j 0) c.loop-i.invariant refl (omega arith)

pub returns-clause-front : goal.returns-clause-front
returns-clause-front c = copied-front c.args.from.now c.args.to.now c.loop-i.i 0 c.loop-i.invariant (omega arith)

pub returns-clause-whole : goal.returns-clause-whole
returns-clause-whole c = λ size. copied_whole c.args.from.now c.args.to.now (copied-front c.args.from.now c.args.to.now c.loop-i.i 0 c.loop-i.invariant (omega arith)) size
