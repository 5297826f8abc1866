-- A turn more stores the next wire.
use Rattle.std.proofs.Common.{◌+◌, ◌*◌, ◌%◌, take, length-take, refl, arith}
use Rattle.std.proofs.Math.Nat.{mul-add}
use Rattle.lists.specs.Lists.{list_of}
use Rattle.fault.proofs.BuffersLaws.{list-step}
use Rattle.elements.specs.Elements.{max_wires}
use Rattle.block_rows.proofs.WiresLaws.{put_front}
use Rattle.block_rows.proofs.wires.put_wires.Goals as goal

pub loop-entry-init : goal.loop-entry-init
unfolding list_of
loop-entry-init c = record { next = omega arith; stand = refl }

pub loop-entry-preserved : goal.loop-entry-preserved
loop-entry-preserved c =
    let loop = c.loop-entry in
    record {
      next = omega (arith, mul-add c.args.step loop.entry-index 1);
      stand =
          list-step (take c.min-end.result c.args.wires.now) loop.entry-index (λ j. (c.entry_of-wire.result + c.args.step * j) % max_wires)
          loop.invariant.stand loop.invariant.next (omega arith);
    }

pub returns : goal.returns
returns c =
    let a = c.args in
    put_front a.count a.first.0 a.step a.wires.now c.entry_of-wire.ensures c.min-end.ensures
    (omega (arith, length-take c.min-end.result a.wires.now)) c.loop-entry.invariant.stand
