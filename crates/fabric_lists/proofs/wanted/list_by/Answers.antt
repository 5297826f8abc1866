use Rattle.std.proofs.Common.{arith, length-take}
use Rattle.fabric_lists.proofs.WantedListsLaws.{front-listed}
use Rattle.fabric_lists.proofs.wanted.list_by.Goals as goal

pub returns : goal.returns
returns g c = λ f h.
    let size = simp length-take at c.loop-q.auto.place-items in
    front-listed c.args.count f c.loop-q.place-items c.args.wanted.now c.min-end.ensures (omega arith) (λ k l. h.each k _ (omega arith) (c.loop-q.invariant k (omega arith)))
