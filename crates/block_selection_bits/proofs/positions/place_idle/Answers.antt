-- What stands at the next position, or the next idle input, is what its step leaves there.
use Rattle.std.proofs.Common.{◌≡◌, length, refl, arith}
use Rattle.lists.specs.Lists.{list_of}
use Rattle.block_selection_bits.proofs.ArraysLaws.{over-whole}
use Rattle.block_selection_bits.proofs.PositionsLaws.{cursor_start, takers, step_asks, step-places}
use Rattle.block_selection_bits.proofs.positions.place_idle.Goals as goal

pub loop-p-init : goal.loop-p-init
unfolding list_of
loop-p-init c = record { cursor = cursor_start c.args.counts.now (length c.args.counts.now); listed = refl }

pub place_next-from-requires : goal.place_next-from-requires
place_next-from-requires c =
    let inv = c.loop-p.invariant in (
      c.requires.places.1,
      omega arith,
      λ z. step_asks c.requires.positioned c.requires.places_hold c.loop-p.p (omega arith) inv.listed inv.cursor (omega arith) z,
    )

pub loop-p-preserved : goal.loop-p-preserved
loop-p-preserved c =
    let inv = c.loop-p.invariant in
    let step =
    step-places c.requires.positioned c.requires.places_hold c.loop-p.p (omega arith) inv.listed inv.cursor (omega arith) c.place_next-from.ensures in
    record { cursor = step.0; listed = step.1 }

pub returns : goal.returns
returns c =
    let counts = c.args.counts.now in
    let e : c.loop-p.p ≡ length counts = omega arith in
    over-whole (length counts) (takers counts (length counts)) c.args.list.now (rw e at c.loop-p.invariant.listed) c.requires.places.0
