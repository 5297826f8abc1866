-- what the walk has marked, at the loop's head and when the step is made
use mathlib.Core.Path.{◌∙◌}
use Prim.Native.Nat.{◌/◌, ◌%◌}
use native.Mathlib.Omega.{arith}
use lib.ListN.{length-set}
use Rattle.block_loops.proofs.MarkingLaws.{walked_none, walked_more, walked_round}
use Rattle.block_permutation_bits.proofs.WalkLaws.{output-lt, passing, walk-less}
use Rattle.block_permutation_bits.proofs.marking.Loops.mark_loop.Goals as goal

pub loop-o-init : goal.loop-o-init
loop-o-init c = (0, walked_none c.args.self.now.paired c.args.i c.requires.leads c.args.mark.now c.requires.mark_len)

pub offset_bounds-self-o : goal.offset_bounds-self-o
offset_bounds-self-o c = omega (arith, output-lt c.args.self.now.paired c.requires.leads c.requires.mark_len c.loop-o.invariant.1, c.args.self.now.few)

pub bounds-self-o : goal.bounds-self-o
bounds-self-o c = output-lt c.args.self.now.paired c.requires.leads c.requires.mark_len c.loop-o.invariant.1

pub bounds-mark-o : goal.bounds-mark-o
bounds-mark-o c = omega (arith, output-lt c.args.self.now.paired c.requires.leads c.requires.mark_len c.loop-o.invariant.1)

pub bounds-mark-pairs : goal.bounds-mark-pairs
bounds-mark-pairs c =
    let t = passing c.args.self.now.paired c.requires.leads c.requires.mark_len c.loop-o.invariant.1 c.from-input.ensures in
    omega (arith, t.input_lt, c.args.self.now.paired.even, length-set c.loop-o.mark (c.loop-o.o / 2) (c.loop-o.o % 2))

pub step-o-requires : goal.step-o-requires
step-o-requires c = (passing c.args.self.now.paired c.requires.leads c.requires.mark_len c.loop-o.invariant.1 c.from-input.ensures).next_lt

pub returns-then-o-start : goal.returns-then-o-start
returns-then-o-start c =
    let t = passing c.args.self.now.paired c.requires.leads c.requires.mark_len c.loop-o.invariant.1 c.from-input.ensures in
    walked_round c.args.self.now.paired c.args.i c.requires.leads c.args.mark.now c.requires.mark_len c.loop-o.invariant.1
    t.input_is (c.step-o.ensures ∙ t.next_is) c.if-o-start.true

pub loop-o-smaller : goal.loop-o-smaller
loop-o-smaller c =
    let t = passing c.args.self.now.paired c.requires.leads c.requires.mark_len c.loop-o.invariant.1 c.from-input.ensures in
    walk-less c.args.self.now.paired c.requires.leads c.requires.mark_len c.loop-o.invariant.1 (c.step-o.ensures ∙ t.next_is) c.if-o-start.false

pub loop-o-preserved : goal.loop-o-preserved
loop-o-preserved c =
    let t = passing c.args.self.now.paired c.requires.leads c.requires.mark_len c.loop-o.invariant.1 c.from-input.ensures in (
      _,
      walked_more c.args.self.now.paired c.args.i c.requires.leads c.args.mark.now c.requires.mark_len c.loop-o.invariant.1
          t.input_is (c.step-o.ensures ∙ t.next_is) c.if-o-start.false,
    )
