-- the last pair is the first to be taken, pair i the one after i others
use mathlib.Core.Path.{◌≡◌}
use Prim.Native.Nat.{ℕ, ◌+◌, ◌/◌}
use native.Mathlib.Omega.{arith}
use lib.ListN.{length}
use Rattle.block_loops.specs.Marking.{visit_pair}
use Rattle.block_loops.proofs.MarkingLaws.{swept_none, swept_more, swept_all, visit_first, visit_next, leads}
use Rattle.block_permutation_bits.proofs.marking.Loops.mark_sides.Goals as goal
use Rattle.block_permutation_bits.proofs.marking.Loops.mark_sides.Goals.{then-mark-i-eq-UNMARKED, else-mark-i-eq-UNMARKED}

next : (h i : ℕ) → i ≡ visit_pair h (i + 1)
next h i = omega (arith, visit_next h (i + 1) (omega arith))

pub mark_loop-requires-clause-leads : goal.mark_loop-requires-clause-leads
mark_loop-requires-clause-leads c =
    let s = c.args.self.now in
    leads s.paired (omega (arith, s.some)) (swept_none s.outputs.now c.requires.mark_len c.requires.unmarked) (visit_first (length s.inputs.now / 2))
    (c.requires.unmarked.each _ (omega (arith, s.some)))

pub loop-i-init : goal.loop-i-init
loop-i-init c =
    let s = c.args.self.now in
    swept_more s.paired (omega (arith, s.some)) (swept_none s.outputs.now c.requires.mark_len c.requires.unmarked) (visit_first (length s.inputs.now / 2))
    record { new = λ _. c.mark_loop.ensures; old = λ n. absurd (n (c.requires.unmarked.each _ (omega (arith, s.some)))) }

pub mark_loop-requires-then-mark-i-eq-UNMARKED-clause-leads : goal.mark_loop-requires-then-mark-i-eq-UNMARKED-clause-leads
mark_loop-requires-then-mark-i-eq-UNMARKED-clause-leads c =
    let s = c.args.self.now in
    leads s.paired (omega arith) c.loop-i.invariant (next (length s.inputs.now / 2) c.loop-i.i) c.if-mark-i-eq-UNMARKED.true

pub loop-i-preserved : goal.loop-i-preserved
loop-i-preserved c =
    let s = c.args.self.now in
    swept_more s.paired (omega arith) c.loop-i.invariant (next (length s.inputs.now / 2) c.loop-i.i)
    (elim c.if-mark-i-eq-UNMARKED.branch [
      | then-mark-i-eq-UNMARKED w ↦ record {
        new = λ _. rw w.mark-is w.mark_loop-then-mark-i-eq-UNMARKED.ensures;
        old = λ n. absurd (n w.if-mark-i-eq-UNMARKED.true);
      }
      | else-mark-i-eq-UNMARKED w ↦ record { new = λ e. absurd (w.if-mark-i-eq-UNMARKED.false e); old = λ _. w.mark-is }
    ])

pub returns : goal.returns
returns c = swept_all c.args.self.now.paired (omega arith) c.loop-i.invariant
