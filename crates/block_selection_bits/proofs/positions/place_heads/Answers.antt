-- A head is a position, or stands behind the last; at a wanted input's head there is a place for it.
use Rattle.std.proofs.Common.{◌≡◌, ◌+◌, length, refl, ap, ◌∙◌, arith}
use borrow.Author.Tests.{lt-ltb, le-ltb}
use lib.ListN.{get_or}
use Rattle.lists.specs.Lists.{list_of}
use Rattle.fault.proofs.BuffersLaws.{list-step}
use Rattle.block_selection_bits.specs.Arrays.{head_by}
use Rattle.block_selection_bits.proofs.ArraysLaws.{over-whole}
use Rattle.block_selection_bits.proofs.PositionsLaws.{head_more, head_lt, heads_none, heads_more}
use Rattle.block_selection_bits.proofs.positions.place_heads.Goals as goal
use Rattle.block_selection_bits.proofs.positions.place_heads.Goals.{then-count-gt0, else-count-gt0}

pub loop-j-init : goal.loop-j-init
unfolding list_of head_by
loop-j-init c = record { head_is = refl; headed = refl; listed = heads_none c.args.counts.now c.requires.blank }

pub bounds-list-from : goal.bounds-list-from
bounds-list-from c =
    omega (arith, c.from.ensures, c.loop-j.invariant.head_is, head_lt c.requires.heads_fit c.loop-j.j c.if-count-gt0.true)

pub overflow_add-head : goal.overflow_add-head
overflow_add-head c =
    omega (arith, c.loop-j.invariant.head_is, head_more c.args.counts.now c.loop-j.j, c.requires.heads_fit.each (c.loop-j.j + 1))

pub loop-j-preserved : goal.loop-j-preserved
loop-j-preserved c =
    let counts = c.args.counts.now in
    let j = c.loop-j.j in
    let head = c.loop-j.invariant.head_is in
    let more = heads_more c.requires.heads_fit (omega arith) j c.loop-j.invariant.listed in
    record {
      head_is = ap (λ h. h + get_or counts j 0) head ∙ head_more counts j;
      headed = list-step c.args.heads.now j (head_by counts) c.loop-j.invariant.headed head (omega arith);
      listed = elim c.if-count-gt0.branch [
        | then-count-gt0 w ↦ rw (w.list-is, w.from.ensures, head) (rw (lt-ltb 0 (get_or counts j 0) w.if-count-gt0.true) at more)
        | else-count-gt0 w ↦ rw w.list-is (rw (le-ltb 0 (get_or counts j 0) w.if-count-gt0.false) at more)
      ];
    }

pub returns-clause-headed : goal.returns-clause-headed
returns-clause-headed c =
    let counts = c.args.counts.now in
    let e : c.loop-j.j ≡ length counts = omega arith in
    over-whole (length counts) (head_by counts) c.args.heads.now (rw e at c.loop-j.invariant.headed) c.requires.places.0
