-- Where the input of the next output stands, `heads` has that output's position; past the wanted outputs each has its own.
use Rattle.std.proofs.Common.{◌≡◌, suc, length, refl, ap, ◌∙◌, add-one, arith}
use Rattle.lists.specs.Lists.{list_of}
use Rattle.fault.proofs.BuffersLaws.{list-step}
use Rattle.block_networks.specs.Wanted.{mapping}
use Rattle.block_networks.specs.Selection.{copy_of}
use Rattle.block_networks.proofs.Heads.{copy-past}
use Rattle.block_selection_bits.proofs.ArraysLaws.{over-whole}
use Rattle.block_selection_bits.proofs.CountsLaws.{input-wanted}
use Rattle.block_selection_bits.proofs.CopiesLaws.{copy_is, next-copy_lt, copies-more}
use Rattle.block_selection_bits.proofs.copies.list_copies.Goals as goal

pub loop-o-init : goal.loop-o-init
unfolding list_of
loop-o-init c = record { copies = c.requires.next_copies; listed = refl }

pub next_copy-requires : goal.next_copy-requires
next_copy-requires c =
    let wanted = c.args.wanted.now in
    let o = c.loop-o.o in
    let l = c.loop-o-test.true in
    let (W, size) = c.requires.demand in
    (W.inputs.low o l, omega (arith, W.inputs.high o l), next-copy_lt W (c.loop-o.auto.heads ∙ size) c.loop-o.invariant.copies l (input-wanted wanted o l))

pub overflow_add-list : goal.overflow_add-list
overflow_add-list c =
    let (W, size) = c.requires.demand in
    let l = c.loop-o-test.true in
    omega (arith, next-copy_lt W (c.loop-o.auto.heads ∙ size) c.loop-o.invariant.copies l (input-wanted c.args.wanted.now c.loop-o.o l))

pub loop-o-preserved : goal.loop-o-preserved
loop-o-preserved c =
    let wanted = c.args.wanted.now in
    let o = c.loop-o.o in
    let l = c.loop-o-test.true in
    let (W, size) = c.requires.demand in
    let C = c.loop-o.invariant.copies in
    let e = input-wanted wanted o l in
    let p = c.next_copy.ensures.copied ∙ copy_is W (c.loop-o.auto.heads ∙ size) C l e in
    record {
      copies = rw (c.next_copy.ensures.counted, c.next_copy.ensures.copied) (copies-more W (c.loop-o.auto.heads ∙ size) C l e);
      listed = list-step c.args.list.now o (λ x. suc (copy_of (mapping wanted) (length wanted) x)) c.loop-o.invariant.listed
          (add-one c.next_copy.result ∙ ap suc p) (omega (arith, W.few));
    }

pub loop-own-preserved : goal.loop-own-preserved
loop-own-preserved c =
    let want = mapping c.args.wanted.now in
    let n = length c.args.wanted.now in
    let o = c.loop-own.own in
    list-step c.args.list.now o (λ x. suc (copy_of want n x)) c.loop-own.invariant (omega (arith, copy-past want n o (omega arith))) (omega arith)

pub returns : goal.returns
returns c =
    let want = mapping c.args.wanted.now in
    let n = length c.args.wanted.now in
    let size = length c.args.list.now in
    let e : c.loop-own.own ≡ size = omega (arith, c.requires.demand.0.few) in
    over-whole size (λ x. suc (copy_of want n x)) c.args.list.now (rw e at c.loop-own.invariant) refl
