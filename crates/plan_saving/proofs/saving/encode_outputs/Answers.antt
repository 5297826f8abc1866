-- One output more.
use Rattle.std.proofs.Common.{◌≡◌, ◌<◌, get_or-take, length-take, ap, ◌∙◌, arith}
use Rattle.plan.specs.Record.{wire, output_at}
use Rattle.plan.proofs.FaultsLaws.{accepted-counts}
use Rattle.plan_files.specs.Encoding.{word, joined_bytes}
use Rattle.plan_files.proofs.ListLaws.{joined-more}
use Rattle.plan_saving.proofs.FileLaws.{joined-room}
use Rattle.plan_saving.specs.Parts.{saved_outputs}
use Rattle.plan_saving.proofs.WritingLaws.{wrote_none, wrote_as, wrote-more}
use Rattle.plan_saving.proofs.saving.encode_outputs.Goals as goal

pub shared_ref_as_front-wire-items : goal.shared_ref_as_front-wire-items
shared_ref_as_front-wire-items c = let counts = accepted-counts _ c.requires.accepted in omega (arith, c.from.ensures)

pub loop-wire-init : goal.loop-wire-init
unfolding joined_bytes
loop-wire-init c = wrote_none

pub put-at-requires : goal.put-at-requires
put-at-requires c =
    let p = c.args.plan.now in
    let j = c.loop-wire.wire-index in
    let low : j < p.output_count = omega (arith, length-take c.from.result p.outputs, c.from.ensures) in
    omega (arith, c.requires.output_count_in_bounds, joined-room (λ j. word (output_at p j).0) p.output_count j low)

pub loop-wire-preserved : goal.loop-wire-preserved
loop-wire-preserved c =
    let p = c.args.plan.now in
    let j = c.loop-wire.wire-index in
    let low : j < c.from.result = omega (arith, length-take c.from.result p.outputs) in
    wrote_as (wrote-more c.loop-wire.invariant (wrote_as c.put-at.ensures (c.word.ensures ∙ ap (λ o. word o.0) (get_or-take c.from.result p.outputs j (wire 0) low))))
    (joined-more (λ j. word (output_at p j).0) j)

pub returns : goal.returns
returns c =
    let p = c.args.plan.now in
    let counts = accepted-counts _ c.requires.accepted in
    let all : c.loop-wire.wire-index ≡ p.output_count = omega (arith, length-take c.from.result p.outputs, c.from.ensures) in
    wrote_as c.loop-wire.invariant (ap (saved_outputs p) all)
