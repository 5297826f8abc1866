-- The listed gates are those that the outputs name.
use Rattle.std.proofs.Common.{ap₂, ◌∙◌, arith}
use Rattle.blocks.specs.Elements.{store_bits}
use Rattle.blocks.specs.Networks.{selection_bits}
use Rattle.plan.proofs.FaultsLaws.{accepted-counts}
use Rattle.fabric_lists.proofs.WantedListsLaws.{outputs-listed}
use Rattle.fabric_sizes.proofs.PartsLaws.{plan-places}
use Rattle.fabric_bits.proofs.PlanBitsLaws.{outputs_pass}
use Rattle.fabric_bits.proofs.programming.store_outputs.Goals as goal

pub store_selection-requires : goal.store_selection-requires
store_selection-requires c =
    let p = c.args.plan in
    let r = c.requires in
    let few = (accepted-counts p r.accepted).outputs in
    let listed = outputs-listed c.args.wanted.now p c.list_outputs.ensures few (omega (arith, r.wanted_len)) in
    let places = c.from.ensures ∙ (plan-places p r.accepted).is_places in
    rw (c.from-2.ensures) (record {
      selection_passes = outputs_pass p r.accepted c.list_outputs.new.wanted places listed r.fits;
      n_bound = rw places r.few;
    })

pub returns : goal.returns
returns c =
    let p = c.args.plan in
    let r = c.requires in
    let few = (accepted-counts p r.accepted).outputs in
    let listed = outputs-listed c.args.wanted.now p c.list_outputs.ensures few (omega (arith, r.wanted_len)) in
    let places = c.from.ensures ∙ (plan-places p r.accepted).is_places in
    (rw (c.from-2.ensures) at c.store_selection.ensures.stored)
    ∙ ap₂ (λ m w. store_bits c.args.program.now c.args.start (selection_bits m p.output_count w)) places listed
