-- The list holds the plan's gates, and the parts, stored one behind the other, are the whole. A list of k gates would fit too: k is at most K.
use Rattle.std.proofs.Common.{◌≤◌, length, refl, rules, arith}
use Rattle.fabric_sizes.proofs.PartsLaws.{all-placed}
use Rattle.fabric_bits.proofs.LoadedLaws.{few-held}
use Rattle.fabric_bits.proofs.PlanBitsLaws.{gates-program-room, plan-stored, output-bits-fit}
use Rattle.fabric_bits.proofs.programming.store_plan.Goals as goal

pub slice_bounds-gates-end : goal.slice_bounds-gates-end
slice_bounds-gates-end c = omega (arith, few-held c.args.plan c.requires.accepted, all-placed c.args.plan c.requires.accepted)

pub slice_bounds-gates-end-2 : goal.slice_bounds-gates-end-2
slice_bounds-gates-end-2 c =
    let few : c.from.result ≤ 256 = omega (arith, few-held c.args.plan c.requires.accepted, all-placed c.args.plan c.requires.accepted) in search rules

pub load_padded-requires : goal.load_padded-requires
load_padded-requires c =
    let few : c.from.result ≤ 256 = omega (arith, few-held c.args.plan c.requires.accepted, all-placed c.args.plan c.requires.accepted) in search rules

pub store_gates-next-requires : goal.store_gates-next-requires
store_gates-next-requires c =
    rw (c.from-2.ensures) (gates-program-room c.args.plan c.requires.accepted c.load_padded.ensures refl c.requires.fits)

pub store_outputs-requires : goal.store_outputs-requires
store_outputs-requires c =
    let p = c.args.plan in
    let kept = c.store_gates-next.auto in
    let next = rw (c.from-2.ensures) at c.store_gates-next.ensures.behind in
    let fit = output-bits-fit p c.requires.accepted c.load_padded.ensures (length c.args.program.now) c.requires.fits next in
    record { accepted = c.requires.accepted; wanted_len = kept.wanted; fits = rw (kept.program) fit.0; few = fit.1 }

pub returns : goal.returns
returns c =
    let gates = rw (c.from-2.ensures) at c.store_gates-next.ensures in
    plan-stored c.args.plan c.requires.accepted c.load_padded.ensures c.args.program.now gates.stored gates.behind c.store_outputs.ensures
