-- One gate more, in which the fields of the shortest file stand.
use Rattle.std.proofs.Common.{◌≡◌, ap, length, length-take, arith}
use Rattle.plan.specs.Record.{gate_at}
use Rattle.plan.proofs.FaultsLaws.{accepted-counts, accepted-gate}
use Rattle.plan_files.specs.Encoding.{encode_gate, joined_bytes}
use Rattle.plan_files.proofs.ListLaws.{joined-more}
use Rattle.plan_saving.specs.Saving.{shortest_map}
use Rattle.plan_saving.specs.Parts.{saved_gates}
use Rattle.plan_saving.proofs.WritingLaws.{wrote_none, wrote_as, wrote-more}
use Rattle.plan_saving.proofs.FileLaws.{joined-room, gate-saved}
use Rattle.plan_saving.proofs.saving.encode_gates.Goals as goal

pub shared_ref_as_front-gates : goal.shared_ref_as_front-gates
shared_ref_as_front-gates c = let counts = accepted-counts _ c.requires.accepted in omega (arith, c.from.ensures)

pub loop-i-init : goal.loop-i-init
unfolding joined_bytes
loop-i-init c = wrote_none

pub encode_gate-at-requires-clause-table_le_max_table : goal.encode_gate-at-requires-clause-table_le_max_table
encode_gate-at-requires-clause-table_le_max_table c =
    let saved = gate-saved _ c.requires.accepted c.from.ensures c.loop-i-test.true c.gate_wire.ensures c.fields_needed-fields.ensures in
    rw saved.same (accepted-gate _ c.requires.accepted c.loop-i.i saved.low).table

pub encode_gate-at-requires-clause-gate_in_bounds : goal.encode_gate-at-requires-clause-gate_in_bounds
encode_gate-at-requires-clause-gate_in_bounds c =
    let saved = gate-saved _ c.requires.accepted c.from.ensures c.loop-i-test.true c.gate_wire.ensures c.fields_needed-fields.ensures in
    let p = c.args.plan.now in
    omega (
      arith,
      c.requires.gate_count_in_bounds,
      ap length saved.bytes,
      joined-room (λ j. encode_gate (shortest_map p j) (gate_at p j)) p.gate_count c.loop-i.i saved.low,
    )

pub loop-i-preserved : goal.loop-i-preserved
loop-i-preserved c =
    let saved = gate-saved _ c.requires.accepted c.from.ensures c.loop-i-test.true c.gate_wire.ensures c.fields_needed-fields.ensures in
    let p = c.args.plan.now in
    wrote_as (wrote-more c.loop-i.invariant (wrote_as c.encode_gate-at.ensures saved.bytes))
    (joined-more (λ j. encode_gate (shortest_map p j) (gate_at p j)) c.loop-i.i)

pub returns : goal.returns
returns c =
    let p = c.args.plan.now in
    let counts = accepted-counts _ c.requires.accepted in
    let all : c.loop-i.i ≡ p.gate_count = omega (arith, length-take c.from.result p.gates, c.from.ensures) in
    wrote_as c.loop-i.invariant (ap (saved_gates p) all)
