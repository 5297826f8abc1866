-- The header, then part after part in its own stretch.
use Rattle.std.proofs.Common.{ℕ, ◌≡◌, ◌≤◌, length, take, suc, ◌*◌, replicate, ap, ◌∙◌, arith, length-take}
use Rattle.blocks.proofs.NetworksLaws.{length-selection_outs}
use Rattle.plan.specs.Record.{max_gates}
use Rattle.fabric_universal.specs.Fabric.{input_wires}
use Rattle.fabric_rows.proofs.WritingLaws.{universal-room, gates-in, table-written}
use Rattle.fabric_rows.proofs.writing.put_fabric.Goals as goal

-- a place for each gate's wire
size : {g gates : ℕ} → g ≡ gates → gates ≤ max_gates → length (take g (replicate {A = ℕ} max_gates 0)) ≡ gates
size {g} e few = omega (arith, length-take {A = ℕ} g (replicate max_gates 0))

pub write_universal-requires : goal.write_universal-requires
write_universal-requires c =
    let l = c.layout_of-layout in
    let u = c.args.counts.inputs in
    let pins = ap length c.put_pins.ensures.pins_after ∙ length-selection_outs u (2 * l.result.gates) (input_wires u) (suc u) in
    let outs = size c.from-gates.ensures l.ensures.few_gates in
    universal-room l.ensures c.args.table.now c.requires c.put_header.new.header c.put_pins.new.rows c.put_header.auto.header c.put_pins.auto.rows pins outs

pub returns : goal.returns
returns c =
    let a = c.args in
    let l = c.layout_of-layout in
    let pins = c.put_pins in
    let gates = c.write_universal in
    let outs = size c.from-gates.ensures l.ensures.few_gates in
    let w = gates-in l.ensures a.table.now c.requires c.put_header.new.header pins.new.rows c.put_header.auto.header pins.auto.rows gates.new.rows gates.auto.rows in
    table-written a.counts.within l.ensures c.requires w c.put_header.ensures pins.ensures.rows_after pins.ensures.pins_after outs gates.ensures.rows gates.ensures.outs
    c.put_outputs.ensures.rows
