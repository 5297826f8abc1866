-- By the number of gates: the steps write what the definition of U says.
use Rattle.std.proofs.Common.{◌≡◌, length, refl, arith, rules}
use Rattle.std.proofs.lemmas.Slice.{between_to_end}
use Rattle.fabric_rows.proofs.BlockLaws.{gate-rows, gate-outs}
use Rattle.fabric_rows.proofs.UniversalWriteLaws.{middle-room, halves_written, outs-written}
use Rattle.fabric_rows.proofs.block.+write_universal.Goals as goal

pub returns-then-gates-eq1 : goal.returns-then-gates-eq1
returns-then-gates-eq1 t c =
    let a = c.args in
    let gate = c.write_gate.ensures in
    record {
      rows = gate-rows a.next.0 a.pins.now a.rows.now c.if-gates-eq1.true c.requires.row_room gate.rows;
      outs = gate-outs a.next.0 a.outs.now c.if-gates-eq1.true refl c.requires.wires gate.outs;
    }

pub write_middle-requires : goal.write_middle-requires
write_middle-requires t c =
    let at = c.universal_parts-parts.ensures in
    let half : length c.split_at_mut-upper_outs.result.0.now ≡ c.universal_parts-parts.result.half =
    omega (arith, c.split_at_mut-upper_outs.ensures.front_len, at.pins_are, at.double) in
    let first = c.write_universal in
    let upper = rw half at first.ensures in
    middle-room c.args.rows.now c.args.pins.now c.requires at first.new.outs upper.outs first.new.rows first.new.pins first.auto.rows first.auto.pins

pub returns : goal.returns
returns t c =
    let at = c.universal_parts-parts.ensures in
    let p = c.universal_parts-parts.result in
    let rows = c.args.rows.now in
    let pins = c.args.pins.now in
    let half : length c.split_at_mut-upper_outs.result.0.now ≡ p.half =
    omega (arith, c.split_at_mut-upper_outs.ensures.front_len, at.pins_are, at.double) in
    let rest : length c.split_at_mut-upper_outs.result.1.now ≡ p.half =
    omega (arith, c.split_at_mut-upper_outs.ensures.back_len, at.pins_are, at.double) in
    let first = c.write_universal in
    let upper = rw half at first.ensures in
    let middle = c.write_middle in
    let lower = rw rest at c.write_universal-2.ensures in
    let outs = first.new.outs in
    record {
      rows =
          halves_written rows pins c.requires at outs upper.outs first.new.pins first.auto.pins first.auto.rows middle.auto.rows upper.rows middle.ensures.rows
          middle.ensures.pins (search (rules, between_to_end)) lower.rows;
      outs = outs-written rows pins c.requires at outs upper.outs lower.outs;
    }
