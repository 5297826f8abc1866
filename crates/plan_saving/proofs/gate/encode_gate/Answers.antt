-- The map byte, and behind it each field that stands.
use Rattle.std.proofs.Common.{arith}
use Rattle.plan_saving.proofs.GateLaws.{gate-parts, gate-wrote}
use Rattle.plan_saving.proofs.gate.encode_gate.Goals as goal

pub put_standing-first-requires : goal.put_standing-first-requires
put_standing-first-requires c =
    let a = c.args in
    (omega arith, rw c.word.ensures (omega (arith, c.requires.gate_in_bounds, gate-parts a.s a.gate)))

pub put_standing-second-requires : goal.put_standing-second-requires
put_standing-second-requires c =
    let a = c.args in
    let first = rw c.word.ensures at c.put_standing-first.ensures in
    (omega arith, rw c.word-2.ensures (omega (arith, c.requires.gate_in_bounds, gate-parts a.s a.gate, first.is_next)))

pub put_standing-requires : goal.put_standing-requires
put_standing-requires c =
    let a = c.args in
    let first = rw c.word.ensures at c.put_standing-first.ensures in
    let second = rw c.word-2.ensures at c.put_standing-second.ensures in
    (omega arith, rw c.table_byte.ensures (omega (arith, c.requires.gate_in_bounds, gate-parts a.s a.gate, first.is_next, second.is_next)))

pub returns : goal.returns
returns c =
    gate-wrote c.args.s c.args.gate c.map_of.ensures c.table_byte.ensures c.put-map.ensures (rw c.word.ensures at c.put_standing-first.ensures)
    (rw c.word-2.ensures at c.put_standing-second.ensures) c.put_standing.ensures
