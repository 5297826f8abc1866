-- By the number of gates: the upper half, the part between and the lower half are stored one behind the other.
use Rattle.std.proofs.Common.{◌/◌, length, ap, ◌∙◌, arith}
use Rattle.blocks.specs.Elements.{store_bits}
use Rattle.fabric_lists.specs.GateLists.{gates_listed}
use Rattle.fabric_bits.proofs.UniversalBitsLaws.{takes-half, upper-program-room, between_room, lower-program-room, length_between, length-upper, length-lower, upper-bits, lower-bits, more-gates, gate-takes, gate-stored, halves_stored}
use Rattle.fabric_bits.proofs.block.+program_universal.Goals as goal

pub returns-then-list-eq1 : goal.returns-then-list-eq1
returns-then-list-eq1 t c =
    let a = c.args in
    let gates = a.list.gates.now in
    record {
      behind = omega (arith, gate-takes {gates = length gates} (omega arith));
      stored = c.store_table.ensures ∙ gate-stored (gates_listed a.list.before gates) (length gates) 0 a.start a.program.now (omega arith);
    }

pub program_universal-between-requires : goal.program_universal-between-requires
program_universal-between-requires t c =
    let h = more-gates c.requires.power c.if-list-eq1.false in
    let (before, gates) = c.halves.ensures.upper in
    let size = length-upper c.args.list.gates.now h gates in
    (omega (arith, h.twice, h.some, size), upper-program-room c.requires h before size)

pub program_between-behind-requires : goal.program_between-behind-requires
program_between-behind-requires t c =
    let h = more-gates c.requires.power c.if-list-eq1.false in
    let upper = c.program_universal-between in
    between_room c.requires h (rw (length-upper c.args.list.gates.now h c.halves.ensures.upper.1) at upper.ensures.behind) upper.auto.wanted upper.auto.program

pub program_universal-requires : goal.program_universal-requires
program_universal-requires t c =
    let list = c.args.list in
    let h = more-gates c.requires.power c.if-list-eq1.false in
    let (before, gates) = c.halves.ensures.lower in
    let size = length-lower c.args.list.gates.now h gates in
    let upper = c.program_universal-between in
    let between = c.program_between-behind in
    let first = rw (length-upper c.args.list.gates.now h c.halves.ensures.upper.1) at upper.ensures.behind in
    let bits = length_between (gates_listed list.before list.gates.now) 0 (length list.gates.now / 2) in (
      omega (arith, h.twice, h.some, size),
      lower-program-room c.requires h before size (omega (arith, between.ensures.behind, first, bits))
          (between.auto.wanted ∙ upper.auto.wanted) (between.auto.program ∙ upper.auto.program),
    )

pub returns : goal.returns
returns t c =
    let a = c.args in
    let list = a.list in
    let G = gates_listed list.before list.gates.now in
    let half = length list.gates.now / 2 in
    let h = more-gates c.requires.power c.if-list-eq1.false in
    let (upper-before, upper-gates) = c.halves.ensures.upper in
    let (lower-before, lower-gates) = c.halves.ensures.lower in
    let upper = c.program_universal-between.ensures in
    let between = c.program_between-behind.ensures in
    let lower = c.program_universal.ensures in
    let first = rw (length-upper c.args.list.gates.now h upper-gates) at upper.behind in
    let last = rw (length-lower c.args.list.gates.now h lower-gates) at lower.behind in
    record {
      behind = omega (arith, last, between.behind, first, length_between G 0 half, takes-half c.requires h);
      stored =
          halves_stored G (length list.gates.now) 0 a.start a.program.now h
          (upper.stored ∙ ap (store_bits a.program.now a.start) (upper-bits list.before list.gates.now h upper-before upper-gates)) first between.stored between.behind
          (lower.stored ∙ ap (store_bits _ _) (lower-bits list.before list.gates.now h lower-before lower-gates));
    }
