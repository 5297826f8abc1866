-- P(2) has no row behind its input row.
use Rattle.std.proofs.Common.{refl, arith}
use Rattle.block_permutation_rows.proofs.HalvesLaws.{pair-kept, pair-outs, four-room, eight-room}
use Rattle.block_permutation_rows.proofs.level.write_base.Goals as goal

pub write_eight-requires : goal.write_eight-requires
write_eight-requires c = eight-room (omega arith) c.requires.1

pub write_four-requires : goal.write_four-requires
write_four-requires c = four-room c.in-1.is c.requires.1

pub returns-in-0 : goal.returns-in-0
returns-in-0 c =
    let a = c.args in
    record {
      rows_after = pair-kept a.n a.next.0 a.rows.now c.in-0.is;
      outs_at = pair-outs a.n a.next.0 _ c.in-0.is refl refl refl;
    }
