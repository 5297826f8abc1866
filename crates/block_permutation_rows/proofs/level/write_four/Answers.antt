-- Three rows, one behind the other.
use Rattle.std.proofs.Common.{refl}
use Rattle.block_permutation_rows.proofs.HalvesLaws.{four-outs, four-written}
use Rattle.block_permutation_rows.proofs.level.write_four.Goals as goal

pub returns : goal.returns
returns c =
    record {
      rows_after = four-written c.args.next.0 c.args.rows.now c.put_switch.new.rows c.put_switch-2.new.rows c.put_switch-3.new.rows
          c.requires c.put_switch.ensures c.put_switch-2.ensures c.put_switch-3.ensures;
      outs_at = four-outs _ _ refl refl refl;
    }
