use Rattle.std.proofs.Common.{refl, arith}
use native.Mathlib.Nat.{mul-add}
use Rattle.lists.specs.Lists.{list_of}
use Rattle.block_elements.specs.Rows.{flat}
use Rattle.block_permutation_rows.specs.Levels.{rising_rows}
use Rattle.block_permutation_rows.proofs.SwitchesLaws.{rising-more}
use Rattle.block_permutation_rows.proofs.switches.put_rising.Goals as goal

pub loop-i-init : goal.loop-i-init
unfolding list_of rising_rows flat
loop-i-init c = (omega arith, omega arith, refl)

pub loop-i-preserved : goal.loop-i-preserved
loop-i-preserved c =
    let a = c.args in
    let loop = c.loop-i in
    let n = c.row_place.result in
    let next = mul-add a.step loop.i 1 in (
      omega (arith, c.from-step.ensures),
      omega (arith, c.from-step.ensures),
      rising-more a.left a.right a.step loop.i n a.rows.now loop.rows c.put_switch.new.rows c.row_place.ensures (omega arith) loop.invariant.2
          (rw (loop.invariant.0, loop.invariant.1) at c.put_switch.ensures),
    )
