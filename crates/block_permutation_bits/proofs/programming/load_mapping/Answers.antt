-- each input's place, counted from 0, is what `mapping` reads there
use mathlib.Core.Path.{refl, ap}
use Prim.Native.Nat.{suc, ◌-◌}
use native.Mathlib.Omega.{arith}
use Rattle.lists.specs.Lists.{list_of}
use Rattle.lists.proofs.ListsLaws.{get_d_any}
use Rattle.fault.proofs.BuffersLaws.{list-step}
use Rattle.block_networks.specs.Wanted.{mapping}
use Rattle.block_permutation_bits.proofs.programming.load_mapping.Goals as goal

pub loop-i-init : goal.loop-i-init
unfolding list_of
loop-i-init c = refl

pub loop-i-preserved : goal.loop-i-preserved
unfolding mapping
loop-i-preserved c =
    let i = c.loop-i.i in
    let entry = ap (λ x. x - 1) (get_d_any c.args.wanted.now i 0 (suc i) (omega arith)) in
    list-step c.args.perm.now i (mapping c.args.wanted.now) c.loop-i.invariant entry (omega arith)
