-- A shift of 1 by the logarithm, which is at most 32, loses nothing.
use Rattle.std.proofs.Common.{◌∙◌, ◌^◌, ap, arith}
use native.Mathlib.Nat.{one-mul}
use lib.Pow.{shl_exact}
use lib.Dec.{lit<}
use Rattle.powers.specs.Powers.{ceil_power}
use Rattle.powers.proofs.PowersLaws.{ceil_log-least}
use Rattle.powers.proofs.ceil_power.Goals as goal

pub overflow_shl-result : goal.overflow_shl-result
overflow_shl-result c = omega (arith, ceil_log-least c.args.k 32 (omega arith))

pub returns : goal.returns
unfolding ceil_power
returns c =
    let few = ceil_log-least c.args.k 32 (omega arith) in
    shl_exact {a = 1} 1 c.ceil_log.result 64 (lit< tt) (omega arith) ∙ one-mul _ ∙ ap (λ n. 2 ^ n) c.ceil_log.ensures
