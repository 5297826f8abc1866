-- The count of leading zeros leaves the bits of k - 1: k - 1 is below two to their number, and twice k - 1 is not below it.
use Rattle.std.proofs.Common.{◌-◌, suc, arith}
use native.Mathlib.Nat.{pow-suc}
use lib.Count.{leading_length}
use lib.Pow.{pow_mono, pow_pos}
use Rattle.powers.proofs.PowersLaws.{ceil_log-is}
use Rattle.powers.proofs.ceil_log.Goals as goal

pub returns : goal.returns
returns c =
    let k = c.args.k in
    let (m, left, above, twice) = leading_length 32 (k - 1) (omega arith) in
    let e = ceil_log-is k m (omega arith) (λ j hj. omega (arith, pow-suc 2 j, pow_mono {i = suc j} {j = m} hj, pow_pos j)) in
    rw c.saturating_sub.ensures (omega arith)
