-- The shift loses no bit.
use Rattle.std.proofs.Common.{◌^◌, ◌∙◌, arith}
use native.Mathlib.Nat.{one-mul}
use lib.Dec.{lit<}
use lib.Pow.{shl_exact}
use Rattle.block_sizes.proofs.SizesLaws.{power_small}
use Rattle.block_permutation_rows.proofs.level.size_at.Goals as goal

pub returns : goal.returns
returns c =
    let e = shl_exact {a = 1} 1 c.args.level 32 (lit< tt) (omega arith) ∙ one-mul (2 ^ c.args.level) in
    (e, rw e (power_small c.args.level (omega arith)))
