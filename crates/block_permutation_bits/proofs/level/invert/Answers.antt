-- a pair's inputs are places of the inverse, and the stores there keep what was stored
use Prim.Native.Nat.{◌+◌, ◌*◌}
use native.Mathlib.Omega.{arith}
use lib.ListN.{length-set}
use Rattle.block_loops.proofs.MarkingLaws.{unmarked-more}
use Rattle.block_loops.proofs.MappingsLaws.{entry_lt, inverted-pair, inverted-all}
use Rattle.block_permutation_bits.proofs.level.invert.Goals as goal

pub bounds-inverse-first : goal.bounds-inverse-first
bounds-inverse-first c = rw (c.from-first.ensures, c.loop-i.invariant.0.size) (entry_lt c.args.mapping.now.one_to_one (2 * c.loop-i.i) (omega arith))

pub bounds-inverse-second : goal.bounds-inverse-second
bounds-inverse-second c =
    simp length-set (rw (c.from-second.ensures, c.loop-i.invariant.0.size) (entry_lt c.args.mapping.now.one_to_one (2 * c.loop-i.i + 1) (omega arith)))

pub loop-i-preserved : goal.loop-i-preserved
loop-i-preserved c =
    (inverted-pair c.args.mapping.now.one_to_one (omega arith) c.from-first.ensures c.from-second.ensures c.loop-i.invariant.0, unmarked-more (omega arith) c.loop-i.invariant.1)

pub returns-clause-inverted : goal.returns-clause-inverted
returns-clause-inverted c = inverted-all c.args.mapping.now.one_to_one (omega arith) c.loop-i.invariant.0
