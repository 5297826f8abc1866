-- The laws of U's rows, wires and bits, and that nothing is lost.
use Rattle.std.proofs.Common.{arith}
use Rattle.fabric_sizes.proofs.PartsLaws.{Products, products, universal_is}
use Rattle.fabric_sizes.proofs.parts.count_universal.Goals as goal

small : (c : goal.After-ceil_log-n) → Products c.ceil_log-n.result c.args.places
small c = products c.requires c.ceil_log-n.ensures

pub overflow_mul-rows : goal.overflow_mul-rows
overflow_mul-rows c = let p = small c in omega arith

pub overflow_add-rows : goal.overflow_add-rows
overflow_add-rows c = let p = small c in omega arith

pub overflow_mul-rows-2 : goal.overflow_mul-rows-2
overflow_mul-rows-2 c = let p = small c in omega arith

pub overflow_add-rows-2 : goal.overflow_add-rows-2
overflow_add-rows-2 c = let p = small c in omega arith

pub overflow_mul-result : goal.overflow_mul-result
overflow_mul-result c = let p = small c in omega arith

pub overflow_mul-result-2 : goal.overflow_mul-result-2
overflow_mul-result-2 c = let p = small c in omega arith

pub overflow_mul-result-3 : goal.overflow_mul-result-3
overflow_mul-result-3 c = let p = small c in omega arith

pub overflow_add-result : goal.overflow_add-result
overflow_add-result c = let p = small c in omega arith

pub overflow_add-result-2 : goal.overflow_add-result-2
overflow_add-result-2 c = let p = small c in omega arith

pub returns : goal.returns
returns c = universal_is (small c) c.ceil_log-n.ensures c.requires
