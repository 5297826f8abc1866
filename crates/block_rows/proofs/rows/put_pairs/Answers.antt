-- All rows are put where they have room, otherwise none.
use Rattle.std.proofs.Common.{◌*◌, get_or, rules, arith}
use Rattle.block_rows.proofs.RowsLaws.{pairs_put, pairs-kept}
use Rattle.block_rows.proofs.rows.put_pairs.Goals as goal

pub returns-then-last-min : goal.returns-then-last-min
returns-then-last-min c =
    let a = c.args in
    pairs_put a.kind a.count a.lefts.now a.rights.now a.step a.rows.now (omega arith)
    (c.put_each.ensures (λ i. (get_or a.lefts.now (a.step * i) 0, get_or a.rights.now (a.step * i) 0)) (record { each = λ i pair l e. search rules }))

pub returns-else-last-min : goal.returns-else-last-min
returns-else-last-min c =
    let a = c.args in
    pairs_put a.kind a.count a.lefts.now a.rights.now a.step a.rows.now (omega arith)
    (c.put_each-else-last-min.ensures (λ i. (get_or a.lefts.now (a.step * i) 0, get_or a.rights.now (a.step * i) 0))
    (record { each = λ i pair l e. search rules }))

pub returns-else-row_place-rows : goal.returns-else-row_place-rows
returns-else-row_place-rows c =
    let a = c.args in
    pairs-kept a.kind a.count a.lefts.now a.rights.now a.step a.rows.now (omega arith)
