-- A row that passes is counted, and the counts stay small; the first that does not is refused.
use Rattle.std.proofs.Common.{sym, refl, arith, subst, get_or}
use Rattle.std.proofs.lemmas.Result.{err_from_is_err_and}
use native.Mathlib.Numerals.{add-one}
use Rattle.fault.specs.Checks.{first_of}
use Rattle.fault.proofs.ChecksLaws.{next-passes, first-fails, number-positive}
use Rattle.fabric_table_checks.specs.Counting.{CountsOf}
use Rattle.fabric_table_checks.proofs.CountingLaws.{counted-first, counted-one-more, counted-few}
use Rattle.fabric_table_checks.proofs.checking.check_rows.Goals as goal

pub loop-i-init : goal.loop-i-init
unfolding first_of
loop-i-init c = (refl, counted-first c.args.table.now _ (omega arith))

pub returns-in_err-check_row-clause-checked : goal.returns-in_err-check_row-clause-checked
returns-in_err-check_row-clause-checked c =
    let refusal = err_from_is_err_and c.from_residual.result c.from_residual.ensures.1 in
    rw (refusal.1, refusal.2)
    (first-fails _ _ c.loop-i.i _ (omega arith) c.loop-i.invariant.0 c.in_err-check_row.ensures (number-positive c.in_err-check_row.field-0.0))

pub overflow_add-before-in-loop-i : goal.overflow_add-before-in-loop-i
overflow_add-before-in-loop-i c = omega (arith, counted-few c.requires.inputs (omega (arith, c.type_inv.table 2)) c.loop-i.invariant.1)

pub overflow_add-before-in-loop-i-2 : goal.overflow_add-before-in-loop-i-2
overflow_add-before-in-loop-i-2 c = omega (arith, counted-few c.requires.inputs (omega (arith, c.type_inv.table 2)) c.loop-i.invariant.1)

pub loop-i-preserved : goal.loop-i-preserved
loop-i-preserved c =
    let own = subst (λ n. CountsOf (get_or c.args.table.now n 0) c.counts_of-own.result) c.row_start.ensures.0 c.counts_of-own.ensures in
    (rw (add-one c.loop-i.i) (next-passes _ c.loop-i.i c.loop-i.invariant.0 (sym c.in_ok-check_row.ensures)), counted-one-more c.loop-i.invariant.1 own)

pub returns-clause-few : goal.returns-clause-few
returns-clause-few c = (counted-few c.requires.inputs (omega (arith, c.type_inv.table 2)) c.loop-i.invariant.1).bits
