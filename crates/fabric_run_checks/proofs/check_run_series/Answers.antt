-- A table that passes has its header.
use Rattle.std.proofs.Common.{sym, arith}
use Rattle.fabric_run_checks.proofs.RunFaultLaws.{given_well_formed}
use Rattle.fabric_run_checks.proofs.check_run_series.Goals as goal

pub bounds-table-0 : goal.bounds-table-0
bounds-table-0 c = let w = (given_well_formed _ _ (sym c.in_ok-counts.ensures.checked)).start in omega arith

pub bounds-table-1 : goal.bounds-table-1
bounds-table-1 c = let w = (given_well_formed _ _ (sym c.in_ok-counts.ensures.checked)).start in omega arith
