-- Where the header passes it is within its bounds.
use Rattle.std.proofs.Common.{sym}
use Rattle.fabric_table_checks.proofs.TableFaultLaws.{header-faultless}
use Rattle.fabric_table_checks.proofs.checking.check_table.Goals as goal

pub check_rows-requires : goal.check_rows-requires
check_rows-requires c = (header-faultless c.args.table.now).0 (sym c.in_ok-check_header.ensures)

pub check_end-requires : goal.check_end-requires
check_end-requires c = ((header-faultless c.args.table.now).0 (sym c.in_ok-check_header.ensures), c.in_ok-counts.ensures.counted.wires)
