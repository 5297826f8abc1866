-- Plan faults first, then 11; where none fails the length was counted from the plan's K.
use Rattle.std.proofs.Common.{sym}
use Rattle.fault.proofs.ChecksLaws.{room-passes, room-refuses, ◌then◌}
use Rattle.fabric_sizes.specs.FabricChecks.{plan_program_fault}
use Rattle.fabric_sizes.proofs.PartsLaws.{own-places, plan-places}
use Rattle.fabric_sizes.proofs.FabricChecksLaws.{plan-measured}
use Rattle.fabric_sizes.proofs.programming.check_plan_program.Goals as goal

pub count_parts-counts-requires : goal.count_parts-counts-requires
count_parts-counts-requires c = rw (c.from.ensures) (own-places (plan-places c.args.plan (sym c.in_ok-plan_fault.ensures)))

pub returns-then-room-length : goal.returns-then-room-length
unfolding plan_program_fault
returns-then-room-length c =
    let none = c.in_ok-plan_fault.ensures in
    let measured = plan-measured c.args.plan none c.from.ensures c.count_parts-counts.ensures c.bytes_for-length.ensures in
    none then room-refuses measured c.if-room-length.true

pub returns : goal.returns
unfolding plan_program_fault
returns c =
    let none = c.in_ok-plan_fault.ensures in
    let measured = plan-measured c.args.plan none c.from.ensures c.count_parts-counts.ensures c.bytes_for-length.ensures in
    (none then room-passes measured c.if-room-length.false, measured)
