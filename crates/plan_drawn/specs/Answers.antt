-- What drawn reading hands back says, in the refusal table's numbers.
use Rattle.std.specs.Prelude.{Result, Ok, Err, []}
use Rattle.fault.specs.Number.{fault_number}
use Rattle.fault.specs.declared.Refusal.{Refusal}
use Rattle.plan.specs.Record.{max_gates, places, zero_plan}
use Rattle.plan_drawn.specs.declared.reading.DrawnPlan.{DrawnPlan}
use Rattle.plan_drawn.specs.DrawnFile.{DrawnOutcome}

-- what drawn reading handed back: 0 at 0 with the plan and its list, or the refusal's number and offset with both all zero
abbrev pub drawn_read_outcome : Result DrawnPlan Refusal → DrawnOutcome
drawn_read_outcome (Ok r) = record { number = 0; at = 0; plan = r.plan; drawn = r.drawn }
drawn_read_outcome (Err x) = record { number = fault_number x.fault; at = x.at; plan = zero_plan; drawn = places max_gates 0 [] }
