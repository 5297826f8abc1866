-- What each case of an edit's answer says, in document 02's numbers and values.
use Rattle.std.specs.Prelude.{Result, Ok, Err}
use Rattle.fault.specs.declared.Fault.{Fault}
use Rattle.fault.specs.Number.{fault_number}
use Rattle.plan.specs.declared.record.Plan.{Plan}
use Rattle.plan_edits.specs.Edits.{EditOutcome}

-- of an edit of the plan p: the answer's number, 0 where the edit was done, with the edited plan, or with p as it went in where it is refused
abbrev pub edited_outcome : Plan → Result Plan Fault → EditOutcome
edited_outcome p (Ok q) = record { number = 0; plan = q }
edited_outcome p (Err f) = record { number = fault_number f; plan = p }
