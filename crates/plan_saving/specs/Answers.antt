-- What each case of saving's answer says, in document 02's numbers and values.
use Rattle.std.specs.Prelude.{ℕ, Result, Ok, Err}
use Rattle.fault.specs.declared.Fault.{Fault}
use Rattle.fault.specs.Number.{fault_number}
use Rattle.plan_saving.specs.Saving.{SaveOutcome}

-- the length of the file that was written, or the refusal with length 0
abbrev pub save_outcome : Result ℕ Fault → SaveOutcome
save_outcome (Ok long) = record { number = 0; file_length = long }
save_outcome (Err f) = record { number = fault_number f; file_length = 0 }
