-- The numbers of the refusal table.
use Rattle.std.specs.Prelude.{ℕ, Result, Ok, Err}
use Rattle.fault.specs.declared.Fault.{Fault}
use Rattle.fault.specs.declared.Fault.TheVariants.{Stub, Inputs, Gates, Outputs, Cut, Map, Operand, Table, Source, Tail, Short, Contact, Fabric, Program, Ring, Hold, Tally, Place}

-- the number of a word
abbrev pub fault_number : Fault → ℕ
fault_number Stub = 1
fault_number Inputs = 2
fault_number Gates = 3
fault_number Outputs = 4
fault_number Cut = 5
fault_number Map = 6
fault_number Operand = 7
fault_number Table = 8
fault_number Source = 9
fault_number Tail = 10
fault_number Short = 11
fault_number Contact = 12
fault_number Fabric = 13
fault_number Program = 14
fault_number Ring = 15
fault_number Hold = 16
fault_number Tally = 17
fault_number Place = 18

-- 0 is no number of the table: the call was done
abbrev pub answer_number : {A : Type 0} → Result A Fault → ℕ
answer_number (Ok _) = 0
answer_number (Err f) = fault_number f
