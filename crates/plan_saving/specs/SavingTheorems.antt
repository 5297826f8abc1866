-- Document 02, W5: what is proved of saving, sentence by sentence.
use Rattle.std.specs.Prelude.{ℕ, ◌-◌, ◌<◌, ◌≤◌, ◌≡◌, ◌↔◌, false, List, length, take, drop}
use Rattle.plan.specs.declared.record.Gate.{Gate}
use Rattle.plan.specs.declared.record.Plan.{Plan}
use Rattle.plan.specs.Record.{gate_at, gate_wire}
use Rattle.plan.specs.Faults.{plan_fault, Accepted}
use Rattle.plan_fields.specs.Parsing.{byte_at}
use Rattle.plan_fields.specs.Fields.{first_place, second_place, table_place, absent_table, map_bit}
use Rattle.plan_reading.specs.PlanFile.{ReadOutcome, plan_read}
use Rattle.plan_files.specs.Encoding.{TwoLines, used, OfBytes, longest_file}
use Rattle.plan_files.specs.TableLines.{gate_offset}
use Rattle.plan_saving.specs.Saving.{plan_save, save_result}

-- what the plain reading says of a file of the plan: 0 at 0, and the plan with its unused places zero
abbrev pub read_as : Plan → ReadOutcome
read_as p = record { number = 0; at = 0; plan = used p }

-- the gate whose own wire is `own` with the map byte m: which fields are left out, both ways
pub record LeftOut (own m : ℕ) (g : Gate) : Type 0 where
  pub first : (map_bit m first_place ≡ false) ↔ (g.first.0 ≡ own - 1)
  pub second : (map_bit m second_place ≡ false) ↔ ((g.second.0 ≡ g.first.0) × TwoLines g.table)
  pub table : (map_bit m table_place ≡ false) ↔ (g.table ≡ absent_table)

-- saving the plan p into a lent buffer
module _ (p : Plan) (buffer : List ℕ) where
  -- the length that is handed back
  abbrev pub saved_length : ℕ
  saved_length = (plan_save p (length buffer)).file_length

  -- the file: that many of the first bytes that the call leaves
  abbrev pub written : List ℕ
  written = take saved_length (save_result p buffer)

  -- where the call does not refuse: the file has the length that is handed back and is of bytes, and what stands past it is as it was; the plain reading
  -- returns the plan; at the map byte of each gate, where reading finds it, just the fields are left out that are to be; no file that is read as this
  -- plan is shorter
  pub record SavedRight : Type 0 where
    pub accepted : Accepted p
    pub long : length written ≡ saved_length
    pub bytes : OfBytes written
    pub past : drop saved_length (save_result p buffer) ≡ drop saved_length buffer
    pub read : plan_read written ≡ read_as p
    pub fields : (i : ℕ) → i < p.gate_count → LeftOut (gate_wire p.inputs i) (byte_at written (gate_offset false written i)) (gate_at p i)
    pub shortest : (s : List ℕ) → OfBytes s → plan_read s ≡ read_as p → saved_length ≤ length s
    pub most : saved_length ≤ longest_file

  -- where it refuses: the plan fault, or 11 for an accepted plan, with length 0 and the buffer as it was
  pub record SaveRefused : Type 0 where
    pub fault : (Accepted p → ⊥) → (plan_save p (length buffer)).number ≡ plan_fault p
    pub short : Accepted p → (plan_save p (length buffer)).number ≡ 11
    pub none : saved_length ≡ 0
    pub same : save_result p buffer ≡ buffer

-- for every plan and every buffer
abbrev pub SavedRightTheorem : Type 0
SavedRightTheorem = (p : Plan) (buffer : List ℕ) → (plan_save p (length buffer)).number ≡ 0 → SavedRight p buffer

abbrev pub SaveRefusedTheorem : Type 0
SaveRefusedTheorem = (p : Plan) (buffer : List ℕ) → ((plan_save p (length buffer)).number ≡ 0 → ⊥) → SaveRefused p buffer

-- an accepted plan has a length, at most that of the longest file, and is refused exactly for a buffer below it
pub record NeededLength (p : Plan) : Type 0 where
  pub needed : ℕ
  pub most : needed ≤ longest_file
  pub enough : (n : ℕ) → needed ≤ n → plan_save p n ≡ record { number = 0; file_length = needed }
  pub less : (n : ℕ) → n < needed → plan_save p n ≡ record { number = 11; file_length = 0 }

abbrev pub NeededLengthTheorem : Type 0
NeededLengthTheorem = (p : Plan) → Accepted p → NeededLength p

-- some plan's file is as long as the longest file
pub record LongestSaved : Type 0 where
  pub plan : Plan
  pub saved : plan_save plan longest_file ≡ record { number = 0; file_length = longest_file }

-- saving what was read, into a buffer that has room for the file that was read, is done and gives no longer file
abbrev pub SavedAgainTheorem : Type 0
SavedAgainTheorem = (s : List ℕ) → OfBytes s → (plan_read s).number ≡ 0 → (n : ℕ) → length s ≤ n
    → ((plan_save (plan_read s).plan n).number ≡ 0) × ((plan_save (plan_read s).plan n).file_length ≤ length s)
