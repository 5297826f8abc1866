-- Document 01, "The plan", and document 02, W4: the files of a plan, and what the theorems about them say. A choice of standing fields gives one file.
use Rattle.std.specs.Prelude.{ℕ, zero, suc, ◌<◌, ◌≤◌, ◌+◌, ◌-◌, ◌*◌, ◌/◌, ◌%◌, ◌≡◌, ◌↔◌, Bool, true, false, cond, List, [], ◌∷◌, ◌++◌, length, get_or}
use Rattle.lists.specs.Lists.{list_of}
use Rattle.plan.specs.declared.record.Gate.{Gate}
use Rattle.plan.specs.declared.record.Plan.{Plan}
use Rattle.plan.specs.Record.{gate_at, output_at, gate_wire, plan_of}
use Rattle.plan.specs.Rules.{map_allowed}
use Rattle.plan.specs.Faults.{Accepted}
use Rattle.plan_fields.specs.Fields.{first_place, second_place, table_place, absent_table, map_bit}
use Rattle.plan_reading.specs.PlanFile.{plan_read}

-- a one-byte number
abbrev pub byte : ℕ → List ℕ
byte n = n ∷ []

-- a two-byte number, low byte first
abbrev pub word : ℕ → List ℕ
word n = n % 256 ∷ n / 256 ∷ []

-- a field's bytes, if it stands
abbrev pub where_standing : Bool → List ℕ → List ℕ
where_standing stands bytes = cond stands bytes []

-- the table byte of a table, by whether the second operand stands: of four lines the table itself; of two its bit 0 and, as bit 1, its bit 3
abbrev pub table_byte : Bool → ℕ → ℕ
table_byte second t = cond second t (t % 2 + 2 * (t / 8 % 2))

-- bits 1 and 2 of a table, which two lines do not have
abbrev pub middle_lines : ℕ → ℕ
middle_lines t = t / 2 % 4

-- a table that two lines can say: its bits 1 and 2 are clear
abbrev pub TwoLines : ℕ → Type 0
TwoLines t = middle_lines t ≡ 0

-- a gate with the map byte m: the byte, then only the fields whose map bit stands
abbrev pub encode_gate : ℕ → Gate → List ℕ
encode_gate m g =
    byte m
    ++ (where_standing (map_bit m first_place) (word g.first.0)
    ++ (where_standing (map_bit m second_place) (word g.second.0)
    ++ where_standing (map_bit m table_place) (byte (table_byte (map_bit m second_place) g.table))))

-- the bytes of items 0 to n - 1, one after another
unfoldable pub joined_bytes : ℕ → (ℕ → List ℕ) → List ℕ
joined_bytes zero f = []
joined_bytes (suc n) f = joined_bytes n f ++ f n

-- the file of a plan with the map byte `maps i` for gate i
unfoldable pub encode : (ℕ → ℕ) → Plan → List ℕ
encode maps p =
    word p.inputs ++ (word p.gate_count ++ (word p.output_count
    ++ (joined_bytes p.gate_count (λ i. encode_gate (maps i) (gate_at p i)) ++ joined_bytes p.output_count (λ j. word (output_at p j).0))))

-- a map byte for the gate whose own wire is `own` that leaves out only fields that equal their defaults, and the second operand only where two lines
-- can say the table
pub record LeavesOutDefaults (own m : ℕ) (g : Gate) : Type 0 where
  pub is_map : map_allowed m ≡ true
  pub first : map_bit m first_place ≡ false → g.first.0 ≡ own - 1
  pub second : map_bit m second_place ≡ false → g.second.0 ≡ g.first.0
  pub lines : map_bit m second_place ≡ false → TwoLines g.table
  pub table : map_bit m table_place ≡ false → g.table ≡ absent_table

-- a choice of standing fields for a plan, one map byte a gate
abbrev pub Choice : (ℕ → ℕ) → Plan → Type 0
Choice maps p = (i : ℕ) → i < p.gate_count → LeavesOutDefaults (gate_wire p.inputs i) (maps i) (gate_at p i)

-- the plan with its unused places zero
abbrev pub used : Plan → Plan
used p =
    plan_of p.inputs p.gate_count p.output_count
    (list_of p.gate_count (λ i. gate_at p i)) (list_of p.output_count (λ j. output_at p j))

-- a file: every number of it is a byte
abbrev pub OfBytes : List ℕ → Type 0
OfBytes s = (i : ℕ) → get_or s i 0 < 256

-- s is a file of the accepted plan p, whose unused places are zero
pub record Encoded (s : List ℕ) (p : Plan) : Type 0 where
  pub accepted : Accepted p
  pub zeroed : used p ≡ p
  pub maps : ℕ → ℕ
  pub choice : Choice maps p
  pub file : s ≡ encode maps p

-- a plan is read from its files and from no others
abbrev pub ReadsExactly : Type 0
ReadsExactly = (s : List ℕ) (p : Plan) → OfBytes s → (plan_read s ≡ record { number = 0; at = 0; plan = p }) ↔ Encoded s p

-- every file of an accepted plan is of bytes
abbrev pub FilesOfBytes : Type 0
FilesOfBytes = (maps : ℕ → ℕ) (p : Plan) → Accepted p → Choice maps p → OfBytes (encode maps p)

-- the bytes of a gate in which every field stands, and of an output
abbrev pub gate_bytes : ℕ
gate_bytes = 6

abbrev pub output_bytes : ℕ
output_bytes = 2

-- "Longest plan: 1,670 bytes"
abbrev pub longest_file : ℕ
longest_file = 1670

-- no longer file is read, and one of that length is
pub record LongestPlan : Type 0 where
  pub none_longer : (s : List ℕ) → OfBytes s → (plan_read s).number ≡ 0 → length s ≤ longest_file
  pub file : List ℕ
  pub bytes : OfBytes file
  pub read : (plan_read file).number ≡ 0
  pub long : length file ≡ longest_file
