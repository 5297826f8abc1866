-- What the steps of a file give, whatever its bytes: values within their bounds, or a number of reading. Fields first, then a gate, items in order and
-- the whole file, of a plan or of a drawing.
use Prim.Native.Nat.{ℕ, zero, suc, ◌+◌, ◌-◌, ◌≤◌, ◌<◌}
use native.Mathlib.Omega.{arith}
use native.Mathlib.Decide.{ℕ_discrete}
use mathlib.Core.Path.{◌≡◌, refl, ◌∙◌}
use mathlib.Core.Logic.{inl, inr}
use mathlib.Core.Bool.{Bool, true, false}
use mathlib.Core.List.{List, [], ◌∷◌, ◌++◌}
use borrow.Author.Tests.{leb-true}
use lib.Dec.{leb, ltb, lit≤}
use lib.ListN.{length, get_or, length-append, get_or-append}
use lib.Seq.{get_or_at}
use Rattle.lists.proofs.CountingLaws.{passed}
use Rattle.fault.specs.declared.Fault.{Fault}
use Rattle.fault.specs.Number.{fault_number}
use Rattle.plan.specs.declared.record.Gate.{Gate}
use Rattle.plan.specs.declared.record.Plan.{Plan}
use Rattle.plan.specs.declared.record.PlanWire.{PlanWire}
use Rattle.plan.specs.Record.{max_inputs, max_gates, max_outputs, wire, zero_gate, plan_of, gate_at, output_at, gate_wire}
use Rattle.plan.proofs.RecordLaws.{get_or-places}
use Rattle.plan.specs.Rules.{count_allowed, map_allowed, operand_allowed, max_table, source_allowed}
use Rattle.plan.proofs.RulesLaws.{operand_bounds, source_bounds}
use Rattle.plan.specs.Faults.{CountsWithin, GateWithin, OutputWithin}
use Rattle.plan.proofs.FaultsLaws.{counts_in}
use Rattle.plan_fields.specs.Parsing.{Parsed, got, Step, ◌>>=◌, pure, field, word_at, byte_at, standing, in_order}
use Rattle.plan_fields.proofs.ParsingLaws.{ParsedAs, gives, refuses, gives_then, gives_also}
use Rattle.plan_fields.specs.Fields.{first_place, second_place, table_place, absent_table, table_limit, table_of_byte, table_field, map_bit, count_field, operand_field, gate_fields, gate_step_within}
use Rattle.plan_fields.proofs.FieldsLaws.{byte-table-bound}
use Rattle.plan_reading.specs.PlanFile.{operand_bound, gate_steps, output_step, output_steps, header_bytes, not_stub, at_end, whole_file}
use Rattle.plan_drawn.specs.DrawnFile.{cursor_behind}

-- the numbers of reading: 1 to 10
abbrev pub FileNumber : ℕ → Type 0
FileNumber n = (1 ≤ n) × (n ≤ fault_number Fault.Tail)

-- a field: an allowed value, and the cursor behind it
field_as : (width : ℕ) (value : List ℕ → ℕ → ℕ) (allowed : ℕ → Bool) (f : Fault) (s : List ℕ) (at : ℕ) → FileNumber (fault_number f)
    → ParsedAs (λ w next. (allowed w ≡ true) × (next ≡ at + width)) FileNumber (field width value allowed f s at)
unfolding field
field_as width value allowed f s at numbered = elim (passed (ltb (length s - at) width)) [
  | inl cut ↦ rw cut (refuses (lit≤ tt, lit≤ tt))
  | inr enough ↦ rw enough (elim (passed (allowed (value s at))) [
    | inl h ↦ rw h (gives (h, refl))
    | inr h ↦ rw h (refuses numbered)
  ])
]

-- an operand that stands, or is absent with an allowed default
operand_as : (stands : Bool) (bound default : ℕ) (s : List ℕ) (at : ℕ) → operand_allowed bound default ≡ true
    → ParsedAs (λ w _. operand_allowed bound w ≡ true) FileNumber (standing stands (operand_field bound) default s at)
operand_as true bound default s at h = gives_also (λ w next x. x.0) (field_as 2 word_at (operand_allowed bound) Fault.Operand s at (lit≤ tt, lit≤ tt))
operand_as false bound default s at h = gives h

-- a table
table_as : (stands second : Bool) (s : List ℕ) (at : ℕ)
    → ParsedAs (λ t _. t ≤ max_table) FileNumber (standing stands (table_field second) absent_table s at)
table_as true second s at =
    gives_then (λ b. pure (table_of_byte second b)) s (field_as 1 byte_at (λ b. leb b (table_limit second)) Fault.Table s at (lit≤ tt, lit≤ tt)) λ b next x.
    gives (byte-table-bound second b (leb-true b (table_limit second) x.0))
table_as false second s at = gives (lit≤ tt)

-- a gate's fields from the table on, and from the second operand on
abbrev pub table_on : ℕ → ℕ → ℕ → Step Gate
table_on m x y =
    standing (map_bit m table_place) (table_field (map_bit m second_place)) absent_table >>= λ t.
    pure (record { first = wire x; second = wire y; table = t })

abbrev pub second_on : ℕ → ℕ → ℕ → Step Gate
second_on bound m x = standing (map_bit m second_place) (operand_field bound) x >>= table_on m x

-- a gate, if its default operand is within the bound
gate_as : (s : List ℕ) (bound own at : ℕ) → 2 ≤ own → own ≤ bound
    → ParsedAs (λ g _. GateWithin bound g) FileNumber (gate_step_within bound own s at)
unfolding gate_step_within
gate_as s bound own at low h =
    gives_then (gate_fields bound own) s (field_as 1 byte_at map_allowed Fault.Map s at (lit≤ tt, lit≤ tt)) λ m a map.
    gives_then (second_on bound m) s (operand_as (map_bit m first_place) bound (own - 1) s a ((operand_bounds bound (own - 1)).1 (omega arith, omega arith))) λ x b first.
    gives_then (table_on m x) s (operand_as (map_bit m second_place) bound x s b first) λ y c second.
    gives_then (λ t. pure (record { first = wire x; second = wire y; table = t })) s (table_as (map_bit m table_place) (map_bit m second_place) s c) λ t next table.
    let (f₁, f₂) = (operand_bounds bound x).0 first in
    let (s₁, s₂) = (operand_bounds bound y).0 second in
    gives (record { some_first = f₁; first = f₂; some_second = s₁; second = s₂; table = table })

-- an output
output_as : (s : List ℕ) (u k at : ℕ) → ParsedAs (λ w _. OutputWithin u k w.0) FileNumber (output_step u k s at)
output_as s u k at =
    gives_then (λ w. pure (wire w)) s (field_as 2 word_at (source_allowed u k) Fault.Source s at (lit≤ tt, lit≤ tt)) λ w next x.
    let (low, high) = (source_bounds u k w).0 x.0 in
    gives (record { above = omega arith; up_to = high })

-- what was parsed, with what holds of it
known : {A : Type 0} {P : A → ℕ → Type 0} {R : ℕ → Type 0} {o : Parsed A} → ParsedAs P R o → ParsedAs (λ a next. (o ≡ got a next) × P a next) R o
known (gives h) = gives (refl, h)
known (refuses h) = refuses h

module _ {A : Type 0} (P : ℕ → A → Type 0) (item : ℕ → Step A) (none : A) (s : List ℕ) (at : ℕ) where
  -- item i was read as x: P holds of it, and it stands behind the items before it
  pub record ItemRead (i : ℕ) (x : A) : Type 0 where
    pub within : P i x
    pub next : ℕ
    pub stands : item i s (cursor_behind (in_order item i s at)) ≡ got x next

  -- n items were read
  record ItemsRead (n : ℕ) (xs : List A) : Type 0 where
    count : length xs ≡ n
    each : (i : ℕ) → i < n → ItemRead i (get_or xs i none)

  -- one item more
  items_more : (n : ℕ) (xs : List A) (mid : ℕ) (x : A) (next : ℕ) → in_order item n s at ≡ got xs mid → ItemsRead n xs
      → item n s mid ≡ got x next → P n x → ItemsRead (suc n) (xs ++ (x ∷ []))
  items_more n xs mid x next before old here h = record {
    count = length-append xs (x ∷ []) ∙ omega (arith, old.count);
    each = λ i l. elim (ℕ_discrete i n) [
      | yes e ↦ rw (e, get_or_at xs x [] none n old.count) (record { within = h; next = next; stands = rw before here })
      | no f ↦ rw (get_or-append xs (x ∷ []) none i (omega (arith, old.count))) (old.each i (omega arith))
    ];
  }

  -- items in order
  in_order_as : (n : ℕ) → ((i a : ℕ) → i < n → ParsedAs (λ x _. P i x) FileNumber (item i s a))
      → ParsedAs (λ xs _. ItemsRead n xs) FileNumber (in_order item n s at)
  unfolding in_order
  in_order_as zero each = gives (record { count = refl; each = λ i l. absurd (omega arith) })
  in_order_as (suc n) each =
      gives_then (λ xs. item n >>= λ x. pure (xs ++ (x ∷ []))) s (known (in_order_as n (λ i a l. each i a (omega arith)))) λ xs mid old.
      gives_then (λ x. pure (xs ++ (x ∷ []))) s (known (each n mid (omega arith))) λ x next new.
      gives (items_more n xs mid x next old.0 old.1 new.0 new.1)

-- the rest of a file from its end, its outputs, its gates and each count on
abbrev pub end_on : ℕ → ℕ → ℕ → List Gate → List PlanWire → Step Plan
end_on u k v gs os = at_end >>= λ _. pure (plan_of u k v gs os)

abbrev pub wires_on : ℕ → ℕ → ℕ → List Gate → Step Plan
wires_on u k v gs = output_steps u k v >>= end_on u k v gs

abbrev pub body_on : Bool → ℕ → ℕ → ℕ → Step Plan
body_on drawn u k v = gate_steps drawn u k k >>= wires_on u k v

abbrev pub sources_on : Bool → ℕ → ℕ → Step Plan
sources_on drawn u k = count_field max_outputs Fault.Outputs >>= body_on drawn u k

abbrev pub gates_on : Bool → ℕ → Step Plan
gates_on drawn u = count_field max_gates Fault.Gates >>= sources_on drawn u

abbrev pub inputs_on : Bool → Step Plan
inputs_on drawn = count_field max_inputs Fault.Inputs >>= gates_on drawn

-- the start of a file that is no stub
start_as : (s : List ℕ) → ParsedAs (λ _ next. next ≡ 0) FileNumber (not_stub s 0)
unfolding not_stub
start_as s = elim (passed (ltb (length s) header_bytes)) [
  | inl stub ↦ rw stub (refuses (lit≤ tt, lit≤ tt))
  | inr long ↦ rw long (gives refl)
]

-- the end
end_as : (s : List ℕ) (at : ℕ) → ParsedAs (λ _ _. Unit) FileNumber (at_end s at)
unfolding at_end
end_as s at = elim (passed (ltb at (length s))) [
  | inl tail ↦ rw tail (refuses (lit≤ tt, lit≤ tt))
  | inr none ↦ rw none (gives tt)
]

module _ (drawn : Bool) (s : List ℕ) where
  -- the bounds of gate i in a file with u inputs and k gates, and reading it
  abbrev Bounded : ℕ → ℕ → ℕ → Gate → Type 0
  Bounded u k i = GateWithin (operand_bound drawn u k i)

  abbrev gate_item : ℕ → ℕ → ℕ → Step Gate
  gate_item u k i = gate_step_within (operand_bound drawn u k i) (gate_wire u i)

  -- the record of a file: its counts, gates and outputs are within their bounds, its unused places are zero
  pub record FileHeld (p : Plan) : Type 0 where
    pub gates : List Gate
    pub outputs : List PlanWire
    pub all_gates : length gates ≡ p.gate_count
    pub all_outputs : length outputs ≡ p.output_count
    pub held : p ≡ plan_of p.inputs p.gate_count p.output_count gates outputs
    pub counts : CountsWithin p.inputs p.gate_count p.output_count
    pub gate : (g : ℕ) → g < p.gate_count
        → ItemRead (Bounded p.inputs p.gate_count) (gate_item p.inputs p.gate_count) zero_gate s header_bytes g (gate_at p g)
    pub output : (j : ℕ) → j < p.output_count → OutputWithin p.inputs p.gate_count (output_at p j).0

  -- a gate's own wire is within the bound
  own-within : (u k i : ℕ) → i < k → gate_wire u i ≤ operand_bound drawn u k i
  own-within u k i l = elim (passed drawn) [ inl t ↦ rw t (omega arith) | inr f ↦ rw f (omega arith) ]

  -- the whole file
  pub file_as : ParsedAs (λ p _. FileHeld p) FileNumber (whole_file drawn s 0)
  unfolding whole_file
  file_as =
      gives_then (λ _. inputs_on drawn) s (start_as s) λ _ o start.
      gives_then (gates_on drawn) s (field_as 2 word_at (count_allowed max_inputs) Fault.Inputs s o (lit≤ tt, lit≤ tt)) λ u a inputs.
      gives_then (sources_on drawn u) s (field_as 2 word_at (count_allowed max_gates) Fault.Gates s a (lit≤ tt, lit≤ tt)) λ k b gates.
      gives_then (body_on drawn u k) s (field_as 2 word_at (count_allowed max_outputs) Fault.Outputs s b (lit≤ tt, lit≤ tt)) λ v c outputs.
      let counts = counts_in u k v inputs.0 gates.0 outputs.0 in
      gives_then (wires_on u k v) s (in_order_as (Bounded u k) (gate_item u k) zero_gate s c k
      (λ i at l. gate_as s (operand_bound drawn u k i) (gate_wire u i) at (omega (arith, counts.some_inputs)) (own-within u k i l))) λ gs d each-gate.
      gives_then (end_on u k v gs) s (in_order_as (λ _ w. OutputWithin u k w.0) (λ _. output_step u k) (wire 0) s d v
      (λ _ at _. output_as s u k at)) λ os e each-output.
      gives_then (λ _. pure (plan_of u k v gs os)) s (end_as s e) λ _ _ _.
      let six : c ≡ header_bytes = omega (arith, start, inputs.1, gates.1, outputs.1) in
      gives (record {
        gates = gs;
        outputs = os;
        all_gates = each-gate.count;
        all_outputs = each-output.count;
        held = refl;
        counts = counts;
        gate = λ g l. rw (get_or-places, ← six) (each-gate.each g l);
        output = λ j l. rw get_or-places (each-output.each j l).within;
      })
