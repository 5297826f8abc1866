-- Laws of the parts. A loop that reads n items to their places has, after i of them, read the first i items and holds them with the other
-- places zero; the header, then the body, is the whole file.
use mathlib.Core.Path.{◌≡◌, refl, sym, ap, ap₂, subst, ◌∙◌}
use mathlib.Core.Bool.{Bool, true, false}
use native.Mathlib.Nat.{le_of_lt}
use mathlib.Core.List.{List, [], ◌∷◌, ◌++◌}
use Prim.Native.Nat.{ℕ, zero-le, suc, ◌+◌, ◌%◌, ◌<◌, ◌≤◌}
use native.Mathlib.Omega.{arith}
use borrow.Author.Tests.{lt-ltb, le-ltb}
use native.Mathlib.Numerals.{add-one}
use lib.ListN.{length, get_or, set, length-append}
use Rattle.lists.specs.Lists.{list_of}
use Rattle.powers.specs.Powers.{ceil_power}
use Rattle.std.specs.Prelude.{Result, IsErrAnd}
use Rattle.std.proofs.lemmas.Result.{err_from_is_err_and}
use Rattle.fault.specs.declared.Fault.{Fault}
use Rattle.fault.specs.declared.Refusal.{Refusal}
use Rattle.plan.specs.declared.counts.PlanCounts.{PlanCounts}
use Rattle.plan.specs.declared.record.Gate.{Gate}
use Rattle.plan.specs.declared.record.Plan.{Plan}
use Rattle.plan.specs.declared.record.PlanWire.{PlanWire}
use Rattle.plan.specs.Record.{word_numbers, max_inputs, gate_wire, max_gates, max_outputs, max_plan_wires, wire, zero_gate, places, uses_of, plan_of, zero_plan}
use Rattle.plan.specs.Counting.{with_use, with_operands, UsesCounted}
use Rattle.plan.proofs.RecordLaws.{wire-fits, places-more, length-places, get_or-places}
use Rattle.plan.proofs.UsesLaws.{counted_same, counted-list, none-counted, stored-gate, stored-output}
use Rattle.plan.specs.Rules.{count_allowed}
use Rattle.plan.specs.Faults.{CountsWithin}
use Rattle.plan.proofs.FaultsLaws.{counts_in}
use Rattle.plan_fields.specs.Parsing.{Parsed, got, refused, refuse, Step, followed, ◌>>=◌, word_at, in_order}
use Rattle.plan_fields.proofs.ParsingLaws.{field-read, item-got, item_refused, still_refused}
use Rattle.plan_fields.specs.Fields.{count_field, gate_step_within}
use Rattle.plan_fields.specs.Answers.{refusal}
use Rattle.plan_reading.specs.Answers.{read_outcome}
use Rattle.plan_reading.specs.PlanFile.{operand_bound, output_step, at_end, whole_file, parsed_outcome}
use Rattle.plan_reading.specs.Parts.{header_part, body_part}

-- i items are read, from the cursor `start` up to `at`, and stand in their places
pub record ItemsRead {A : Type 0} (item : ℕ → Step A) (s : List ℕ) (start n : ℕ) (none : A) (i : ℕ) (held : List A) (at : ℕ) : Type 0 where
  pub items : List A
  pub count : length items ≡ i
  pub parsed : in_order item i s start ≡ got items at
  pub placed : held ≡ places n none items

module _ {A : Type 0} {item : ℕ → Step A} {s : List ℕ} {start n : ℕ} {none : A} where
  -- no item is read
  none_read : {held : List A} → held ≡ places n none [] → ItemsRead item s start n none 0 held start
  unfolding in_order
  none_read e = record { items = []; count = refl; parsed = refl; placed = e }

  -- the cursor has not moved, and nothing stands in the places
  none_is : {held : List A} {at : ℕ} → ItemsRead item s start n none 0 held at → (start ≡ at) × (held ≡ places n none [])
  unfolding in_order
  none_is {held} {at} r =
      let e : got [] start ≡ got r.items at = r.parsed in
      let none_items : [] ≡ r.items = cc in (cc, rw none_items r.placed)

  module _ {i : ℕ} {held : List A} {at : ℕ} (r : ItemsRead item s start n none i held at) where
    -- one item more is read
    one-read : {next : ℕ} {x : A} → i < n → got x next ≡ item i s at → ItemsRead item s start n none (i + 1) (set held i x) next
    one-read {next} {x} h e = record {
      items = r.items ++ (x ∷ []);
      count = length-append r.items (x ∷ []) ∙ ap (λ m. m + 1) r.count;
      parsed = rw (add-one i) (item-got item s start i r.items x at next r.parsed (sym e));
      placed = ap (λ l. set l i x) r.placed ∙ places-more n none r.items x i r.count h;
    }

    -- of k items, one is refused
    one-refused : (k : ℕ) {m o : ℕ} → i < k → refused m o ≡ item i s at → refused m o ≡ in_order item k s start
    one-refused k {m} {o} h e =
        sym (still_refused item s start k (suc i) m o h (item_refused item s start i r.items at m o r.parsed (sym e)))

    -- all k items are read
    all_read : {k : ℕ} → i ≡ k → got r.items at ≡ in_order item k s start
    all_read e = rw (← e) (sym r.parsed)

    -- the places are all there
    held-places : i ≤ n → length held ≡ n
    held-places h = ap length r.placed ∙ length-places n none r.items (omega (arith, r.count))

-- the counts of a record, and its K
pub record HasCounts (u k v : ℕ) (p : Plan) : Type 0 where
  pub inputs : p.inputs ≡ u
  pub gates : p.gate_count ≡ k
  pub outputs : p.output_count ≡ v
  pub places : p.gate_places ≡ ceil_power k

-- a record is made of its counts, gates and outputs, and of the uses that were counted
pub plan-held : {u k v : ℕ} (gs : List Gate) (os : List PlanWire) {p : Plan} → HasCounts u k v p → p.gates ≡ places max_gates zero_gate gs
    → p.outputs ≡ places max_outputs (wire 0) os → UsesCounted k v p.gates p.outputs p.uses → p ≡ plan_of u k v gs os
plan-held {u} {k} {v} gs os {p} c e o counted =
    let uses : p.uses ≡ list_of max_plan_wires (λ i. uses_of k v gs os (suc i)) =
    counted-list (counted_same counted
    (λ i _. ap (λ (l : List Gate). get_or l i zero_gate) e ∙ get_or-places max_gates zero_gate gs i)
    (λ j _. ap (λ (l : List PlanWire). get_or l j (wire 0)) o ∙ get_or-places max_outputs (wire 0) os j)) in
    λ i. record {
      inputs = c.inputs i;
      gate_count = c.gates i;
      output_count = c.outputs i;
      gates = e i;
      outputs = o i;
      gate_places = c.places i;
      uses = uses i;
    }

-- a count that was read is allowed
count_read : (limit : ℕ) (f : Fault) (s : List ℕ) (at : ℕ) {n next : ℕ} → got n next ≡ count_field limit f s at → count_allowed limit n ≡ true
count_read limit f s at e = (field-read 2 word_at (count_allowed limit) f s at e).0

-- counts that were read are within their limits
pub counts_read : (s : List ℕ) (a b c : ℕ) {u k v a′ b′ c′ : ℕ} → got u a′ ≡ count_field max_inputs Fault.Inputs s a
    → got k b′ ≡ count_field max_gates Fault.Gates s b → got v c′ ≡ count_field max_outputs Fault.Outputs s c → CountsWithin u k v
counts_read s a b c {u} {k} {v} inputs gates outputs =
    counts_in u k v (count_read _ _ s a inputs) (count_read _ _ s b gates) (count_read _ _ s c outputs)

-- steps may be grouped either way
assoc : {A B C : Type 0} (f : A → Step B) (g : B → Step C) (s : List ℕ) (x : Parsed A)
    → followed g s (followed f s x) ≡ followed (λ a s at. followed g s (f a s at)) s x
assoc f g s (got a at) = refl
assoc f g s (refused n at) = refl

-- the header, then the body
whole-file : (drawn : Bool) (s : List ℕ) → whole_file drawn s 0 ≡ (header_part >>= λ (u, k, v). body_part drawn u k v) s 0
unfolding whole_file header_part body_part
whole-file drawn s = simp assoc

-- a refusal is what a part that is refused gives
pub no-plan : (r : Result Plan Refusal) (x : Refusal) {part : Parsed Plan} → IsErrAnd r (λ y. y ≡ x) → refusal x ≡ part
    → read_outcome r ≡ parsed_outcome part
no-plan r x answered e = let (y, is, same) = err_from_is_err_and r answered in rw (is, same) (ap parsed_outcome e)

-- gate i, and an output, of a file with these counts
abbrev pub gate_item : Bool → PlanCounts → ℕ → Step Gate
gate_item drawn h i = gate_step_within (operand_bound drawn h.inputs h.gates i) (gate_wire h.inputs i)

abbrev pub output_item : PlanCounts → ℕ → Step PlanWire
output_item h _ = output_step h.inputs h.gates

-- of a file the header, i gates and j outputs are read, up to the cursor `at`; they stand in the record, and their uses are counted
pub record FileRead (drawn : Bool) (h : PlanCounts) (s : List ℕ) (i j : ℕ) (p : Plan) (at : ℕ) : Type 0 where
  pub start : ℕ
  pub header : got (h.inputs, h.gates, h.outputs) start ≡ header_part s 0
  pub counts : HasCounts h.inputs h.gates h.outputs p
  pub mid : ℕ
  pub gates : ItemsRead (gate_item drawn h) s start max_gates zero_gate i p.gates mid
  pub outputs : ItemsRead (output_item h) s mid max_outputs (wire 0) j p.outputs at
  pub uses : UsesCounted i j p.gates p.outputs p.uses

module _ (drawn : Bool) (s : List ℕ) where
  -- where the header is refused, so is the file
  pub no-header : {m o : ℕ} → refused m o ≡ header_part s 0 → refused m o ≡ whole_file drawn s 0
  no-header e = ap (followed (λ (u, k, v). body_part drawn u k v) s) e ∙ sym (whole-file drawn s)

  module _ {h : PlanCounts} {p : Plan} {at : ℕ} where
    -- the header is read
    pub header-read : got (h.inputs, h.gates, h.outputs) at ≡ header_part s 0 → HasCounts h.inputs h.gates h.outputs p → p.gates ≡ zero_plan.gates → p.outputs ≡ zero_plan.outputs
        → p.uses ≡ zero_plan.uses → FileRead drawn h s 0 0 p at
    unfolding places
    header-read e counts gs os us = record {
      start = at;
      header = e;
      counts = counts;
      mid = at;
      gates = none_read gs;
      outputs = none_read os;
      uses = rw us (none-counted p.gates p.outputs);
    }

  module _ {h : PlanCounts} {i : ℕ} {p : Plan} {at : ℕ} (r : FileRead drawn h s i 0 p at) where
    -- the gates end at the cursor
    gates_end : ItemsRead (gate_item drawn h) s r.start max_gates zero_gate i p.gates at
    gates_end = subst (ItemsRead (gate_item drawn h) s r.start max_gates zero_gate i p.gates) (none_is r.outputs).0 r.gates

    -- what is read of gate i
    module _ (l : i < h.gates) {bound own : ℕ} (b : bound ≡ operand_bound drawn h.inputs h.gates i % word_numbers)
        (w : own ≡ gate_wire h.inputs i % word_numbers) where
      is_item : {o : Parsed Gate} → o ≡ gate_step_within bound own s at → o ≡ gate_item drawn h i s at
      is_item e = e ∙ ap₂ (λ m n. gate_step_within m n s at) (b ∙ bound_fits drawn) (w ∙ wire-fits h.within.inputs (omega (arith, h.within.gates)))
        where
          bound_fits : (drawn : Bool) → operand_bound drawn h.inputs h.gates i % word_numbers ≡ operand_bound drawn h.inputs h.gates i
          bound_fits true = wire-fits h.within.inputs h.within.gates
          bound_fits false = wire-fits h.within.inputs (omega (arith, h.within.gates))

      -- a gate more is read
      pub gate-read : {g : Gate} {next : ℕ} → got g next ≡ gate_step_within bound own s at
          → FileRead drawn h s (i + 1) 0 (record p { gates = set p.gates i g; uses = with_operands g p.uses }) next
      gate-read {g} {next} e =
          let room : i < max_gates = omega (arith, h.within.gates) in
          let some = le_of_lt room in
          record {
            start = r.start;
            header = r.header;
            counts = record { inputs = r.counts.inputs; gates = r.counts.gates; outputs = r.counts.outputs; places = r.counts.places };
            mid = next;
            gates = one-read gates_end room (is_item e);
            outputs = none_read (none_is r.outputs).1;
            uses = rw (add-one i) (stored-gate r.uses some zero-le g (rw (held-places r.gates some) room));
          }

      -- gate i is refused
      pub gate-refused : {m o : ℕ} → refused m o ≡ gate_step_within bound own s at → refused m o ≡ whole_file drawn s 0
      unfolding body_part
      gate-refused e = rw (whole-file drawn s, ← r.header, ← one-refused gates_end h.gates l (is_item e)) refl

  module _ {h : PlanCounts} {j : ℕ} {p : Plan} {at : ℕ} (r : FileRead drawn h s h.gates j p at) where
    -- an output more is read
    pub output-read : {o : PlanWire} {next : ℕ} → j < h.outputs → got o next ≡ output_item h j s at
        → FileRead drawn h s h.gates (j + 1) (record p { outputs = set p.outputs j o; uses = with_use o.0 p.uses }) next
    output-read {o} {next} l e =
        let room : j < max_outputs = omega (arith, h.within.outputs) in
        let some = le_of_lt room in
        record {
          start = r.start;
          header = r.header;
          counts = record { inputs = r.counts.inputs; gates = r.counts.gates; outputs = r.counts.outputs; places = r.counts.places };
          mid = r.mid;
          gates = r.gates;
          outputs = one-read r.outputs room e;
          uses = rw (add-one j) (stored-output r.uses h.within.gates some o (rw (held-places r.outputs some) room));
        }

    -- an output is refused
    pub output-refused : {m o : ℕ} → j < h.outputs → refused m o ≡ output_item h j s at → refused m o ≡ whole_file drawn s 0
    unfolding body_part
    output-refused l e =
        rw (whole-file drawn s, ← r.header, ← all_read r.gates refl, ← one-refused r.outputs h.outputs l e) refl

    module _ (all : j ≡ h.outputs) where
      -- bytes follow
      pub tail-refused : at < length s → refuse Fault.Tail at ≡ whole_file drawn s 0
      unfolding body_part at_end
      tail-refused l =
          rw (whole-file drawn s, ← r.header, ← all_read r.gates refl, ← all_read r.outputs all, lt-ltb at (length s) l) refl

      -- the plan is read
      pub all-read : length s ≤ at → got p at ≡ whole_file drawn s 0
      unfolding body_part at_end
      all-read l =
          ap (λ p. got p at) (plan-held r.gates.items r.outputs.items r.counts r.gates.placed r.outputs.placed (rw all at r.uses))
          ∙ rw (whole-file drawn s, ← r.header, ← all_read r.gates refl, ← all_read r.outputs all, le-ltb at (length s) l) refl
