-- What is read as a drawing is within the drawing's bounds. A plan's file read as a drawing gives the plan: its gates are taken in the order of their
-- numbers, so that no wire gets another number.
use Prim.Native.Nat.{ℕ, suc, ◌+◌, ◌-◌, ◌≤◌, ◌<◌}
use native.Mathlib.Omega.{arith}
use native.Mathlib.Decide.{dec_le}
use mathlib.Core.Path.{◌≡◌, refl, sym, ap, ap₂, ◌∙◌}
use mathlib.Core.Bool.{Bool, true, false}
use mathlib.Core.List.{List}
use borrow.Author.Tests.{eq-eqb}
use lib.ListN.{length, get_or}
use Rattle.lists.specs.Lists.{list_of}
use Rattle.lists.proofs.ListsLaws.{length-list_of, get_or-list_of, list_of_ext, list_of-get_or}
use Rattle.fault.specs.declared.Fault.{Fault}
use Rattle.fault.specs.Number.{fault_number}
use Rattle.plan.specs.declared.record.Plan.{Plan}
use Rattle.plan.specs.Record.{max_gates, max_outputs, wire, zero_gate, places, plan_of, gate_at, output_at, gate_wire}
use Rattle.plan.proofs.RecordLaws.{get_or-places}
use Rattle.plan_fields.specs.Parsing.{Parsed, got}
use Rattle.plan_fields.proofs.ParsingLaws.{ParsedAs, gives, refuses}
use Rattle.plan_reading.specs.PlanFile.{whole_file, plan_file, drawing_file, parsed_outcome, plan_read, drawing_read}
use Rattle.plan_order.specs.Drawing.{place_in, drawn_first, drawn_second, drawn_order, renumbered, renumbered_gate, ordered_plan, drawn_numbers, DrawingWithin, Orderable}
use Rattle.plan_order.proofs.DrawingLaws.{stands, input-number, gate-number}
use Rattle.plan_drawn.specs.DrawnFile.{no_cycle, drawn_file}
use Rattle.plan_drawn.specs.DrawnTheorems.{in_order_numbers}
use Rattle.plan_drawn.proofs.WholeFileLaws.{FileNumber, FileHeld, file_as}
use Rattle.plan_drawn.proofs.BesideLaws.{the_same, operand-refused, file_beside}
use Rattle.plan_drawn.proofs.PlainOrderLaws.{plain-taken}

-- what holds of a value that was parsed
got-holds : {A : Type 0} {P : A → ℕ → Type 0} {R : ℕ → Type 0} {a : A} {next : ℕ} → ParsedAs P R (got a next) → P a next
got-holds (gives h) = h

-- a record that was read, of a plan or of a drawing
pub file-held : (drawn : Bool) (s : List ℕ) {p : Plan} {next : ℕ} → whole_file drawn s 0 ≡ got p next → FileHeld drawn s p
file-held drawn s e = got-holds (rw e at (file_as drawn s))

-- reading gives the number 0 only with a record
number-got : {P : Plan → ℕ → Type 0} {o : Parsed Plan} → ParsedAs P FileNumber o → (parsed_outcome o).number ≡ 0
    → (next : ℕ) × (o ≡ got (parsed_outcome o).plan next)
number-got (gives {next = next} h) e = (next, refl)
number-got (refuses h) e = absurd (omega (arith, h.0))

-- no number of a drawing's file is above 10
small-number : {P : Plan → ℕ → Type 0} {o : Parsed Plan} → ParsedAs P FileNumber o → (parsed_outcome o).number ≤ fault_number Fault.Tail
small-number (gives h) = omega arith
small-number (refuses h) = h.1

pub drawing-number : (s : List ℕ) → (drawing_read s).number ≤ fault_number Fault.Tail
unfolding drawing_read
drawing-number s = small-number (file_as true s)

-- a plan was read
pub plan-got : (s : List ℕ) → (plan_read s).number ≡ 0 → (next : ℕ) × (plan_file s 0 ≡ got (plan_read s).plan next)
unfolding plan_read
plan-got s = number-got (file_as false s)

-- a drawing was read
pub drawing-got : (s : List ℕ) → (drawing_read s).number ≡ 0 → (next : ℕ) × (drawing_file s 0 ≡ got (drawing_read s).plan next)
unfolding drawing_read
drawing-got s = number-got (file_as true s)

-- what is read as a drawing is within its bounds
pub drawing-within : (s : List ℕ) {d : Plan} {next : ℕ} → drawing_file s 0 ≡ got d next → DrawingWithin d
drawing-within s {d} e =
    let h = file-held true s e in
    let last : suc (d.inputs + d.gate_count) ≡ gate_wire d.inputs d.gate_count = omega arith in
    record { counts = h.counts; gate = λ g l. rw last (h.gate g l).within; output = h.output }

-- ---- a plan's file, read as a drawing

-- a list given place by place by its own elements
list_of-same : {A : Type 0} (none : A) (l : List A) (n : ℕ) (f : ℕ → A) → length l ≡ n → ((i : ℕ) → i < n → f i ≡ get_or l i none) → list_of n f ≡ l
list_of-same none l n f e each = list_of_ext n f _ each ∙ rw (← e) (list_of-get_or l none)

-- the record of a plan's file
module _ (s : List ℕ) {p : Plan} (h : FileHeld false s p) (within : DrawingWithin p) where
  abbrev u : ℕ
  u = p.inputs

  abbrev k : ℕ
  k = p.gate_count

  abbrev v : ℕ
  v = p.output_count

  abbrev O : List ℕ
  O = drawn_order p

  -- its gates are taken in the order of their numbers
  in_numbers : O ≡ list_of k (λ i. i)
  in_numbers = plain-taken u k (drawn_first p) (drawn_second p) (λ g l. let w = (h.gate g l).within in (w.first, w.second)) k (omega arith)

  -- all of them
  orderable : Orderable p
  orderable = record { within = within; all = ap length in_numbers ∙ length-list_of k _ }

  -- gate i stands at place i
  at_place : (i : ℕ) → i < k → get_or O i 0 ≡ i
  at_place i l = ap (λ (L : List ℕ). get_or L i 0) in_numbers ∙ get_or-list_of k _ i 0 l

  -- each wire keeps its number
  same_number : (w : ℕ) → w ≤ u + k → renumbered p w ≡ w
  same_number w l = elim (dec_le w u) [
    | yes i ↦ input-number p orderable w i
    | no f ↦
        let t = stands p orderable (w - suc u) (omega arith) in
        let e : place_in O (w - suc u) ≡ w - suc u = sym (at_place _ t.low) ∙ t.here in
        gate-number p orderable w (omega arith) ∙ omega arith
  ]

  -- so do the operands of each gate
  same-gate : (i : ℕ) → i < k → renumbered_gate p (gate_at p (get_or O i 0)) ≡ gate_at p i
  same-gate i l =
      let w = within.gate i l in
      rw (at_place i l, same_number (drawn_first p i) (omega (arith, w.first)), same_number (drawn_second p i) (omega (arith, w.second)))

  -- so the plan in its order is the plan itself
  same-plan : ordered_plan p ≡ p
  same-plan =
      let gates = list_of-same zero_gate h.gates k _ h.all_gates λ i l.
      same-gate i l ∙ ap (λ (q : Plan). gate_at q i) h.held ∙ get_or-places max_gates zero_gate h.gates i in
      let outputs = list_of-same (wire 0) h.outputs v _ h.all_outputs λ j l.
      ap wire (same_number (output_at p j).0 (within.output j l).up_to) ∙ ap (λ (q : Plan). output_at q j) h.held
      ∙ get_or-places max_outputs (wire 0) h.outputs j in
      ap₂ (plan_of u k v) gates outputs ∙ sym h.held

  -- with the list 1 to k
  same-list : drawn_numbers p ≡ in_order_numbers k
  same-list = ap (places max_gates 0) (list_of_ext k _ _ (λ i l. ap suc (at_place i l)))

  -- no gate is left over
  no_cycle_lem : (next : ℕ) → no_cycle p s next ≡ got p next
  unfolding no_cycle
  no_cycle_lem next = rw (eq-eqb (length O) k orderable.all)

-- a plan's file read as a drawing: the same plan in the same order
pub plain-drawn : (s : List ℕ) {p : Plan} {next : ℕ} → plan_file s 0 ≡ got p next
    → (drawn_file s 0 ≡ got p next) × (ordered_plan p ≡ p) × (drawn_numbers p ≡ in_order_numbers p.gate_count)
unfolding drawn_file
plain-drawn s {p} {next} e = elim (file_beside s) [
  | the_same same ↦
      let read : drawing_file s 0 ≡ got p next = sym same ∙ e in
      let h = file-held false s e in
      let within = drawing-within s read in
      (rw (read, no_cycle_lem s h within next), same-plan s h within, same-list s h within)
  | operand-refused at f ↦
      let seven : ◌≡◌ {A = ℕ} 7 0 = ap (λ (o : Parsed Plan). (parsed_outcome o).number) (sym f ∙ e) in
      absurd (omega arith)
]
