-- A file that is refused as a drawing is refused so here. What is read as a drawing is within its bounds, so that either a ring is left over, and its
-- lowest gate was read at the offset, or all gates are taken, and the theorems of the order hold.
use Prim.Native.Nat.{ℕ, suc}
use native.Mathlib.Omega.{arith}
use native.Mathlib.Decide.{ℕ_discrete}
use mathlib.Core.Path.{◌≡◌, refl, sym, ap, ap₂, ◌∙◌}
use mathlib.Core.Bool.{true}
use mathlib.Core.List.{List, []}
use borrow.Author.Tests.{eq-eqb, ne_eqb}
use lib.ListN.{length, get_or, get_or-eq_default}
use Rattle.lists.specs.Lists.{list_of}
use Rattle.lists.proofs.ListsLaws.{length-list_of, get_or-list_of}
use Rattle.plan.specs.declared.record.Plan.{Plan}
use Rattle.plan.specs.Record.{max_gates, zero_plan, places}
use Rattle.plan.proofs.RecordLaws.{length-places, get_or-places}
use Rattle.plan_fields.specs.Parsing.{Parsed, got, refused, followed}
use Rattle.plan_reading.specs.PlanFile.{drawing_file, parsed_outcome, plan_read, drawing_read}
use Rattle.plan_order.specs.Order.{CycleExactly}
use Rattle.plan_order.specs.Drawing.{drawn_first, drawn_second, drawn_order, drawn_left, ordered_plan, drawn_numbers, DrawingWithin, Orderable}
use Rattle.plan_order.proofs.OrderLaws.{cycle_theorem, order_theorem}
use Rattle.plan_order.proofs.DrawingLaws.{ordered-plan, drawing_theorem}
use Rattle.plan_drawn.specs.DrawnFile.{map_offset, no_cycle, drawn_file, DrawnOutcome, drawn_outcome, drawn_read}
use Rattle.plan_drawn.specs.DrawnTheorems.{drawing, CycleAt, CycleRefused, DrawnRight, in_order_numbers, CycleRefusedTheorem, DrawnRightTheorem, PlainAndDrawnTheorem}
use Rattle.plan_drawn.proofs.BesideLaws.{the_same, operand-refused, file_beside}
use Rattle.plan_drawn.proofs.DrawingFileLaws.{file-held, drawing-number, plan-got, drawing-got, drawing-within, plain-drawn}

-- what drawn reading says, by what was parsed as a drawing
abbrev after_drawing : List ℕ → Parsed Plan → DrawnOutcome
after_drawing s o = drawn_outcome (followed no_cycle s o)

module _ (s : List ℕ) where
  abbrev d : Plan
  d = drawing s

  abbrev u : ℕ
  u = d.inputs

  abbrev k : ℕ
  k = d.gate_count

  abbrev O : List ℕ
  O = drawn_order d

  -- ---- the three answers

  -- the file is refused as a drawing
  refused-earlier : ((drawing_read s).number ≡ 0 → ⊥)
      → drawn_read s ≡ record { number = (drawing_read s).number; at = (drawing_read s).at; plan = zero_plan; drawn = places max_gates 0 [] }
  unfolding drawn_read drawn_file drawing_read
  refused-earlier = go (drawing_file s 0)
    where
      go : (o : Parsed Plan) → ((parsed_outcome o).number ≡ 0 → ⊥)
          → after_drawing s o ≡ record { number = (parsed_outcome o).number; at = (parsed_outcome o).at; plan = zero_plan; drawn = places max_gates 0 [] }
      go (got d next) f = absurd (f refl)
      go (refused n at) f = refl

  module _ (z : (drawing_read s).number ≡ 0) where
    -- gates are left over
    refused_cycle : (length O ≡ k → ⊥)
        → drawn_read s ≡ record { number = 15; at = map_offset u k (drawn_left d) s; plan = zero_plan; drawn = places max_gates 0 [] }
    unfolding drawn_read drawn_file no_cycle
    refused_cycle f =
        let (next, e) = drawing-got s z in
        ap (after_drawing s) e ∙ rw (ne_eqb (length O) k f)

    -- all gates are taken
    all_read : length O ≡ k → drawn_read s ≡ record { number = 0; at = 0; plan = ordered_plan d; drawn = drawn_numbers d }
    unfolding drawn_read drawn_file no_cycle
    all_read e =
        let (next, g) = drawing-got s z in
        ap (after_drawing s) g ∙ rw (eq-eqb (length O) k e)

    -- the drawing is within its bounds
    within : DrawingWithin d
    within = drawing-within s (drawing-got s z).1

    -- so it has a ring exactly if gates are left over
    cycle_exactly : CycleExactly u k (drawn_first d) (drawn_second d)
    cycle_exactly = cycle_theorem u k (drawn_first d) (drawn_second d) λ g l. let w = within.gate g l in (omega (arith, w.first), omega (arith, w.second))

    -- with number 15 gates are left over
    left_over : (drawn_read s).number ≡ 15 → length O ≡ k → ⊥
    left_over e full = absurd (omega (arith, ap (λ r. r.number) (all_read full)))

    -- and the lowest of them was read at the offset
    cycle_at : (drawn_read s).number ≡ 15 → CycleAt s
    unfolding map_offset
    cycle_at e =
        let least = cycle_exactly.least (left_over e) in
        let answer = refused_cycle (left_over e) in
        let read = (file-held true s (drawing-got s z).1).gate (drawn_left d) least.low in
        record { gate = drawn_left d; least = least; answer = answer; next = read.next; stands = rw (ap (λ r. r.at) answer) read.stands }

    -- with number 0 none is left over
    orderable : (drawn_read s).number ≡ 0 → Orderable d
    orderable e = record {
      within = within;
      all = elim (ℕ_discrete (length O) k) [
        | yes full ↦ full
        | no f ↦ absurd (omega (arith, ap (λ r. r.number) (refused_cycle f)))
      ];
    }

    -- and the theorems of the order hold
    drawn-right : (drawn_read s).number ≡ 0 → DrawnRight s
    drawn-right e =
        let right = orderable e in
        let read = all_read right.all in
        let listed : (p : ℕ) → get_or (drawn_read s).drawn p 0 ≡ get_or (list_of k (λ p. suc (get_or O p 0))) p 0 =
        λ p. ap (λ r. get_or r.drawn p 0) read ∙ get_or-places max_gates 0 (list_of k _) p in
        record {
          read = z;
          at = ap (λ r. r.at) read;
          entries =
              ap (λ r. length r.drawn) read
              ∙ length-places max_gates 0 (list_of k _) (omega (arith, length-list_of k (λ p. suc (get_or O p 0)), within.counts.gates));
          list = λ p l. listed p ∙ get_or-list_of k _ p 0 l;
          unused = λ p l. listed p ∙ get_or-eq_default (list_of k _) 0 (rw (length-list_of k (λ p. suc (get_or O p 0))) l);
          order = order_theorem u k (drawn_first d) (drawn_second d) right.all;
          plan = ap (λ r. r.plan) read;
          right = ordered-plan d right;
          same = λ row contacts. drawing_theorem d row right contacts;
        }

  -- ---- numbers 0 and 15 are given only where the drawing was read

  -- otherwise the number is that of the drawing's refusal
  read_first : (n : ℕ) → (drawn_read s).number ≡ n → ((drawing_read s).number ≡ n → (drawing_read s).number ≡ 0) → (drawing_read s).number ≡ 0
  read_first n e only = elim (ℕ_discrete (drawing_read s).number 0) [
    | yes z ↦ z
    | no f ↦ only (sym (ap (λ r. r.number) (refused-earlier f)) ∙ e)
  ]

  -- which is not 15
  read_fifteen : (drawn_read s).number ≡ 15 → (drawing_read s).number ≡ 0
  read_fifteen e = read_first 15 e (λ n. absurd (omega (arith, drawing-number s)))

  -- and not 0
  read-zero : (drawn_read s).number ≡ 0 → (drawing_read s).number ≡ 0
  read-zero e = read_first 0 e (λ z. z)

  -- number 15 exactly
  cycle_refused : CycleRefused s
  cycle_refused = record {
    earlier = refused-earlier;
    exactly = (
      λ e. let z = read_fifteen e in (z, (cycle_exactly z).exactly.0 (left_over z e)),
      λ r. ap (λ r. r.number) (refused_cycle r.0 ((cycle_exactly r.0).exactly.1 r.1)),
    );
    at = λ e. cycle_at (read_fifteen e) e;
    otherwise = λ z f. elim (ℕ_discrete (length (drawn_order (drawing s))) (drawing s).gate_count) [
      | yes full ↦ ap (λ r. r.number) (all_read z full)
      | no few ↦ absurd (f (ap (λ r. r.number) (refused_cycle z few)))
    ];
  }

  -- ---- plain reading beside drawn reading

  -- what plain reading reads
  plain-same : (plan_read s).number ≡ 0
      → drawn_read s ≡ record { number = 0; at = 0; plan = (plan_read s).plan; drawn = in_order_numbers (plan_read s).plan.gate_count }
  unfolding drawn_read
  plain-same z =
      let (read, plan, list) = plain-drawn s (plan-got s z).1 in
      ap drawn_outcome read ∙ ap₂ (λ (p : Plan) (l : List ℕ). record { number = 0; at = 0; plan = p; drawn = l }) plan list

  -- what is read here with another list
  other-refused : (drawn_read s).number ≡ 0 → ((drawn_read s).drawn ≡ in_order_numbers (drawn_read s).plan.gate_count → ⊥) → (plan_read s).number ≡ 7
  unfolding plan_read drawing_read
  other-refused e f = elim (file_beside s) [
    | the_same same ↦
        let r = plain-same (ap (λ o. (parsed_outcome o).number) same ∙ read-zero e) in
        absurd (f (ap (λ r. r.drawn) r ∙ sym (ap (λ r. in_order_numbers r.plan.gate_count) r)))
    | operand-refused at g ↦ ap (λ o. (parsed_outcome o).number) g
  ]

-- for every file
pub cycle_refused_theorem : CycleRefusedTheorem
cycle_refused_theorem = cycle_refused

pub drawn-right_theorem : DrawnRightTheorem
drawn-right_theorem s e = drawn-right s (read-zero s e) e

pub plain_and_drawn_theorem : PlainAndDrawnTheorem
plain_and_drawn_theorem s = record { plain = plain-same s; other = other-refused s }
