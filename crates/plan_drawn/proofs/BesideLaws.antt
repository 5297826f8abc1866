-- The bound of a plan beside that of a drawing: each step gives the same, or the plan's refuses an operand.
use Prim.Native.Nat.{ℕ, zero, suc, ◌-◌, ◌≤◌, ◌<◌}
use native.Mathlib.Omega.{arith}
use mathlib.Core.Path.{◌≡◌, refl, ap}
use mathlib.Core.Logic.{inl, inr}
use mathlib.Core.Bool.{Bool, true, false}
use mathlib.Core.List.{List, [], ◌∷◌, ◌++◌}
use lib.Dec.{ltb}
use lib.ListN.{length}
use Rattle.lists.proofs.CountingLaws.{passed}
use Rattle.fault.specs.declared.Fault.{Fault}
use Rattle.plan.specs.Record.{max_inputs, max_gates, max_outputs, gate_wire}
use Rattle.plan.specs.Rules.{operand_allowed}
use Rattle.plan.proofs.RulesLaws.{operand_bounds}
use Rattle.plan_fields.specs.Parsing.{Parsed, got, refused, refuse, Step, ◌>>=◌, pure, followed, field, word_at, standing, in_order}
use Rattle.plan_fields.specs.Fields.{first_place, second_place, map_bit, count_field, map_field, operand_field, gate_fields, gate_step_within}
use Rattle.plan_reading.specs.PlanFile.{not_stub, whole_file, plan_file, drawing_file}
use Rattle.plan_drawn.proofs.WholeFileLaws.{table_on, second_on, wires_on, body_on, sources_on, gates_on, inputs_on}

-- what a plan's step gives, beside what a drawing's gives: the same, or an operand is refused
pub data Beside {A : Type 0} (plain drawn : Parsed A) : Type 0 where
  the_same : plain ≡ drawn → Beside plain drawn
  operand-refused : (at : ℕ) → plain ≡ refuse Fault.Operand at → Beside plain drawn

-- after the same answer, the next step beside the next
alike_then : {A B : Type 0} (f g : A → Step B) (s : List ℕ) (o : Parsed A)
    → ((a : A) (next : ℕ) → Beside (f a s next) (g a s next)) → Beside (followed f s o) (followed g s o)
alike_then f g s (got a next) k = k a next
alike_then f g s (refused n at) k = the_same refl

-- after such answers too
beside_then : {A B : Type 0} (f g : A → Step B) (s : List ℕ) {plain drawn : Parsed A} → Beside plain drawn
    → ((a : A) (next : ℕ) → Beside (f a s next) (g a s next)) → Beside (followed f s plain) (followed g s drawn)
beside_then f g s {plain} {drawn} (the_same e) k = rw (← e) (alike_then f g s plain k)
beside_then f g s (operand-refused at e) k = operand-refused at (ap (followed f s) e)

-- an operand, by its bound
operand_beside : (own bound : ℕ) → own ≤ bound → (s : List ℕ) (at : ℕ) → Beside (operand_field own s at) (operand_field bound s at)
unfolding field
operand_beside own bound h s at = elim (passed (ltb (length s - at) 2)) [
  | inl cut ↦ rw cut (the_same refl)
  | inr enough ↦ elim (passed (operand_allowed own (word_at s at))) [
    | inl t ↦
        let (low, high) = (operand_bounds own (word_at s at)).0 t in
        rw (enough, t, (operand_bounds bound (word_at s at)).1 (low, omega arith)) (the_same refl)
    | inr f ↦ rw (enough, f) (operand-refused at refl)
  ]
]

-- an operand that stands or is absent
standing_beside : (stands : Bool) (default own bound : ℕ) → own ≤ bound → (s : List ℕ) (at : ℕ)
    → Beside (standing stands (operand_field own) default s at) (standing stands (operand_field bound) default s at)
standing_beside true default own bound h s at = operand_beside own bound h s at
standing_beside false default own bound h s at = the_same refl

-- a gate
gate_beside : (own bound : ℕ) → own ≤ bound → (s : List ℕ) (at : ℕ) → Beside (gate_step_within own own s at) (gate_step_within bound own s at)
unfolding gate_step_within
gate_beside own bound h s at =
    alike_then (gate_fields own own) (gate_fields bound own) s (map_field s at) λ m a.
    beside_then (second_on own m) (second_on bound m) s (standing_beside (map_bit m first_place) (own - 1) own bound h s a) λ x b.
    beside_then (table_on m x) (table_on m x) s (standing_beside (map_bit m second_place) x own bound h s b) λ y c.
    the_same refl

-- items in order
in_order_beside : {A : Type 0} (plain drawn : ℕ → Step A) (s : List ℕ) (at n : ℕ) → ((i a : ℕ) → i < n → Beside (plain i s a) (drawn i s a))
    → Beside (in_order plain n s at) (in_order drawn n s at)
unfolding in_order
in_order_beside plain drawn s at zero each = the_same refl
in_order_beside plain drawn s at (suc n) each =
    beside_then (λ xs. plain n >>= λ x. pure (xs ++ (x ∷ []))) (λ xs. drawn n >>= λ x. pure (xs ++ (x ∷ []))) s
    (in_order_beside plain drawn s at n (λ i a l. each i a (omega arith))) λ xs mid.
    beside_then (λ x. pure (xs ++ (x ∷ []))) (λ x. pure (xs ++ (x ∷ []))) s (each n mid (omega arith)) λ x next.
    the_same refl

-- the whole file
pub file_beside : (s : List ℕ) → Beside (plan_file s 0) (drawing_file s 0)
unfolding whole_file
file_beside s =
    alike_then (λ _. inputs_on false) (λ _. inputs_on true) s (not_stub s 0) λ _ o.
    alike_then (gates_on false) (gates_on true) s (count_field max_inputs Fault.Inputs s o) λ u a.
    alike_then (sources_on false u) (sources_on true u) s (count_field max_gates Fault.Gates s a) λ k b.
    alike_then (body_on false u k) (body_on true u k) s (count_field max_outputs Fault.Outputs s b) λ v c.
    beside_then (wires_on u k v) (wires_on u k v) s (in_order_beside _ _ s c k (λ i at l. gate_beside (gate_wire u i) (gate_wire u k) (omega arith) s at)) λ gs d.
    the_same refl
