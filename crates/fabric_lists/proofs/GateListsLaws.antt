-- The plan's gates, loaded to the front of one list, or of two.
use mathlib.Core.Path.{◌≡◌, refl, sym, ap, ◌∙◌}
use mathlib.Core.List.{List, ◌++◌}
use Prim.Native.Nat.{ℕ, suc, ◌+◌, ◌*◌, ◌-◌, ◌/◌, ◌%◌, ◌^◌, ◌≤◌, ◌<◌}
use native.Mathlib.Nat.{mod-lt}
use native.Mathlib.Numerals.{add-one}
use native.Mathlib.Omega.{arith}
use lib.ListN.{length, get_or, take, drop, length-take}
use lib.Seq.{ext_get_or, get_or-take}
use lib.Pow.{high, pow_pos, mod-pow-add, mod-mod-pow}
use Rattle.lists.specs.Lists.{list_of}
use Rattle.lists.proofs.ListsLaws.{length-list_of, get_or-list_of, list_of_ext}
use Rattle.fault.specs.Buffers.{over}
use Rattle.blocks.specs.Elements.{operands, choose, bit_of, field_bits, gate_bits}
use Rattle.plan.specs.declared.record.Gate.{Gate}
use Rattle.plan.specs.declared.record.Plan.{Plan}
use Rattle.plan.specs.Record.{max_gates, zero_gate, gate_at}
use Rattle.fabric_universal.specs.Universal.{table_program}
use Rattle.fabric_universal.specs.Fabric.{plan_gates}
use Rattle.fabric_universal.proofs.PlanValues.{padded-own}
use Rattle.fabric_lists.specs.GateLists.{gates_listed, loaded_places, loaded_list, loaded_gates, loaded_operands, loaded_tables}
use Rattle.fabric_lists.proofs.WantedListsLaws.{all-filled}

-- where there are places for all, all are loaded
pub all-listed : (k listPlaces : ℕ) → k ≤ max_gates → k ≤ listPlaces → loaded_places k listPlaces ≡ k
unfolding loaded_places
all-listed k listPlaces few room = omega arith

pub all-loaded : (k operandPlaces tablePlaces : ℕ) → k ≤ max_gates → operands * k ≤ operandPlaces → k ≤ tablePlaces
    → loaded_gates k operandPlaces tablePlaces ≡ k
unfolding loaded_gates
all-loaded k operandPlaces tablePlaces few operand_room table_room = omega arith

-- the front of a list, place by place
pub front_is_list_of : {A : Type 0} (l : List A) (d : A) (n : ℕ) → n ≤ length l → take n l ≡ list_of n (λ i. get_or l i d)
front_is_list_of l d n h =
    let size : length (take n l) ≡ n = simp length-take (omega arith) in
    ext_get_or d _ _ (size ∙ sym (length-list_of n _)) (λ i s.
    let m : i < n = rw size at s in
    get_or-take n l i d m ∙ sym (get_or-list_of n _ i d m))

-- the plan's gates at the front of a list
pub front-loaded : (p : Plan) (old : List Gate) {n : ℕ} {front : List Gate} → n ≡ loaded_places p.gate_count (length old) → n ≤ length p.gates
    → front ≡ take n p.gates → front ++ drop n old ≡ loaded_list p old
front-loaded p old {n} is room e =
    rw (← is, e, front_is_list_of p.gates zero_gate n room, length-list_of n (gate_at p)) refl

-- their operands and tables at the front of two lists
module _ (p : Plan) (old tables : List ℕ) {n : ℕ} {l : List ℕ} (is : n ≡ loaded_gates p.gate_count (length old) (length tables)) where
  pub operands-loaded : l ≡ over (take (length old) (list_of (operands * n) (gates_listed 0 p.gates).operand)) old → l ≡ loaded_operands p old tables
  unfolding loaded_gates choose
  operands-loaded e =
      all-filled (operands * n) _ _ old (omega arith) (λ q m.
      ap (λ g. choose (q % operands) g.first.0 g.second.0) (sym (padded-own p (q / operands) (omega arith)))) e
      ∙ ap (λ k. over (list_of (operands * k) (plan_gates p).operand) old) is

  pub tables-loaded : l ≡ over (take (length tables) (list_of n (λ g. (gate_at p g).table))) tables → l ≡ loaded_tables p old tables
  unfolding loaded_gates
  tables-loaded e =
      all-filled n _ _ tables (omega arith) (λ g m. ap (λ x. x.table) (sym (padded-own p g (omega arith)))) e
      ∙ ap (λ k. over (list_of k (plan_gates p).table) tables) is

-- the bits of a number's lowest bits
low_bit_lem : (q d t : ℕ) → bit_of q (t % 2 ^ (suc d + q)) ≡ bit_of q t
low_bit_lem q d t =
    ap (λ x. x / 2 ^ q % 2) (mod-pow-add t (suc d) q) ∙ ap (λ x. x % 2) (high (t / 2 ^ q % 2 ^ suc d) q (mod-lt t (pow_pos q)))
    ∙ ap (λ e. t / 2 ^ q % 2 ^ e % 2) (sym (add-one d)) ∙ mod-mod-pow (t / 2 ^ q) d 1

-- a table's bits are those of its lowest byte
pub table-byte : (t : ℕ) → field_bits gate_bits (t % 256) ≡ table_program t
unfolding field_bits table_program
table-byte t =
    list_of_ext gate_bits (λ i. bit_of i (t % 256)) (λ i. bit_of i t) (λ i l.
    let e : suc (7 - i) + i ≡ 8 = omega arith in
    ap (λ n. bit_of i (t % 2 ^ n)) (sym e) ∙ low_bit_lem i (7 - i) t)
