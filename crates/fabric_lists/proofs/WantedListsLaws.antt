-- Lists that are filled from the front as far as they have places, and what is wanted of the selection blocks.
use mathlib.Core.Path.{◌≡◌, refl, sym, ap, ◌∙◌}
use mathlib.Core.List.{List, ◌++◌}
use Prim.Native.Nat.{ℕ, ◌+◌, ◌*◌, ◌/◌, ◌%◌, ◌≤◌, ◌<◌, min}
use native.Mathlib.Omega.{arith}
use lib.ListN.{length, get_or, take, drop, length-take}
use lib.Seq.{take_at, take_all, ext_get_or, get_or-take, get_or-drop}
use Rattle.lists.specs.Lists.{list_of}
use Rattle.lists.proofs.ListsLaws.{length-list_of, get_or-list_of, list_of_ext}
use Rattle.fault.specs.Buffers.{over, part_of}
use Rattle.blocks.specs.Elements.{operands, choose}
use Rattle.blocks.proofs.ElementsLaws.{part-is}
use Rattle.plan.specs.declared.record.Gate.{Gate}
use Rattle.plan.specs.declared.record.Plan.{Plan}
use Rattle.plan.specs.Record.{max_outputs, zero_gate}
use Rattle.fabric_universal.specs.Universal.{Gates, is_of, wanted_gates, mix_bits}
use Rattle.fabric_universal.specs.Fabric.{wanted_outputs}
use Rattle.fabric_lists.specs.GateLists.{gates_listed}
use Rattle.fabric_lists.specs.WantedLists.{listed_operands, inputs_wanted, pins_wanted, is_among, choice_at}

-- ---- filling

-- the first places of a list that is given place by place
taken : (n places : ℕ) (f : ℕ → ℕ) → take places (list_of n f) ≡ list_of (min n places) f
taken n places f =
    let all = length-list_of n f in
    let size : length (take places (list_of n f)) ≡ min n places = length-take places (list_of n f) ∙ omega arith in
    ext_get_or 0 _ _ (size ∙ sym (length-list_of (min n places) f)) (λ i l.
    let m : i < min n places = rw size at l in
    get_or-take places (list_of n f) i 0 (omega arith) ∙ get_or-list_of n f i 0 (omega arith) ∙ sym (get_or-list_of (min n places) f i 0 m))

-- a limit on the entries is a limit on the places
pub limited-listed : (n limit places : ℕ) (f : ℕ → ℕ) {count : ℕ} → count ≡ min n limit
    → take places (list_of count f) ≡ take (min limit places) (list_of n f)
limited-listed n limit places f {count} e =
    let same : min count places ≡ min n (min limit places) = omega arith in
    taken count places f ∙ ap (λ m. list_of m f) same ∙ sym (taken n (min limit places) f)

-- the front of a list, filled as far as it goes with what f gives for each place
pub front-listed : (n : ℕ) (f : ℕ → ℕ) (front old : List ℕ) {end : ℕ} → end ≡ min n (length old) → length front ≡ end
    → ((k : ℕ) → k < end → get_or front k 0 ≡ f k) → front ++ drop end old ≡ over (take (length old) (list_of n f)) old
front-listed n f front old {end} is size each =
    let all = length-list_of end f in
    let same : front ≡ list_of end f = ext_get_or 0 _ _ (size ∙ sym all) (λ k l.
    let m : k < end = rw size at l in
    each k m ∙ sym (get_or-list_of end f k 0 m)) in
    rw (taken n (length old) f, ← is, all, same) refl

-- where there are places for all, they stand before what was there
pub all-filled : (n : ℕ) (f g : ℕ → ℕ) (old : List ℕ) {l : List ℕ} → n ≤ length old → ((i : ℕ) → i < n → f i ≡ g i)
    → l ≡ over (take (length old) (list_of n f)) old → l ≡ over (list_of n g) old
all-filled n f g old room same e =
    e ∙ ap (λ t. over t old) (take_all (length old) (list_of n f) (omega (arith, length-list_of n f)) ∙ list_of_ext n f g same)

-- they are then the front
front-is : (new old : List ℕ) (n places : ℕ) {l : List ℕ} → l ≡ over (take places new) old → length new ≡ n → n ≤ places → take n l ≡ new
front-is new old n places e all room =
    rw (e, take_all places new (omega arith)) (take_at new (drop (length new) old) n all)

-- ---- what is wanted, where the lists have places for all

module _ (old : List ℕ) {l : List ℕ} where
  pub inputs-listed : (u : ℕ) (operandList : List ℕ) (count : ℕ) → l ≡ over (take (length old) (inputs_wanted u operandList count)) old → count ≤ length old
      → take count l ≡ inputs_wanted u operandList count
  unfolding inputs_wanted
  inputs-listed u operandList count e room = front-is _ old count (length old) e (length-list_of count _) room

  pub pins-listed : (u : ℕ) (gates : List Gate) → l ≡ over (take (length old) (pins_wanted u gates)) old → operands * length gates ≤ length old
      → take (operands * length gates) l ≡ pins_wanted u gates
  unfolding pins_wanted
  pins-listed u gates e room = front-is _ old (operands * length gates) (length old) e (length-list_of (operands * length gates) _) room

  pub gates-listed : (G : Gates) (base h : ℕ) → l ≡ over (take (length old) (wanted_gates G base h)) old → operands * h ≤ length old
      → take (operands * h) l ≡ wanted_gates G base h
  unfolding wanted_gates
  gates-listed G base h e room = front-is _ old (operands * h) (length old) e (length-list_of (operands * h) _) room

  pub outputs-listed : (p : Plan) → l ≡ over (take (min max_outputs (length old)) (wanted_outputs p)) old → p.output_count ≤ max_outputs
      → p.output_count ≤ length old → take p.output_count l ≡ wanted_outputs p
  unfolding wanted_outputs
  outputs-listed p e few room = front-is _ old p.output_count (min max_outputs (length old)) e (length-list_of p.output_count _) (omega arith)

-- ---- the pins of a lower half

pub lower-operand : (before h : ℕ) (gates : List Gate) (j : ℕ)
    → (gates_listed 0 (part_of h gates)).operand j ≡ (gates_listed before gates).operand (operands * (0 + h) + j)
unfolding choose
lower-operand before h gates j =
    let m : (operands * (0 + h) + j) % operands ≡ j % operands = omega arith in
    let d : (operands * (0 + h) + j) / operands ≡ h + j / operands = omega arith in
    rw (m, d, part-is h gates, get_or-drop h gates (j / operands) zero_gate)

-- of a list of operands: the bits of their Y rows
pub choices_are : (before base h : ℕ) (operandList : List ℕ)
    → list_of (operands * h) (λ j. choice_at (before + base) h operandList (operands * (base + h) + j)) ≡ mix_bits (listed_operands before operandList) base h
unfolding mix_bits is_among is_of
choices_are before base h operandList = refl
