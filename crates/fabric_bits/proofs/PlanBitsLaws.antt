-- The bits of an accepted plan from the list of its gates: how many they are, that the selection blocks have nothing to refuse, and that the parts
-- S(u, 2K), U(K) and S(K, v), stored one behind the other, are the whole.
use mathlib.Core.Path.{◌≡◌, refl, sym, ap, ap₂, ◌∙◌}
use mathlib.Core.List.{List, ◌++◌, append_assoc}
use Prim.Native.Nat.{ℕ, ◌+◌, ◌*◌, ◌/◌, ◌%◌, ◌^◌, ◌≤◌, ◌<◌}
use native.Mathlib.Omega.{arith}
use lib.ListN.{length, get_or, take, length-append}
use lib.Pow.{pow_pos}
use Rattle.lists.specs.Lists.{list_of}
use Rattle.lists.proofs.ListsLaws.{length-list_of, get_or-list_of, list_of_ext}
use Rattle.blocks.specs.Elements.{operands, choose, store_bits}
use Rattle.blocks.proofs.ElementsLaws.{store_bits-append}
use Rattle.blocks.specs.Networks.{selection_count, selection_bits}
use Rattle.blocks.proofs.NetworksLaws.{length-selection_bits}
use Rattle.blocks.specs.Calls.{SelectionPasses}
use Rattle.plan.specs.declared.record.Gate.{Gate}
use Rattle.plan.specs.declared.record.Plan.{Plan}
use Rattle.plan.specs.Record.{zero_gate}
use Rattle.plan.specs.Faults.{Accepted}
use Rattle.plan.proofs.FaultsLaws.{accepted-counts}
use Rattle.fabric_universal.specs.Selector.{pin_count, selection}
use Rattle.fabric_universal.proofs.SelectorLaws.{selection-shape}
use Rattle.fabric_universal.specs.Universal.{universal_takes, universal_bits}
use Rattle.fabric_universal.proofs.UniversalLaws.{length-universal_bits}
use Rattle.fabric_universal.specs.Fabric.{gate_level, fabric_takes, padded_gate, plan_gates, wanted_input, wanted_inputs, wanted_outputs, plan_bits}
use Rattle.fabric_universal.proofs.FabricLaws.{fabric_within}
use Rattle.fabric_universal.proofs.FabricRun.{inputs-selected, outputs-selected}
use Rattle.fabric_lists.specs.GateLists.{gates_listed}
use Rattle.fabric_lists.specs.WantedLists.{pins_wanted}
use Rattle.fabric_sizes.proofs.PartsLaws.{few-places, same-level, plan-places}
use Rattle.fabric_sizes.specs.Parts.{max_pins}
use Rattle.fabric_bits.specs.ProgramParts.{bit_limit, gates_program, UniversalProgramRoom, GatesRoom}
use Rattle.fabric_bits.proofs.UniversalBitsLaws.{moved-bits}

-- ---- how many bits

pub length_gates : (u : ℕ) (list : List Gate)
    → length (gates_program u list) ≡ selection_count u (operands * length list) + universal_takes selection (gate_level (length list))
unfolding gates_program
length_gates u list =
    let pins : ℕ = operands * length list in
    length-append (selection_bits u pins (pins_wanted u list)) _
    ∙ ap₂ (λ a b. a + b) (length-selection_bits u pins (pins_wanted u list))
    (length-universal_bits selection selection-shape (gates_listed u list) (gate_level (length list)) 0)

-- ---- S(u, 2K), then U(K)

-- what U(K) is lent after S(u, 2K)'s bits are stored
pub room_behind : {before gates wanted start room wanted' start' room' : ℕ}
    → UniversalProgramRoom before gates wanted start room → wanted' ≡ wanted → start' ≡ start → room' ≡ room
    → UniversalProgramRoom before gates wanted' start' room'
room_behind R ew es er = rw (ew, es, er) R

pub gates_stored : (u : ℕ) (list : List Gate) (s₀ : List ℕ) {next : ℕ} {s₁ s₂ : List ℕ}
    → s₁ ≡ store_bits s₀ 0 (selection_bits u (operands * length list) (pins_wanted u list))
    → next ≡ selection_count u (operands * length list)
    → s₂ ≡ store_bits s₁ next (universal_bits selection (gates_listed u list) (gate_level (length list)) 0)
    → s₂ ≡ store_bits s₀ 0 (gates_program u list)
unfolding gates_program
gates_stored u list s₀ {next} e₁ en e₂ =
    let pins : ℕ = operands * length list in
    let I = selection_bits u pins (pins_wanted u list) in
    let G = universal_bits selection (gates_listed u list) (gate_level (length list)) 0 in
    let at : next ≡ 0 + length I = omega (arith, length-selection_bits u pins (pins_wanted u list)) in
    e₂ ∙ ap₂ (λ s q. store_bits s q G) e₁ at ∙ sym (store_bits-append s₀ 0 I G)

-- ---- the list of a plan's gates

module _ (p : Plan) (accepted : Accepted p) {list : List Gate} (L : list ≡ list_of p.gate_places (padded_gate p)) where
  -- the K that its record holds, and their number
  held-places : p.gate_places ≡ 2 ^ gate_level p.gate_count
  held-places = (plan-places p accepted).is_places

  length-loaded : length list ≡ 2 ^ gate_level p.gate_count
  length-loaded = ap length L ∙ length-list_of p.gate_places (padded_gate p) ∙ held-places

  loaded-gate : (g : ℕ) → g < 2 ^ gate_level p.gate_count → get_or list g zero_gate ≡ padded_gate p g
  loaded-gate g l = ap (λ s. get_or s g zero_gate) L ∙ get_or-list_of p.gate_places _ g zero_gate (omega (arith, held-places))

  loaded-operand : (q : ℕ) → q < pin_count (gate_level p.gate_count) → (gates_listed p.inputs list).operand q ≡ (plan_gates p).operand q
  unfolding choose
  loaded-operand q l = ap (λ g. choose (q % operands) g.first.0 g.second.0) (loaded-gate (q / operands) (omega arith))

  loaded-wanted : pins_wanted p.inputs list ≡ wanted_inputs p
  unfolding pins_wanted wanted_inputs
  loaded-wanted =
      rw length-loaded
      (list_of_ext (pin_count (gate_level p.gate_count)) _ _ (λ q l. ap (wanted_input p.inputs) (loaded-operand q l)))

  loaded-bits : universal_bits selection (gates_listed p.inputs list) (gate_level p.gate_count) 0 ≡ universal_bits selection (plan_gates p) (gate_level p.gate_count) 0
  loaded-bits =
      let n : ℕ = gate_level p.gate_count in
      moved-bits p.inputs 0 (2 ^ n) (λ g. get_or list g zero_gate) (padded_gate p) (λ g l.
      let same : g ≡ 0 + g = omega arith in
      loaded-gate g l ∙ ap (padded_gate p) same) n (omega arith) refl (omega arith)

  -- S(u, 2K) and U(K) are programmed for the plan
  gates_programmed : let n : ℕ = gate_level p.gate_count in
      gates_program p.inputs list ≡ selection_bits p.inputs (pin_count n) (wanted_inputs p) ++ universal_bits selection (plan_gates p) n 0
  unfolding gates_program
  gates_programmed =
      let n : ℕ = gate_level p.gate_count in
      rw (length-loaded, loaded-wanted, same-level p.gate_count)
      (ap (λ (b : List ℕ). selection_bits p.inputs (pin_count n) (wanted_inputs p) ++ b) loaded-bits)

  -- they have room
  pub gates-program-room : {wanted room : ℕ} → wanted ≡ max_pins → fabric_takes p.inputs p.gate_count p.output_count ≤ 8 * room
      → GatesRoom p.inputs list wanted room
  unfolding fabric_takes
  gates-program-room {wanted} {room} ew fits =
      let n : ℕ = gate_level p.gate_count in
      let c = accepted-counts p accepted in
      let few = (fabric_within _ _ _ c).bits in
      let few-gates = few-places p.gate_count c.gates in
      let some = pow_pos n in
      let same = same-level p.gate_count in
      let takes = ap (universal_takes selection) same in
      record {
        inputs = rw (length-loaded, loaded-wanted) (record {
          sizes = record { some_inputs = c.some_inputs; inputs = omega (arith, c.inputs); some_outputs = omega arith; outputs = omega arith };
          selected = inputs-selected p accepted;
          fits = omega arith;
        });
        gates = rw length-loaded (record {
          power = ap (λ m. 2 ^ m) (sym same);
          all = few-gates;
          wires = omega (arith, c.inputs);
          wanted_room = omega arith;
          few = omega (arith, takes);
          fits = omega (arith, takes);
        });
      }

  -- the bits of S(K, v) behind theirs are the plan's
  pub plan-stored : (s₀ : List ℕ) {next : ℕ} {s₁ s₂ : List ℕ} → s₁ ≡ store_bits s₀ 0 (gates_program p.inputs list)
      → next ≡ length (gates_program p.inputs list)
      → s₂ ≡ store_bits s₁ next (selection_bits (2 ^ gate_level p.gate_count) p.output_count (wanted_outputs p))
      → s₂ ≡ store_bits s₀ 0 (plan_bits p)
  unfolding plan_bits
  plan-stored s₀ {next} e₁ en e₂ =
      let n : ℕ = gate_level p.gate_count in
      let A = gates_program p.inputs list in
      let O = selection_bits (2 ^ n) p.output_count (wanted_outputs p) in
      let at : next ≡ 0 + length A = omega arith in
      e₂ ∙ ap₂ (λ s q. store_bits s q O) e₁ at ∙ sym (store_bits-append s₀ 0 A O)
      ∙ ap (λ (b : List ℕ). store_bits s₀ 0 (b ++ O)) gates_programmed
      ∙ ap (store_bits s₀ 0) (append_assoc (selection_bits p.inputs (pin_count n) (wanted_inputs p)) (universal_bits selection (plan_gates p) n 0) O)

  -- what is left of the plan's bits has room behind theirs
  pub output-bits-fit : {next : ℕ} (room : ℕ) → fabric_takes p.inputs p.gate_count p.output_count ≤ 8 * room
      → next ≡ length (gates_program p.inputs list)
      → (next + selection_count (2 ^ gate_level p.gate_count) p.output_count ≤ 8 * room)
      × (next + selection_count (2 ^ gate_level p.gate_count) p.output_count ≤ bit_limit)
  unfolding fabric_takes
  output-bits-fit room fits en =
      let few = (fabric_within _ _ _ (accepted-counts p accepted)).bits in
      let pins = ap (λ m. selection_count p.inputs (operands * m)) length-loaded in
      let takes = ap (universal_takes selection) (ap gate_level length-loaded ∙ same-level p.gate_count) in
      let size = length_gates p.inputs list in
      (omega arith, omega arith)

-- S(K, v)'s call has nothing to refuse
pub outputs_pass : (p : Plan) → Accepted p → (wanted : List ℕ) {m start room : ℕ} → m ≡ 2 ^ gate_level p.gate_count
    → take p.output_count wanted ≡ wanted_outputs p
    → start + selection_count (2 ^ gate_level p.gate_count) p.output_count ≤ 8 * room
    → SelectionPasses m p.output_count (take p.output_count wanted) start room
outputs_pass p accepted wanted em ew fits =
    let n : ℕ = gate_level p.gate_count in
    let c = accepted-counts p accepted in
    let few = few-places p.gate_count c.gates in
    rw (em, ew) (record {
      sizes = record { some_inputs = pow_pos n; inputs = omega arith; some_outputs = c.some_outputs; outputs = omega (arith, c.outputs) };
      selected = outputs-selected p accepted;
      fits = fits;
    })
