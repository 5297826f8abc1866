use Rattle.std.proofs.Common.{◌≡◌, ℕ, ◌+◌, ◌*◌, ◌/◌, ◌<◌, ap, ◌∙◌, length, arith}
use Rattle.lists.specs.Counting.{one_if}
use Rattle.lists.proofs.ListsLaws.{list_of_ext}
use Rattle.blocks.specs.Elements.{store_bits}
use Rattle.fault.specs.Buffers.{part_of}
use Rattle.fabric_universal.specs.Universal.{is_of, mix_bits}
use Rattle.fabric_lists.specs.GateLists.{gates_listed}
use Rattle.fabric_lists.specs.WantedLists.{is_among}
use Rattle.fabric_lists.proofs.WantedListsLaws.{lower-operand}
use Rattle.fabric_lists.proofs.gates.GateList.store_choices.Goals as goal

pub returns : goal.returns
unfolding mix_bits is_of is_among
returns c =
    let list = c.args.self in
    let gates = list.gates.now in
    let half = length gates / 2 in
    let operand = λ (j : ℕ). (gates_listed list.before gates).operand (2 * (0 + half) + j) in
    let choice = λ (before wire : ℕ). one_if (is_among before half wire) in
    let told = λ (j : ℕ). choice list.before ((gates_listed 0 (part_of half gates)).operand j) in
    let asked = λ (j : ℕ). choice (list.before + 0) (operand j) in
    let base : list.before ≡ list.before + 0 = omega arith in
    let at = λ (j : ℕ) (l : j < 2 * half).
    ap (choice list.before) (lower-operand list.before half gates j) ∙ ap (λ b. choice b (operand j)) base in
    c.store_bits_by.ensures ∙ ap (store_bits c.args.program.now c.args.start) (list_of_ext (2 * half) told asked at)
