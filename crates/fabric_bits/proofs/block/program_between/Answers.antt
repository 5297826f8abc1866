-- The two parts, stored one behind the other, are the whole.
use Rattle.std.proofs.Common.{◌/◌, length, arith}
use Rattle.fabric_lists.specs.GateLists.{gates_listed}
use Rattle.fabric_lists.proofs.WantedListsLaws.{gates-listed}
use Rattle.fabric_bits.proofs.UniversalBitsLaws.{length_between, between_passes, between_stored}
use Rattle.fabric_bits.proofs.block.program_between.Goals as goal

pub store_selection-choices-requires-clause-selection_passes : goal.store_selection-choices-requires-clause-selection_passes
store_selection-choices-requires-clause-selection_passes c =
    let list = c.args.list in
    let gates = gates_listed list.before list.gates.now in
    let listed = gates-listed c.args.wanted.now gates 0 (length list.gates.now / 2) c.list_gates.ensures c.requires.wanted_room in
    between_passes gates 0 c.list_gates.new.wanted c.requires listed

pub returns : goal.returns
returns c =
    let list = c.args.list in
    let gates = gates_listed list.before list.gates.now in
    let half = length list.gates.now / 2 in
    let listed = gates-listed c.args.wanted.now gates 0 half c.list_gates.ensures c.requires.wanted_room in
    let selection = c.store_selection-choices.ensures in
    record {
      behind = omega (arith, selection.behind, length_between gates 0 half);
      stored = between_stored gates 0 half c.args.start c.args.program.now listed selection.stored selection.behind c.store_choices.ensures;
    }
