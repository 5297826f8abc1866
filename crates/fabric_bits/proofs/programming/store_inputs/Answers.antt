-- The listed inputs are those that the pins want.
use Rattle.std.proofs.Common.{◌*◌, length, ap, ◌∙◌, arith}
use Rattle.blocks.specs.Elements.{store_bits}
use Rattle.blocks.specs.Networks.{selection_bits}
use Rattle.fabric_lists.proofs.WantedListsLaws.{pins-listed}
use Rattle.fabric_bits.proofs.programming.store_inputs.Goals as goal

pub store_selection-requires : goal.store_selection-requires
store_selection-requires c =
    let list = c.args.list in
    let r = c.requires in
    let listed = pins-listed c.args.wanted.now list.before list.gates.now c.list_inputs.ensures r.gates.wanted_room in
    record { selection_passes = rw listed r.inputs; n_bound = omega (arith, r.gates.few) }

pub returns : goal.returns
returns c =
    let list = c.args.list in
    let listed = pins-listed c.args.wanted.now list.before list.gates.now c.list_inputs.ensures c.requires.gates.wanted_room in
    let selection = c.store_selection.ensures in
    record {
      behind = omega (arith, selection.behind);
      stored =
          selection.stored
          ∙ ap (λ w. store_bits c.args.program.now 0 (selection_bits list.before (2 * length list.gates.now) w)) listed;
    }
