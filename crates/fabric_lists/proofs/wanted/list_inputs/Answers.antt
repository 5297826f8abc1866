use Rattle.std.proofs.Common.{get_or, rules}
use Rattle.fabric_universal.specs.Fabric.{wanted_input}
use Rattle.fabric_lists.specs.WantedLists.{inputs_wanted}
use Rattle.fabric_lists.proofs.wanted.list_inputs.Goals as goal

pub returns : goal.returns
unfolding inputs_wanted
returns c =
    let a = c.args in
    c.list_by.ensures (λ q. wanted_input a.inputs (get_or a.operands.now q 0)) (record { each = λ q r l p. search rules })
