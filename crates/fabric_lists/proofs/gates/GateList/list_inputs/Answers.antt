use Rattle.std.proofs.Common.{rules}
use Rattle.fabric_universal.specs.Fabric.{wanted_input}
use Rattle.fabric_lists.specs.GateLists.{gates_listed}
use Rattle.fabric_lists.specs.WantedLists.{pins_wanted}
use Rattle.fabric_lists.proofs.gates.GateList.list_inputs.Goals as goal

pub returns : goal.returns
unfolding pins_wanted
returns c = let list = c.args.self in
    c.list_by.ensures (λ q. wanted_input list.before ((gates_listed list.before list.gates.now).operand q)) (record { each = λ q r l p. search rules })
