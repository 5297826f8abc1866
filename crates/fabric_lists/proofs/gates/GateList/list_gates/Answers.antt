use Rattle.std.proofs.Common.{◌+◌, ◌*◌, ◌/◌, length, rules}
use Rattle.fabric_universal.specs.Universal.{is_of, wanted_gate, wanted_gates}
use Rattle.fabric_lists.specs.GateLists.{gates_listed}
use Rattle.fabric_lists.specs.WantedLists.{is_among, wanted_among}
use Rattle.fabric_lists.proofs.WantedListsLaws.{lower-operand}
use Rattle.fabric_lists.proofs.gates.GateList.list_gates.Goals as goal

pub returns : goal.returns
unfolding wanted_gates wanted_gate is_of wanted_among is_among
returns c =
    let list = c.args.self in
    let gates = gates_listed list.before list.gates.now in
    let half = length list.gates.now / 2 in
    c.list_by.ensures (λ j. wanted_gate gates 0 half (gates.operand (2 * (0 + half) + j))) (record {
      each = λ q r l p.
          let pin = lower-operand list.before half list.gates.now q in search rules;
    })
