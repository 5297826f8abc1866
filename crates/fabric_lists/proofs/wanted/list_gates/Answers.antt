use Rattle.std.proofs.Common.{◌+◌, ◌*◌, get_or, get_or-drop, rules}
use Rattle.fabric_universal.specs.Universal.{is_of, wanted_gate, wanted_gates}
use Rattle.fabric_lists.specs.WantedLists.{listed_operands, is_among, wanted_among}
use Rattle.fabric_lists.proofs.wanted.list_gates.Goals as goal

pub returns : goal.returns
unfolding wanted_gates wanted_gate is_of wanted_among is_among
returns c =
    let a = c.args in
    let place = 2 * (a.base + a.half) in
    let operandList = a.operands.now in
    c.list_by.ensures (λ j. wanted_gate (listed_operands a.before operandList) a.base a.half (get_or operandList (place + j) 0)) (record {
      each = λ q r l p.
          let pin = get_or-drop place operandList q 0 in search rules;
    })
