-- Each list has what its pins or gates have in the plan.
use Rattle.std.proofs.Common.{◌≡◌, length, rules, arith}
use Rattle.plan.specs.Record.{gate_at}
use Rattle.fabric_lists.specs.GateLists.{gates_listed, loaded_gates}
use Rattle.fabric_lists.proofs.GateListsLaws.{operands-loaded, tables-loaded}
use Rattle.fabric_lists.proofs.gates.load_gates.Goals as goal

pub returns : goal.returns
unfolding loaded_gates
returns c =
    let p = c.args.plan in
    let operandList = c.args.operands.now in
    let tables = c.args.tables.now in
    let count : c.min-count.result ≡ loaded_gates p.gate_count (length operandList) (length tables) = omega arith in record {
      operands = operands-loaded p operandList tables count (c.list_by.ensures (gates_listed 0 p.gates).operand (record { each = λ q r l e. search rules }));
      tables = tables-loaded p operandList tables count (c.list_by-2.ensures (λ g. (gate_at p g).table) (record { each = λ g r l e. search rules }));
    }
