use Rattle.std.proofs.Common.{arith}
use Rattle.fabric_lists.specs.GateLists.{loaded_places}
use Rattle.fabric_lists.proofs.GateListsLaws.{front-loaded}
use Rattle.fabric_lists.proofs.gates.load_list.Goals as goal

pub returns : goal.returns
unfolding loaded_places
returns c = front-loaded c.args.plan c.args.gates.now (omega arith) (omega arith) c.copy_from_slice.ensures.after
