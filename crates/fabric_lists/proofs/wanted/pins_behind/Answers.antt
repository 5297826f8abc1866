use Rattle.std.proofs.Common.{◌*◌, drop, ap, ◌∙◌}
use Rattle.std.proofs.lemmas.List.{drop_min}
use Rattle.blocks.proofs.ElementsLaws.{part-is}
use Rattle.fabric_lists.proofs.wanted.pins_behind.Goals as goal

pub returns : goal.returns
returns c =
    let operandList = c.args.operands.now in
    part-is c.min.result operandList ∙ ap (λ n. drop n operandList) c.min.ensures ∙ drop_min (2 * c.args.gates) operandList
