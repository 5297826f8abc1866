-- All bits are out.
use Rattle.std.proofs.Common.{◌∙◌, ap, sym, arith, get_or}
use Rattle.lists.specs.Lists.{list_of}
use Rattle.lists.proofs.ListsLaws.{list_of_ext, list_of-get_or}
use Rattle.fabric_run.proofs.running.write_result.Goals as goal

pub returns : goal.returns
returns c =
    let out = c.loop-j.out in
    let size = c.loop-j.auto.out ∙ c.requires.places_are in
    sym (list_of-get_or out 0) ∙ ap (λ n. list_of n (λ k. get_or out k 0)) size ∙ list_of_ext _ _ _ (λ k h. c.loop-j.invariant k (omega arith))
