use Rattle.std.proofs.Common.{◌≡◌, sym, ◌∙◌, rules, tests}
use Rattle.std.specs.List.{list_all}
use Rattle.std.proofs.lemmas.Iterator.{YieldsList-from_slice}
use Rattle.std.proofs.lemmas.Iterator.Search.{all_from_yields_List}
use Rattle.block_program_checks.proofs.ChecksLaws.{in_range, selected_is}
use Rattle.block_program_checks.proofs.selection.check_selected.Goals as goal

pub returns-then-not-all : goal.returns-then-not-all
returns-then-not-all c =
    let a = c.args in
    let h : c.all.result ≡ list_all (in_range a.m) a.wanted.now =
    all_from_yields_List (in_range a.m) _ _ c.all.result c.all.ensures.ran (YieldsList-from_slice a.wanted.now cc) (λ x b q k. search (rules, tests)) in
    rw (selected_is a.m a.wanted.now, sym h ∙ c.if-not-all.true)

pub returns : goal.returns
returns c =
    let a = c.args in
    let h : c.all.result ≡ list_all (in_range a.m) a.wanted.now =
    all_from_yields_List (in_range a.m) _ _ c.all.result c.all.ensures.ran (YieldsList-from_slice a.wanted.now cc) (λ x b q k. search (rules, tests)) in
    rw (selected_is a.m a.wanted.now, sym h ∙ c.if-not-all.false)
