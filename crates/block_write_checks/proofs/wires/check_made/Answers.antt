use Rattle.std.proofs.Common.{◌≡◌, ℕ, Bool, ltb, sym, ◌∙◌, rules, tests}
use Rattle.std.specs.List.{list_all}
use Rattle.std.proofs.lemmas.Iterator.{YieldsList-from_slice}
use Rattle.std.proofs.lemmas.Iterator.Search.{all_from_yields_List}
use Rattle.fault.specs.declared.Fault.{Fault}
use Rattle.fault.proofs.EntriesLaws.{each-entry}
use Rattle.block_write_checks.specs.Wires.{unmade_fault}
use Rattle.block_write_checks.proofs.wires.check_made.Goals as goal

abbrev is_made : ℕ → ℕ → Bool
is_made next wire = ltb wire next

pub returns-then-not-all : goal.returns-then-not-all
unfolding unmade_fault
returns-then-not-all c =
    let next = c.args.next.0 in
    let inputs = c.args.inputs.now in
    let h : c.all.result ≡ list_all (is_made next) inputs =
    all_from_yields_List (is_made next) _ _ c.all.result c.all.ensures.ran (YieldsList-from_slice inputs cc) (λ x b q k. search (rules, tests)) in
    rw (each-entry (is_made next) Fault.Fabric inputs, sym h ∙ c.if-not-all.true)

pub returns : goal.returns
unfolding unmade_fault
returns c =
    let next = c.args.next.0 in
    let inputs = c.args.inputs.now in
    let h : c.all.result ≡ list_all (is_made next) inputs =
    all_from_yields_List (is_made next) _ _ c.all.result c.all.ensures.ran (YieldsList-from_slice inputs cc) (λ x b q k. search (rules, tests)) in
    rw (each-entry (is_made next) Fault.Fabric inputs, sym h ∙ c.if-not-all.false)
