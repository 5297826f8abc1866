-- The search's answer, said of the test that its closure makes.
use Rattle.std.proofs.Common.{◌≡◌, ℕ, Bool, true, false, rules}
use Rattle.std.proofs.lemmas.Iterator.{first_from_Range}
use Rattle.plan.specs.Record.{gate_wire}
use Rattle.plan_drawn.specs.Taking.{unnumbered}
use Rattle.plan_drawn.proofs.TakingLaws.{lowest-found}
use Rattle.plan_drawn.proofs.taking.Taking.lowest_left.Goals as goal

pub returns : goal.returns
returns c =
    let test : ℕ → Bool = λ g. unnumbered c.args.self.now.numbers (gate_wire c.args.self.now.drawing.now.inputs g) in
    lowest-found test c.args.from _ _ c.find.result c.from.ensures
    (first_from_Range _ _ _ c.find.result (λ g. test g ≡ true) (λ g. test g ≡ false) c.find.ensures.ran (λ x q k. search rules) (λ x q k. search rules))
