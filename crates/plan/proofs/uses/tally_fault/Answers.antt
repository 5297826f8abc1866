-- K is not the counted one, or the comparison of the uses decides.
use Rattle.std.proofs.Common.{true, false, sym, ap, ◌∙◌, arith}
use Rattle.powers.specs.Powers.{ceil_power}
use Rattle.plan.proofs.FaultsLaws.{figures-refused, figures-compared}
use Rattle.plan.proofs.uses.tally_fault.Goals.{then-ceil_power-from-via-then-ceil_power-from, then-ceil_power-from-via-else-ceil_power-from+then-ne}
use Rattle.plan.proofs.uses.tally_fault.Goals as goal

pub returns-then-ceil_power-from : goal.returns-then-ceil_power-from
returns-then-ceil_power-from c =
    let counted = c.ceil_power.ensures ∙ ap ceil_power c.from-3.ensures in
    elim c.then-ceil_power-from.branch [
      | then-ceil_power-from-via-then-ceil_power-from w ↦ figures-refused _ _ _ _ _ (λ h. w.if-ceil_power-from.true (counted ∙ sym h.0 ∙ sym c.from-4.ensures))
      | then-ceil_power-from-via-else-ceil_power-from+then-ne w ↦
          figures-compared _ _ _ _ _ true (sym c.from-4.ensures ∙ sym w.if-ceil_power-from.false ∙ counted) (omega arith) (omega arith)
          (rw (c.from.ensures, c.from-2.ensures) at w.if-ne.ensures)
    ]

pub returns : goal.returns
returns c =
    let counted = c.ceil_power.ensures ∙ ap ceil_power c.from-3.ensures in
    figures-compared _ _ _ _ _ false (sym c.from-4.ensures ∙ sym c.if-ceil_power-from.false ∙ counted) (omega arith) (omega arith)
    (rw (c.from.ensures, c.from-2.ensures) at c.if-ne.ensures)
