-- The kit's digits are put.
use mathlib.Core.Path.{◌∙◌}
use native.Mathlib.Omega.{arith}
use Rattle.console.proofs.TextLaws.{puts_same}
use Rattle.console.proofs.DecimalLaws.{decimal_digits}
use Rattle.console.proofs.text.put_number.Goals as goal

pub returns : goal.returns
returns c =
    let spelt = c.decimal-n in
    puts_same (spelt.ensures.digits ∙ decimal_digits 19 spelt.result _ (omega arith) spelt.ensures.len) c.put_word.ensures
