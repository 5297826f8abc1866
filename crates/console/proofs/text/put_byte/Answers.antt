-- It is put where there is room, and a full text stays as it is.
use Rattle.std.proofs.Common.{arith}
use Rattle.console.proofs.TextLaws.{puts_byte, puts_full}
use Rattle.console.proofs.text.put_byte.Goals as goal

pub returns-then-at-text : goal.returns-then-at-text
returns-then-at-text c = puts_byte _ _ _ (omega arith)

pub returns : goal.returns
returns c = puts_full (omega arith)
