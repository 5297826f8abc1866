-- There is room for every text.
use native.Mathlib.Omega.{arith}
use borrow.Author.Rules.{rules}
use Rattle.console.proofs.TextLaws.{puts_whole}
use Rattle.fabricsheet.proofs.SheetTextLaws.{file-long}
use Rattle.fabricsheet.proofs.put_file.Goals as goal

pub returns : goal.returns
returns c =
    let a = c.args in
    record { counted = c.put_text.ensures.counted; written = puts_whole c.put_text.ensures (omega (arith, file-long a.file.now)) }
