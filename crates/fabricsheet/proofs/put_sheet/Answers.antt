-- Four lines, one behind the other.
use borrow.Author.Rules.{rules}
use Rattle.console.specs.Text.{ascii}
use Rattle.console.proofs.TextLaws.{puts_more, puts_length}
use Rattle.fabricsheet.proofs.put_sheet.Goals as goal

pub returns : goal.returns
unfolding ascii
returns c =
    puts_more (puts_more (puts_more c.put_line-n.ensures c.put_line-n-2.ensures) c.put_line-n-3.ensures) c.put_line.ensures
