-- The name, four figures and the line's end, one behind the other.
use Rattle.console.specs.Text.{ascii}
use Rattle.console.proofs.TextLaws.{puts_more}
use Rattle.fabricsheet.proofs.put_line.Goals as goal

pub returns : goal.returns
unfolding ascii
returns c =
    simp (c.from.ensures, c.from-2.ensures, c.from-3.ensures, c.from-4.ensures)
    at (puts_more (puts_more (puts_more (puts_more (puts_more c.put_word-n.ensures c.put_named-n.ensures) c.put_named-n-2.ensures)
    c.put_named-n-3.ensures) c.put_named-n-4.ensures) c.put_byte.ensures)
