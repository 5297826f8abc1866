-- Two words with their numbers, and the line's end.
use Rattle.console.specs.Text.{ascii}
use Rattle.console.proofs.TextLaws.{puts_more}
use Rattle.console.proofs.text.put_refusal.Goals as goal

pub returns : goal.returns
unfolding ascii
returns c =
    rw c.from.ensures at (rw c.from-2.ensures at (puts_more (puts_more c.put_named-next.ensures c.put_named-next-2.ensures) c.put_byte.ensures))
