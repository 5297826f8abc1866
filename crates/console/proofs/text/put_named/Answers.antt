-- The word, and the number behind it.
use Rattle.console.proofs.TextLaws.{puts_more}
use Rattle.console.proofs.text.put_named.Goals as goal

pub returns : goal.returns
returns c = puts_more c.put_word-next.ensures c.put_number.ensures
