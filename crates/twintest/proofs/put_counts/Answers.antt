-- Six words with their numbers and the line's end, one behind the other, and there is room.
use Rattle.std.proofs.Common.{arith}
use Rattle.console.specs.Text.{ascii, Puts}
use Rattle.console.proofs.TextLaws.{puts_more, puts_whole}
use Rattle.twintest.specs.CountsLine.{counts_line}
use Rattle.twintest.proofs.CountsLineLaws.{counts-long}
use Rattle.twintest.proofs.put_counts.Goals as goal

put : (c : goal.After-put_byte) → let a = c.args in Puts a.line.now 0 (counts_line a.u a.k a.v a.c) c.put_byte.new.text c.put_byte.result
unfolding ascii
put c =
    simp (c.from.ensures, c.from-2.ensures, c.from-3.ensures, c.from-4.ensures, c.from-5.ensures, c.from-6.ensures)
    at (puts_more (puts_more (puts_more (puts_more (puts_more (puts_more c.put_named-n.ensures c.put_named-n-2.ensures) c.put_named-n-3.ensures)
    c.put_named-n-4.ensures) c.put_named-n-5.ensures) c.put_named-n-6.ensures) c.put_byte.ensures)

pub returns : goal.returns
returns c = let a = c.args in record { put = put c; whole = puts_whole (put c) (omega (arith, counts-long a.u a.k a.v a.c)) }
