-- The next byte is put behind those before it.
use Rattle.std.proofs.Common.{arith}
use Rattle.console.proofs.TextLaws.{puts_none, puts_next, puts_all}
use Rattle.console.proofs.text.put_word.Goals as goal

pub loop-byte-init : goal.loop-byte-init
loop-byte-init c = puts_none c.min-next.ensures

pub loop-byte-preserved : goal.loop-byte-preserved
loop-byte-preserved c = puts_next c.args.word.now c.loop-byte.byte-index (omega arith) c.loop-byte.invariant c.put_byte-next.ensures

pub returns : goal.returns
returns c = puts_all {i = c.loop-byte.byte-index} (omega arith) c.loop-byte.invariant
