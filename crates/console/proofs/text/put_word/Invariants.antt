-- So many bytes of the word are put.
use Rattle.std.proofs.Common.{take}
use Rattle.console.specs.Text.{Puts}
use Rattle.console.proofs.text.put_word.Given as goal

abbrev pub invariant-loop-byte : goal.invariant-loop-byte
invariant-loop-byte l = Puts l.initial.text l.at (take l.byte-index l.word) l.text l.next
