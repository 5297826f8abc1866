-- The first loop's invariant: the first i gates are read. The second's: all gates are, and the first j outputs.
use Rattle.plan_reading.proofs.PartsLaws.{FileRead}
use Rattle.plan_reading.proofs.reading.read_whole.Given as goal

abbrev pub invariant-loop-i : goal.invariant-loop-i
invariant-loop-i l = FileRead l.drawn l.counts l.file l.i 0 l.plan l.at.at

abbrev pub invariant-loop-j : goal.invariant-loop-j
invariant-loop-j l = FileRead l.drawn l.counts l.file l.counts.gates l.j l.plan l.at.at
