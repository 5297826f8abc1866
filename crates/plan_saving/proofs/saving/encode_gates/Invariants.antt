-- The first i gates are written.
use Rattle.plan_saving.specs.Parts.{saved_gates, Wrote}
use Rattle.plan_saving.proofs.saving.encode_gates.Given as goal

abbrev pub invariant-loop-i : goal.invariant-loop-i
invariant-loop-i l = Wrote (saved_gates l.plan l.i) l.fn.file l.start l.file l.at
