-- The first outputs are written.
use Rattle.plan_saving.specs.Parts.{saved_outputs, Wrote}
use Rattle.plan_saving.proofs.saving.encode_outputs.Given as goal

abbrev pub invariant-loop-wire : goal.invariant-loop-wire
invariant-loop-wire l = Wrote (saved_outputs l.plan l.wire-index) l.fn.file l.start l.file l.at
