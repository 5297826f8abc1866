-- The file's parts, one behind the other.
use Rattle.std.proofs.Common.{◌++◌, append_assoc, ◌∙◌, arith}
use Rattle.plan_files.specs.Encoding.{word}
use Rattle.plan_saving.specs.Parts.{saved_gates}
use Rattle.plan_saving.proofs.WritingLaws.{wrote_as, wrote-more}
use Rattle.plan_saving.proofs.FileLaws.{saved-parts, saved-long, outputs-long}
use Rattle.plan_saving.proofs.saving.encode_plan.Goals as goal

pub encode_counts-header-requires : goal.encode_counts-header-requires
encode_counts-header-requires c = omega (arith, c.requires.plan_in_bounds, saved-long c.args.plan.now)

pub encode_gates-end-requires-clause-gate_count_in_bounds : goal.encode_gates-end-requires-clause-gate_count_in_bounds
encode_gates-end-requires-clause-gate_count_in_bounds c = omega (arith, c.requires.plan_in_bounds, saved-long c.args.plan.now)

pub encode_outputs-requires-clause-output_count_in_bounds : goal.encode_outputs-requires-clause-output_count_in_bounds
encode_outputs-requires-clause-output_count_in_bounds c =
    let p = c.args.plan.now in omega (arith, c.requires.plan_in_bounds, saved-long p, outputs-long p)

pub returns : goal.returns
returns c =
    let p = c.args.plan.now in
    wrote_as (wrote-more (wrote-more c.encode_counts-header.ensures c.encode_gates-end.ensures) c.encode_outputs.ensures)
    (append_assoc (word p.inputs ++ (word p.gate_count ++ word p.output_count)) (saved_gates p p.gate_count) _ ∙ saved-parts p)
