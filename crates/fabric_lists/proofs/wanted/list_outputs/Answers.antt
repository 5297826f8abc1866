use Rattle.std.proofs.Common.{◌-◌, length, ap, ◌∙◌, rules, arith}
use Rattle.fault.specs.Buffers.{over}
use Rattle.plan.specs.Record.{max_outputs, output_at}
use Rattle.fabric_universal.specs.Fabric.{wanted_outputs}
use Rattle.fabric_lists.proofs.WantedListsLaws.{limited-listed}
use Rattle.fabric_lists.proofs.wanted.list_outputs.Goals as goal

pub returns : goal.returns
unfolding wanted_outputs
returns c =
    let p = c.args.plan in
    let wanted = c.args.wanted.now in
    c.list_by.ensures (λ j. (output_at p j).0 - p.inputs) (record { each = λ q r l e. search rules })
    ∙ ap (λ named. over named wanted) (limited-listed p.output_count max_outputs (length wanted) (λ j. (output_at p j).0 - p.inputs) (omega arith))
