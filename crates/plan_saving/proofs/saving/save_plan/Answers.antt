-- The checks decide, and where none fails the file that was made is copied.
use Rattle.std.proofs.Common.{◌≡◌, ◌≤◌, length, take, refl, sym, ap, ap₂, ◌∙◌, length-take, arith}
use Rattle.std.proofs.lemmas.Result.{err_from_is_err_and}
use lib.Seq.{take_at}
use Rattle.fault.specs.declared.Fault.{Fault}
use Rattle.fault.specs.Buffers.{over}
use Rattle.fault.proofs.ChecksLaws.{room-passes, room-refuses, ◌then◌, stop}
use Rattle.plan_files.specs.Encoding.{longest_file}
use Rattle.plan_files.proofs.EncodingLaws.{longest}
use Rattle.plan_saving.specs.Saving.{shortest_map, saved_file}
use Rattle.plan_saving.proofs.WritingLaws.{front_long, front-over}
use Rattle.plan_saving.proofs.OutcomeLaws.{refused-so, saved-so}
use Rattle.plan_saving.proofs.saving.save_plan.Goals as goal

pub returns-in_err-plan_fault : goal.returns-in_err-plan_fault
returns-in_err-plan_fault c =
    let f = c.in_err-plan_fault.field-0.0 in
    let (answered, written) = refused-so c.args.plan c.args.file.now f (stop f _ c.in_err-plan_fault.ensures) in
    let (y, is, same) = err_from_is_err_and c.from_residual.result c.from_residual.ensures.1 in
    record { answered = rw (is, same) answered; written = written }

pub encode_plan-length-requires : goal.encode_plan-length-requires
encode_plan-length-requires c =
    let p = c.args.plan in
    let ok = sym c.in_ok-plan_fault.ensures in
    record { accepted = ok; plan_in_bounds = longest (shortest_map p) p ok }

pub slice_bounds-made-end : goal.slice_bounds-made-end
slice_bounds-made-end c =
    let p = c.args.plan in
    omega (arith, front_long c.encode_plan-length.ensures, longest (shortest_map p) p (sym c.in_ok-plan_fault.ensures))

pub slice_bounds-copy_front-end : goal.slice_bounds-copy_front-end
slice_bounds-copy_front-end c =
    let p = c.args.plan in
    omega (
      arith,
      length-take c.encode_plan-length.result c.encode_plan-length.new.file,
      front_long c.encode_plan-length.ensures,
      longest (shortest_map p) p (sym c.in_ok-plan_fault.ensures),
    )

pub returns-then-file-length : goal.returns-then-file-length
returns-then-file-length c =
    let buffer = c.args.file.now in
    let (answered, written) =
    refused-so c.args.plan buffer Fault.Short
    (c.in_ok-plan_fault.ensures then room-refuses {room = length buffer} (front_long c.encode_plan-length.ensures) c.if-file-length.true) in
    record { answered = answered; written = written }

pub returns : goal.returns
returns c =
    let p = c.args.plan in
    let buffer = c.args.file.now in
    let made = saved_file p in
    let front = c.encode_plan-length.ensures in
    let room : length made ≤ longest_file = longest (shortest_map p) p (sym c.in_ok-plan_fault.ensures) in
    let is_file : take c.encode_plan-length.result c.encode_plan-length.new.file ≡ made =
    ap₂ take (front_long front) (front-over front room) ∙ take_at made _ (length made) refl in
    let (answered, written) =
    saved-so p buffer (c.in_ok-plan_fault.ensures then room-passes (front_long front) c.if-file-length.false) (front_long front)
    (c.copy_front.ensures ∙ ap (λ l. over l buffer) is_file) in
    record { answered = answered; written = written }
