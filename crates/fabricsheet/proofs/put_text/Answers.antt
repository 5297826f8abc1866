-- The two cases of reading's answer.
use Rattle.console.proofs.TextLaws.{puts_same}
use Rattle.fabricsheet.proofs.SheetTextLaws.{plan-text, refused-text}
use Rattle.fabricsheet.proofs.put_text.Goals as goal

pub returns-in-Err : goal.returns-in-Err
returns-in-Err c =
    let call = c.read_small_plan in
    puts_same (refused-text _ call.result call.ensures _ c.in-Err.is) c.put_refusal.ensures

pub returns-in-Ok : goal.returns-in-Ok
returns-in-Ok c =
    let call = c.read_small_plan in
    puts_same (plan-text _ call.result call.ensures _ c.in-Ok.is) c.put_plan.ensures
