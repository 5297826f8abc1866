-- The two cases of counting's answer.
use Rattle.console.proofs.TextLaws.{puts_same}
use Rattle.fabricsheet.proofs.SheetTextLaws.{sheet-text, refused-sheet-text}
use Rattle.fabricsheet.proofs.put_plan.Goals as goal

pub returns-in-Err : goal.returns-in-Err
returns-in-Err c =
    let counted = rw (c.from.ensures, c.from-2.ensures, c.from-3.ensures) at c.count_kinds.ensures in
    puts_same (refused-sheet-text c.args.plan c.count_kinds.result counted _ c.in-Err.is) c.put_refusal.ensures

pub returns-in-Ok : goal.returns-in-Ok
returns-in-Ok c =
    let counted = rw (c.from.ensures, c.from-2.ensures, c.from-3.ensures) at c.count_kinds.ensures in
    puts_same (sheet-text c.args.plan c.count_kinds.result counted _ c.in-Ok.is) c.put_sheet.ensures
