-- The part is copied whole.
use Rattle.std.proofs.Common.{drop, ◌+◌, ◌-◌, arith, length-take, length-drop}
use Rattle.series.proofs.CopyingLaws.{copied}
use Rattle.series.proofs.copying.copy_part.Goals as goal

pub returns-then-n-gt0 : goal.returns-then-n-gt0
returns-then-n-gt0 c =
    let a = c.args in
    let n = c.entries_within-n.result in
    copied a.from.now a.to.now a.start a.count a.at n (omega arith) {k = a.at + n - a.at} {m = a.start + n - a.start} (omega arith) (omega arith) (omega arith)
    (c.copy_entries.ensures.whole
    (omega (arith, length-take (a.start + n - a.start) (drop a.start a.from.now), length-take (a.at + n - a.at) (drop a.at a.to.now), length-drop a.start a.from.now, length-drop a.at a.to.now)))
