-- One bit of the table is read.
use Rattle.std.proofs.Common.{◌∙◌, ℕ, ◌+◌, ◌*◌, ap, ap₂, get_or}
use Rattle.blocks.specs.Elements.{bit_at}
use Rattle.fabric_run.specs.RunRows.{left_of, right_of}
use Rattle.fabric_run.proofs.RowLaws.{g-done}
use Rattle.fabric_run.proofs.running.run_g.Goals as goal

pub returns : goal.returns
returns c =
    let a = c.args in
    let line : ℕ → ℕ → ℕ = λ l r. 2 * get_or a.work.now l 0 + get_or a.work.now r 0 in
    let read = c.read_bit.ensures ∙ ap (λ n. bit_at a.program.now (a.before.bits + n)) (c.from-3.ensures ∙ ap₂ line c.from.ensures c.from-2.ensures) in
    g-done a.program.now a.work.now a.before (left_of a.row.now) (right_of a.row.now) _ c.requires.left_bit c.requires.right_bit read
