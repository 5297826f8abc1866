use Rattle.std.proofs.Common.{ℕ, ◌+◌, ◌*◌, ◌<◌, ap, ◌∙◌, drop, get_or-drop}
use Rattle.lists.specs.Counting.{one_if}
use Rattle.lists.proofs.ListsLaws.{list_of_ext}
use Rattle.blocks.specs.Elements.{store_bits}
use Rattle.fabric_lists.specs.WantedLists.{is_among, choice_at}
use Rattle.fabric_lists.proofs.WantedListsLaws.{choices_are}
use Rattle.fabric_lists.proofs.wanted.store_choices.Goals as goal

pub returns : goal.returns
returns c =
    let a = c.args in
    let operandList = a.operands.now in
    let first = a.before + a.base in
    let place = 2 * (a.base + a.half) in
    let told = choice_at first a.half (drop place operandList) in
    let asked = λ (j : ℕ). choice_at first a.half operandList (place + j) in
    let at = λ (j : ℕ) (l : j < 2 * a.half). ap (λ w. one_if (is_among first a.half w)) (get_or-drop place operandList j 0) in
    (rw (c.pins_behind.ensures) at c.store_bits_by.ensures)
    ∙ ap (store_bits a.program.now a.start) (list_of_ext (2 * a.half) told asked at ∙ choices_are a.before a.base a.half operandList)
