-- Each part's counts are those of its rows.
use Rattle.fabric_sheet.proofs.KindsLaws.{have_kinds, input-rows, block-rows, output-rows, sheet_of_lem}
use Rattle.fabric_sheet.proofs.sheet_of.Goals as goal

pub kinds_of-input-requires : goal.kinds_of-input-requires
kinds_of-input-requires c = have_kinds (input-rows _ _ 0 c.pin_counts.ensures)

pub kinds_of-block-requires : goal.kinds_of-block-requires
kinds_of-block-requires c = have_kinds (block-rows 0 _ 0 c.universal_counts.ensures)

pub kinds_of-output-requires : goal.kinds_of-output-requires
kinds_of-output-requires c = have_kinds (output-rows 0 _ _ c.output_counts.ensures)

pub returns : goal.returns
returns c =
    let a = c.args in
    sheet_of_lem a.counts.inputs a.counts.gates a.counts.outputs c.pin_counts.ensures c.universal_counts.ensures c.output_counts.ensures
    c.kinds_of-input.ensures.value c.kinds_of-block.ensures.value c.kinds_of-output.ensures.value c.added-sum.ensures
