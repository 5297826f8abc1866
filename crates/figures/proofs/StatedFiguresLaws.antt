-- Every starred figure is as stated: the test is computed.
use mathlib.Core.Path.{refl}
use Rattle.lists.specs.Counting.{count_of, nth_of}
use Rattle.block_elements.specs.Rows.{total, entries, flat, choose}
use Rattle.block_networks.specs.Permutation.{permutation_count, input_rows, output_rows, firsts, seconds, permutation_rows, permutation_outs, partner, iterate}
use Rattle.block_networks.specs.Permutation.{walk, key, least, lowest, side, pick, in_half, permutation_bits}
use Rattle.block_networks.specs.Wanted.{mapping, taker_of, inverse, wanted_bits}
use Rattle.block_networks.specs.Completion.{is_taken, completed}
use Rattle.block_networks.specs.Selection.{selection_level, padded, chain_wire, chain_rows, chain_outs, whole_rows, whole_outs, whole_count, selection_rows}
use Rattle.block_networks.specs.Selection.{selection_outs, selection_count, wanting, head_of, copy_of, whole_program, selection_bits}
use Rattle.fabric_universal.specs.Universal.{mix_rows, wires_from, universal_rows, universal_outs, table_program, is_of, wanted_gate, wanted_gates, mix_bits}
use Rattle.fabric_universal.specs.Universal.{universal_bits}
use Rattle.fabric_universal.specs.Fabric.{input_wires, fabric_rows, fabric_outs, fabric_table, padded_gate, wanted_input, wanted_inputs, wanted_outputs, plan_bits}
use Rattle.fabric_universal.specs.Fabric.{plan_program}
use Rattle.fabric_sheet.specs.Sheet.{of_kind}
use Rattle.plan.specs.Record.{uses_of}
use Rattle.plan.specs.Faults.{figures_fault}
use Rattle.powers.specs.Powers.{first_fit, ceil_log, ceil_power}
use Rattle.figures.specs.Figure.{Holds}
use Rattle.figures.specs.StatedFigures.{programs, selects, planned, fabricates, stated_figures, refuses, counts, sheets}
use Rattle.figures.proofs.FigureLaws.{passes, passes-holds}

-- the claim
pub figures_hold : Holds stated_figures
unfolding stated_figures passes refuses programs selects counts sheets of_kind total fabricates planned selection_rows selection_outs whole_rows whole_outs padded chain_wire
    chain_rows chain_outs input_rows output_rows firsts seconds permutation_rows permutation_outs entries flat input_wires fabric_rows fabric_outs fabric_table
    mix_rows wires_from universal_rows universal_outs padded_gate wanted_input wanted_inputs wanted_outputs plan_bits plan_program table_program is_of wanted_gate
    wanted_gates mix_bits universal_bits choose selection_level whole_count selection_count wanting head_of copy_of whole_program selection_bits count_of nth_of
    is_taken completed permutation_count partner iterate walk key least lowest side pick in_half permutation_bits mapping taker_of inverse wanted_bits uses_of figures_fault first_fit ceil_log ceil_power
figures_hold = passes-holds stated_figures refl
