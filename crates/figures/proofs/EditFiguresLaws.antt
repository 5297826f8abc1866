-- Every figure of settled plans and of edits is as stated: the test is computed.
use mathlib.Core.Path.{refl}
use Rattle.lists.specs.Lists.{list_of}
use Rattle.lists.specs.Counting.{count_of, nth_of}
use Rattle.powers.specs.Powers.{first_fit, ceil_log, ceil_power}
use Rattle.fault.specs.Checks.{first_of}
use Rattle.plan.specs.Record.{places, uses_of}
use Rattle.plan.specs.Rules.{count_allowed, map_allowed, operand_allowed, table_allowed, source_allowed}
use Rattle.plan.specs.Faults.{counts_fault, gate_fault, output_fault, figures_fault, plan_fault}
use Rattle.plan_fields.specs.Parsing.{field, in_order}
use Rattle.plan_fields.specs.Fields.{gate_step_within}
use Rattle.plan_reading.specs.PlanFile.{not_stub, at_end, whole_file, plan_read}
use Rattle.plan_order.specs.Order.{has, supplied, ready, with_next, taken}
use Rattle.plan_order.specs.Drawing.{place_in, renumbered}
use Rattle.plan_drawn.specs.DrawnFile.{no_cycle, drawn_file, drawn_read}
use Rattle.plan_edits.specs.Edits.{place_fault, replace_gate_fault, append_gate_fault, replace_output_fault, gate_replaced, gate_appended, output_replaced}
use Rattle.figures.specs.Figure.{Holds}
use Rattle.figures.specs.EditFigures.{edit_figures}
use Rattle.figures.proofs.FigureLaws.{passes, passes-holds}

-- the claim
pub edit_figures-hold : Holds edit_figures
unfolding edit_figures passes list_of count_of nth_of first_fit ceil_log ceil_power first_of places uses_of count_allowed map_allowed operand_allowed table_allowed
    source_allowed counts_fault gate_fault output_fault figures_fault plan_fault field in_order gate_step_within not_stub at_end whole_file plan_read has supplied ready
    with_next taken place_in renumbered no_cycle drawn_file drawn_read place_fault replace_gate_fault append_gate_fault replace_output_fault gate_replaced gate_appended
    output_replaced
edit_figures-hold = passes-holds edit_figures refl
