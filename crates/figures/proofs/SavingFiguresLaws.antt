-- Every figure of saving is as stated: the test is computed.
use mathlib.Core.Path.{refl}
use Rattle.fault.specs.Checks.{first_of, room_fault}
use Rattle.plan.specs.Rules.{count_allowed, operand_allowed, table_allowed, source_allowed}
use Rattle.plan.specs.Faults.{counts_fault, gate_fault, output_fault, plan_fault, figures_fault}
use Rattle.plan_files.specs.Encoding.{joined_bytes, encode}
use Rattle.plan_saving.specs.Saving.{map_byte_of, fields_needed, plan_save}
use Rattle.lists.specs.Lists.{list_of}
use Rattle.lists.specs.Counting.{count_of}
use Rattle.powers.specs.Powers.{first_fit, ceil_log, ceil_power}
use Rattle.plan.specs.Record.{uses_of}
use Rattle.figures.specs.Figure.{Holds}
use Rattle.figures.specs.SavingFigures.{saves, save_refuses, saving_figures}
use Rattle.figures.proofs.FigureLaws.{passes, passes-holds}

-- the claim
pub saving_figures-hold : Holds saving_figures
unfolding saving_figures passes saves save_refuses plan_save plan_fault counts_fault gate_fault output_fault count_allowed operand_allowed table_allowed source_allowed
    first_of room_fault encode joined_bytes map_byte_of fields_needed list_of count_of first_fit ceil_log ceil_power uses_of figures_fault
saving_figures-hold = passes-holds saving_figures refl
