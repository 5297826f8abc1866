-- Every figure of a plan's series is as stated: the test is computed.
use mathlib.Core.Path.{refl}
use Rattle.lists.specs.Lists.{list_of}
use Rattle.fault.specs.Checks.{first_of, room_fault}
use Rattle.series.specs.Series.{state_after, series_rows}
use Rattle.plan.specs.Rules.{count_allowed, operand_allowed, table_allowed, source_allowed}
use Rattle.plan.specs.Faults.{counts_fault, gate_fault, output_fault, plan_fault, figures_fault}
use Rattle.plan_evaluation_checks.specs.EvaluationChecks.{contact_fault}
use Rattle.plan_series_checks.specs.SeriesChecks.{hold_fault, series_fault}
use Rattle.plan_evaluation.specs.Evaluation.{plan_wires, table_bit}
use Rattle.lists.specs.Counting.{count_of}
use Rattle.powers.specs.Powers.{first_fit, ceil_log, ceil_power}
use Rattle.plan.specs.Record.{uses_of}
use Rattle.figures.specs.Figure.{Holds}
use Rattle.figures.specs.SeriesFigures.{gives, series_refuses, series_figures}
use Rattle.figures.proofs.FigureLaws.{passes, passes-holds}

-- the claim
pub series_figures-hold : Holds series_figures
unfolding series_figures passes gives series_refuses plan_fault counts_fault gate_fault output_fault count_allowed operand_allowed table_allowed source_allowed
    first_of room_fault contact_fault hold_fault series_fault state_after series_rows plan_wires table_bit list_of count_of first_fit ceil_log ceil_power uses_of figures_fault
series_figures-hold = passes-holds series_figures refl
