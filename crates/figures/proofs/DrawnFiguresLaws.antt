-- Every figure of drawn reading is as stated: the test is computed.
use mathlib.Core.Path.{refl}
use Rattle.lists.specs.Lists.{list_of}
use Rattle.lists.specs.Counting.{count_of, nth_of}
use Rattle.plan_order.specs.Order.{has, supplied, ready, with_next, taken}
use Rattle.plan_order.specs.Drawing.{place_in, renumbered}
use Rattle.powers.specs.Powers.{first_fit, ceil_log, ceil_power}
use Rattle.plan.specs.Record.{uses_of}
use Rattle.figures.specs.Figure.{Holds}
use Rattle.figures.specs.DrawnFigures.{draws, drawn_refuses, drawn_figures}
use Rattle.figures.proofs.FigureLaws.{passes, passes-holds}

-- the claim
pub drawn_figures-hold : Holds drawn_figures
unfolding drawn_figures passes draws drawn_refuses list_of count_of nth_of has supplied ready with_next taken place_in renumbered first_fit ceil_log ceil_power uses_of
drawn_figures-hold = passes-holds drawn_figures refl
