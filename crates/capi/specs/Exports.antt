-- The exports' structs in the documents' numbers and values.
use Rattle.elements.specs.Elements.{CountOutcome, SheetOutcome}
use Rattle.plan_reading.specs.PlanFile.{ReadOutcome}
use Rattle.plan_drawn.specs.DrawnFile.{DrawnOutcome}
use Rattle.plan_edits.specs.Edits.{EditOutcome}
use Rattle.plan_saving.specs.Saving.{SaveOutcome}
use Rattle.capi.specs.declared.Counted.{Counted}
use Rattle.capi.specs.declared.Drawn.{Drawn}
use Rattle.capi.specs.declared.Edit.{Edit}
use Rattle.capi.specs.declared.FabricSheet.{FabricSheet}
use Rattle.capi.specs.declared.Read.{Read}
use Rattle.capi.specs.declared.Saved.{Saved}

abbrev pub export_outcome : Read → ReadOutcome
export_outcome r = record { number = r.number; at = r.at; plan = r.plan }

-- what the header's struct mkd_drawn says
abbrev pub export_drawn : Drawn → DrawnOutcome
export_drawn r = record { number = r.number; at = r.at; plan = r.plan; drawn = r.drawn }

-- what the header's struct mkd_edit says
abbrev pub export_edit : Edit → EditOutcome
export_edit r = record { number = r.number; plan = r.plan }

-- what the header's struct mkd_saved says
abbrev pub export_saved : Saved → SaveOutcome
export_saved r = record { number = r.number; file_length = r.length }

-- what the header's struct mkd_counts says
abbrev pub counts_of : Counted → CountOutcome
counts_of r = record { number = r.number; rows = r.rows; wires = r.wires; bits = r.bits }

-- what the header's struct mkd_sheet says
abbrev pub export_sheet : FabricSheet → SheetOutcome
export_sheet r = record { number = r.number; sheet = record { input = r.input; block = r.block; output = r.output; sum = r.sum } }
