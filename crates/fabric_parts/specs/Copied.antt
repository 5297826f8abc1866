-- Output wires from a place of the table on.
use Rattle.std.specs.Prelude.{ℕ, cond, List, ◌++◌, eqb, length, take, drop}
use Rattle.fault.specs.Buffers.{over}
use Rattle.blocks.specs.Elements.{flat}
use Rattle.blocks.specs.Networks.{selection_rows, selection_outs}
use Rattle.blocks.specs.Calls.{selection_write_fault}
use Rattle.plan.specs.Record.{max_outputs}

-- a list with the wires of another from the place `end` on, as far as it has them
unfoldable pub copied_at : ℕ → List ℕ → List ℕ → List ℕ
copied_at end from to = take end to ++ over (take (length (drop end to)) from) (drop end to)

-- a part of the table after S(gates, v) on the first wires of `outs`: its rows in front and its output wires from the place `end` on, or as it
-- was where S refuses
abbrev pub outputs_put : ℕ → ℕ → ℕ → ℕ → List ℕ → List ℕ → List ℕ
outputs_put gates v end next outs rows =
    cond (eqb (selection_write_fault gates v (take gates outs) next (length rows) max_outputs) 0)
    (copied_at end (selection_outs gates v (take gates outs) next) (over (flat (selection_rows gates v (take gates outs) next)) rows)) rows
