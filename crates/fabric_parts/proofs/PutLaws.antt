-- What a done call copies: the first of its output wires, from a place on that is clamped to the length of the table's part.
use mathlib.Core.Path.{◌≡◌, sym, ap, ap₂, ◌∙◌}
use mathlib.Core.Bool.{cond}
use mathlib.Core.List.{List, ◌++◌}
use Prim.Native.Nat.{ℕ, min}
use lib.Dec.{eqb}
use lib.ListN.{length, take, drop, replicate}
use lib.Seq.{take_at}
use Rattle.fault.specs.Buffers.{over, part_of, with_part}
use Rattle.fault.proofs.BuffersLaws.{filled-done}
use Rattle.blocks.specs.Elements.{flat}
use Rattle.blocks.proofs.ElementsLaws.{take_within, part-within, with_within}
use Rattle.blocks.specs.Networks.{selection_rows, selection_outs}
use Rattle.blocks.proofs.NetworksLaws.{length-selection_outs}
use Rattle.blocks.specs.Calls.{selection_write_fault, selection_written_rows, selection_written_outputs}
use Rattle.plan.specs.Record.{max_outputs}
use Rattle.fabric_parts.specs.Copied.{copied_at, outputs_put}

-- S(gates, v) on the first wires of `outs` was done: it left R of the table's part R₀, and L of the list of output wires; F is what was lent of
-- the part's entries from `place` on
module _ (gates v end next : ℕ) (outs R₀ : List ℕ) where
  abbrev fault : ℕ
  fault = selection_write_fault gates v (take gates outs) next (length R₀) max_outputs

  abbrev wires : List ℕ
  wires = selection_outs gates v (take gates outs) next

  abbrev none : List ℕ
  none = replicate max_outputs 0

  pub outputs_copied : {place count : ℕ} {R L F : List ℕ} → 0 ≡ fault → R ≡ selection_written_rows gates v (take gates outs) next R₀ none
      → L ≡ selection_written_outputs gates v (take gates outs) next R₀ none → length L ≡ max_outputs → place ≡ min end (length R)
      → count ≡ min v max_outputs → F ≡ over (take (length (part_of place R)) (take count L)) (part_of place R)
      → with_part place R F ≡ outputs_put gates v end next outs R₀
  unfolding copied_at
  outputs_copied {count = count} {R = R} {L = L} z rows put all at many e =
      let made : List ℕ = flat (selection_rows gates v (take gates outs) next) in
      let front : take count L ≡ wires =
      ap (λ k. take k L) (many ∙ ap (min v) (sym all))
      ∙ take_within v L
      ∙ ap (take v) (put ∙ sym (filled-done fault wires none z))
      ∙ take_at wires (drop (length wires) none) v (length-selection_outs gates v (take gates outs) next) in
      with_within end R at _
      ∙ ap (λ (p : List ℕ). take end R ++ p) (e ∙ ap₂ (λ p from. over (take (length p) from) p) (part-within end R at) front)
      ∙ ap (copied_at end wires) (rows ∙ sym (filled-done fault made R₀ z))
      ∙ ap (λ n. cond (eqb n 0) (copied_at end wires (over made R₀)) R₀) z
