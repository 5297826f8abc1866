use Rattle.fabric_sizes.proofs.parts.output_counts.Goals as goal

pub returns : goal.returns
returns c = rw (c.from.ensures, c.gate_places.ensures.is_places) at c.selection_counts.ensures
