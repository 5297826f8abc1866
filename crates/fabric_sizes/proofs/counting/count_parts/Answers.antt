-- The parts' counts added up.
use Rattle.fabric_sizes.proofs.CountingLaws.{fabric_counts}
use Rattle.fabric_sizes.proofs.counting.count_parts.Goals as goal

pub returns : goal.returns
returns c =
    let parts = fabric_counts _ _ _ c.requires c.selection_counts-pins.ensures c.count_universal-universal.ensures c.selection_counts-outputs.ensures in
    rw (c.from-inputs.ensures) (rw (c.from-inputs.ensures, c.from.ensures) at parts)
