-- The fabric is counted from K.
use Rattle.fabric_sizes.proofs.PartsLaws.{own-places}
use Rattle.fabric_sizes.proofs.CountingLaws.{same-counts}
use Rattle.fabric_sizes.proofs.counting.fabric_counts.Goals as goal

pub count_parts-requires : goal.count_parts-requires
count_parts-requires c = own-places c.gate_places.ensures

pub returns : goal.returns
returns c = same-counts _ _ c.gate_places.ensures c.count_parts.ensures
