use Rattle.fabric_sizes.proofs.PartsLaws.{places-level, own-places}
use Rattle.fabric_sizes.proofs.parts.universal_counts.Goals as goal

pub count_universal-requires : goal.count_universal-requires
count_universal-requires c = own-places c.gate_places.ensures

pub returns : goal.returns
returns c = rw (places-level c.gate_places.ensures) at c.count_universal.ensures
