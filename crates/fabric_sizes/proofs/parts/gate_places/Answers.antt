-- A number of 16 bits has a logarithm of at most 16.
use Rattle.std.proofs.Common.{sym, ap, ◌∙◌, arith}
use Rattle.powers.specs.Powers.{ceil_power}
use Rattle.fabric_universal.proofs.FabricLaws.{gate-places}
use Rattle.fabric_sizes.specs.Parts.{PlacesAre}
use Rattle.fabric_sizes.proofs.PartsLaws.{places_are}
use Rattle.fabric_sizes.proofs.parts.gate_places.Goals as goal

places : (c : goal.After-ceil_power) → PlacesAre c.args.k c.ceil_power.result
places c =
    places_are (omega arith) (c.ceil_power.ensures ∙ ap ceil_power c.from.ensures ∙ sym (gate-places c.args.k))

pub overflow_cast-result : goal.overflow_cast-result
overflow_cast-result c = let p = places c in omega arith

pub returns : goal.returns
returns c = places c
