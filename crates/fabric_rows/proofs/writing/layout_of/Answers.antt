-- The parts follow each other.
use Rattle.std.proofs.Common.{refl, ap, ◌+◌, arith}
use Rattle.fabric_sizes.proofs.PartsLaws.{few-places}
use Rattle.fabric_rows.proofs.WritingLaws.{layout_is}
use Rattle.fabric_rows.proofs.writing.layout_of.Goals as goal

-- K is of 16 bits
pub overflow_cast-result : goal.overflow_cast-result
overflow_cast-result c =
    omega (arith, c.gate_places.ensures.is_places, few-places c.args.counts.gates c.args.counts.within.gates)

pub returns : goal.returns
returns c =
    layout_is c.args.counts.within c.pin_counts-pins.ensures c.universal_counts-universal.ensures c.output_counts-outputs.ensures
    c.gate_places.ensures
    (record {
      is_rows = refl;
      pins_are = c.row_place.ensures;
      universal_is = c.row_place-2.ensures;
      outputs_are = c.row_place-3.ensures;
      universal_from = ap (λ n. 1 + n + c.pin_counts-pins.result.wires) c.from.ensures;
      output_from = ap (λ n. 1 + n + c.pin_counts-pins.result.wires + c.universal_counts-universal.result.wires) c.from.ensures;
    })
