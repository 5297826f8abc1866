-- the sides by the inverse of the mapping; what the level's parts leave is what the level leaves
use mathlib.Core.Path.{◌≡◌, refl, sym, ap, ◌∙◌}
use mathlib.Core.List.{List}
use Prim.Native.Nat.{ℕ, ◌/◌}
use lib.ListN.{length}
use Rattle.block_loops.specs.Mappings.{inverse_list, row_sides}
use Rattle.block_loops.proofs.MappingsLaws.{paired, bits-take, rows-bits, levelled}
use Rattle.block_permutation_bits.proofs.level.program_level.Goals as goal

sides_by : (p : List ℕ) {q w : List ℕ} → q ≡ inverse_list p → w ≡ row_sides p q → w ≡ row_sides p (inverse_list p)
sides_by p e s = s ∙ ap (row_sides p) e

pub invariant_of-loops-clause-paired : goal.invariant_of-loops-clause-paired
invariant_of-loops-clause-paired c =
    let m = c.args.mapping.now in
    rw c.invert.ensures.inverted (paired (length m.inputs.now / 2) (sym c.requires.level_buffers.even) m.one_to_one)

pub half_maps-requires-clause-are_bits : goal.half_maps-requires-clause-are_bits
half_maps-requires-clause-are_bits c =
    rw (sides_by c.args.mapping.now.inputs.now c.invert.ensures.inverted c.mark_sides.ensures) (bits-take _ (rows-bits c.args.mapping.now.one_to_one c.requires.level_buffers.even))

pub returns : goal.returns
returns c =
    let room = c.requires.level_buffers in
    levelled c.args.mapping.now.one_to_one room.even refl (sides_by c.args.mapping.now.inputs.now c.invert.ensures.inverted c.mark_sides.ensures)
    c.store_rows.ensures c.half_maps.ensures
