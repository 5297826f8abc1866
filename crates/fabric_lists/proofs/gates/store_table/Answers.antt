-- The table's bits are those of its lowest byte.
use Rattle.std.proofs.Common.{ap, ◌∙◌}
use Rattle.blocks.specs.Elements.{store_bits}
use Rattle.fabric_lists.proofs.GateListsLaws.{table-byte}
use Rattle.fabric_lists.proofs.gates.store_table.Goals as goal

pub returns : goal.returns
returns c =
    let a = c.args in
    c.store_field.ensures ∙ ap (store_bits a.program.now a.start) (table-byte a.table)
