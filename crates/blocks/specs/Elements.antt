-- The common vocabulary, open: rows, their entries and their run; program bits; rows and wires in lent buffers.
pub use Rattle.block_elements.specs.Bits.{AreBits, bit_of, bits_held, bytes_for}
unfoldable pub use Rattle.block_elements.specs.Bits.{bit_at, pack, store_bits, unpack}
unfoldable pub use Rattle.block_bits.specs.Stores.{field_bits, number_of}
pub use Rattle.block_elements.specs.Rows.{Delivered, Gate, InFamily, MadeBefore, Row, State, Totals, X, Y, gate_bits, made_more, made_none, on, operands, stride, table_bits}
unfoldable pub use Rattle.block_elements.specs.Rows.{choose, entries, flat, gate_on_bits, gates_in, inputs_of, line_of, makes, outputs, row_of, run, step, takes, total}
unfoldable pub use Rattle.block_rows.specs.Rows.{pair_rows, row_put, rows_put}
unfoldable pub use Rattle.block_rows.specs.Wires.{wires_put}
