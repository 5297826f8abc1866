-- Laws of the common vocabulary.
pub use Rattle.block_bits.proofs.StoreLaws.{bytes-filled, store_none, store_step, store_zeroed}
pub use Rattle.block_bits.proofs.FieldLaws.{number_ext}
pub use Rattle.block_bits.proofs.PackingLaws.{field_next, number-all, number_empty, number_more}
pub use Rattle.block_elements.proofs.BitsLaws.{bit_at_lt, bit_at-pack, bits-append, bits-list_of, length-pack, store_bits-append, unpack-at}
pub use Rattle.block_elements.proofs.BitsLaws.{unpack-bits, unpack-pack}
pub use Rattle.block_elements.proofs.RowsLaws.{decode-at, decode-flat, flat_append, gate-totals, length-flat, made_before-append, run-append, run-bits}
pub use Rattle.block_elements.proofs.RowsLaws.{run-gates, run_keeps, run-wires, total-append, totals-append}
pub use Rattle.block_elements.proofs.YRun.{run_y-at, run_y-left, run_y-made, y-list, y-made_before}
pub use Rattle.block_rows.proofs.ClampLaws.{part-is, part-within, take_within, with_within}
pub use Rattle.block_rows.proofs.RowsLaws.{length-flat-pairs, length-pair_rows, rows-put}
pub use Rattle.block_rows.proofs.WiresLaws.{wire_after, wires-put}
