-- The first P, the chain, the second P, each behind the one before.
use Rattle.block_selection_rows.proofs.BlockLaws.{first-network-passes, chain-room, second-passes, block_rows_written, block-wires-written}
use Rattle.block_selection_rows.proofs.block.write_block.Goals as goal

pub write_network-requires-clause-passes : goal.write_network-requires-clause-passes
write_network-requires-clause-passes c =
    let a = c.args in
    let parts = c.selection_parts-chain in
    first-network-passes a.next.0 parts.result a.rows.now a.from.now a.to.now c.requires parts.ensures

pub write_chain-requires : goal.write_chain-requires
write_chain-requires c =
    let a = c.args in
    let parts = c.selection_parts-chain in
    let one = c.write_network in
    chain-room a.next.0 parts.result a.rows.now a.from.now a.to.now c.requires parts.ensures one.new.rows one.new.to one.ensures.rows_after one.ensures.to_after

pub write_network-requires-2-clause-passes : goal.write_network-requires-2-clause-passes
write_network-requires-2-clause-passes c =
    let a = c.args in
    let parts = c.selection_parts-chain in
    let one = c.write_network in
    let chain = c.write_chain in
    second-passes a.next.0 parts.result a.rows.now a.from.now a.to.now c.requires parts.ensures one.new.rows one.new.to one.ensures.rows_after one.ensures.to_after
    chain.new.rows chain.new.from chain.ensures.rows_after chain.ensures.from_after

pub returns-clause-rows_after : goal.returns-clause-rows_after
returns-clause-rows_after c =
    let a = c.args in
    let parts = c.selection_parts-chain in
    let one = c.write_network in
    let chain = c.write_chain in
    let two = c.write_network-2 in
    block_rows_written a.next.0 parts.result a.rows.now a.from.now a.to.now c.requires parts.ensures one.new.rows one.new.to one.ensures.rows_after one.ensures.to_after
    chain.new.rows chain.new.from chain.ensures.rows_after chain.ensures.from_after two.new.rows two.new.to two.ensures.rows_after two.ensures.to_after

pub returns-clause-to_after : goal.returns-clause-to_after
returns-clause-to_after c =
    let a = c.args in
    let parts = c.selection_parts-chain in
    let one = c.write_network in
    let chain = c.write_chain in
    let two = c.write_network-2 in
    block-wires-written a.next.0 parts.result a.rows.now a.from.now a.to.now c.requires parts.ensures one.new.rows one.new.to one.ensures.rows_after one.ensures.to_after
    chain.new.rows chain.new.from chain.ensures.rows_after chain.ensures.from_after two.new.rows two.new.to two.ensures.rows_after two.ensures.to_after
