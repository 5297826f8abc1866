-- The arrays' parts have a place for each position, and each part of the program stands behind the parts before it.
use Rattle.std.proofs.Common.{◌≡◌, refl, ℕ, ◌≤◌, List, length, take, replicate, sym, ◌∙◌, arith}
use lib.ListN.{length-replicate}
use lib.Seq.{length-take-le}
use Rattle.block_networks.specs.Wanted.{mapping}
use Rattle.block_sizes.specs.Sizes.{level_of}
use Rattle.block_sizes.proofs.SizesLaws.{few-rows}
use Rattle.block_selection_bits.proofs.PartsLaws.{heads_fit, positioned, size-allowed, demand, headed, first-room, second-room, stored-whole}
use Rattle.block_selection_bits.proofs.program.store_in.Goals as goal

-- an array's part has the block's size
sized : (N size : ℕ) {positions : ℕ} (part : List ℕ) → size ≤ N → size ≡ positions → length part ≡ length {A = ℕ} (take size (replicate N 0)) → length part ≡ positions
sized N size part l e h = h ∙ length-take-le size (replicate N 0) (omega (arith, length-replicate {A = ℕ} N 0)) ∙ e

pub count_wanted-requires-clause-demand : goal.count_wanted-requires-clause-demand
count_wanted-requires-clause-demand g c =
    let size = c.selection_positions-size in
    demand c.requires.selection_passes.0 (sized g.row.N size.result _ (omega arith) size.ensures refl)

pub place_heads-requires-clause-heads_fit : goal.place_heads-requires-clause-heads_fit
place_heads-requires-clause-heads_fit g c =
    let size = c.selection_positions-size in
    let e = sized g.row.N size.result _ (omega arith) size.ensures c.count_wanted.auto.counts in
    let want = mapping c.args.wanted.now in
    heads_fit want (length c.args.wanted.now) c.count_wanted.ensures (demand c.requires.selection_passes.0 e).few

pub place_idle-requires-clause-positioned : goal.place_idle-requires-clause-positioned
place_idle-requires-clause-positioned g c =
    let size = c.selection_positions-size in
    let e = sized g.row.N size.result _ (omega arith) size.ensures c.count_wanted.auto.counts in
    let want = mapping c.args.wanted.now in
    positioned want (length c.args.wanted.now) c.count_wanted.ensures (length c.count_wanted.new.counts) (demand c.requires.selection_passes.0 e).few

pub store_network-requires : goal.store_network-requires
store_network-requires g c =
    let size = c.selection_positions-size in
    let e = sized g.row.N size.result _ (omega arith) size.ensures c.count_wanted.auto.counts in
    first-room c.requires.selection_passes.0 e c.count_wanted.ensures c.place_idle.ensures

pub overflow_add-chain : goal.overflow_add-chain
overflow_add-chain g c =
    let size = c.selection_positions-size in
    omega (arith, c.permutation_count.ensures, few-rows (level_of size.result) (size-allowed c.requires.selection_passes.0 size.ensures).level)

pub store_chain-requires : goal.store_chain-requires
store_chain-requires g c =
    let size = c.selection_positions-size in
    let e = sized g.row.N size.result _ (omega arith) size.ensures c.count_wanted.auto.counts in
    let R = first-room c.requires.selection_passes.0 e c.count_wanted.ensures c.place_idle.ensures in
    (R.names, R.size.some, omega (arith, c.place_idle.auto.list, c.place_heads.auto.list))

pub list_copies-requires-clause-demand : goal.list_copies-requires-clause-demand
list_copies-requires-clause-demand g c =
    let size = c.selection_positions-size in
    (demand c.requires.selection_passes.0 (sized g.row.N size.result _ (omega arith) size.ensures (c.place_idle.auto.list ∙ c.place_heads.auto.list)), omega arith)

pub list_copies-requires-clause-next_copies : goal.list_copies-requires-clause-next_copies
list_copies-requires-clause-next_copies g c =
    let size = c.selection_positions-size in
    let e = sized g.row.N size.result _ (omega arith) size.ensures c.count_wanted.auto.counts in
    headed c.requires.selection_passes.0 e c.count_wanted.ensures c.place_heads.ensures.headed

pub overflow_add-chain-2 : goal.overflow_add-chain-2
overflow_add-chain-2 g c =
    let size = c.selection_positions-size in
    omega (arith, c.permutation_count.ensures, few-rows (level_of size.result) (size-allowed c.requires.selection_passes.0 size.ensures).level)

pub store_network-requires-2 : goal.store_network-requires-2
store_network-requires-2 g c =
    let size = c.selection_positions-size in
    let l : length c.count_wanted.new.counts ≡ size.result = sized g.row.N size.result _ (omega arith) refl c.count_wanted.auto.counts in
    let copies = rw (c.place_idle.auto.list ∙ c.place_heads.auto.list ∙ sym c.count_wanted.auto.counts) at c.list_copies.ensures in
    rw (c.store_chain.auto.program ∙ c.store_network.auto.program)
    (second-room c.requires.selection_passes.0 (l ∙ size.ensures) c.count_wanted.ensures c.place_idle.ensures copies (rw (← l) at c.permutation_count.ensures) (sym l))

pub returns : goal.returns
returns g c =
    let size = c.selection_positions-size in
    let l : length c.count_wanted.new.counts ≡ size.result = sized g.row.N size.result _ (omega arith) refl c.count_wanted.auto.counts in
    let copies = rw (c.place_idle.auto.list ∙ c.place_heads.auto.list ∙ sym c.count_wanted.auto.counts) at c.list_copies.ensures in
    stored-whole c.requires.selection_passes.0 (l ∙ size.ensures) c.count_wanted.ensures c.place_idle.ensures copies (rw (← l) at c.permutation_count.ensures) (sym l)
    c.args.program.now c.store_network.ensures c.store_chain.ensures c.store_network-2.ensures
