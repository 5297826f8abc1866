-- What is told for k stands in the list at k + 1.
use mathlib.Core.Path.{◌≡◌, ap, ◌∙◌}
use mathlib.Core.List.{List}
use Prim.Native.Nat.{ℕ, ◌+◌, ◌-◌, ◌<◌}
use native.Mathlib.Omega.{arith}
use lib.ListN.{length, get_or, take, drop, length-drop}
use lib.Seq.{get_or-drop, take_all}
use Rattle.lists.specs.Lists.{list_of}
use Rattle.lists.specs.Counting.{one_if}
use Rattle.lists.proofs.ListsLaws.{list_of_ext}
use Rattle.block_elements.specs.Bits.{store_bits}
use Rattle.block_selection_bits.specs.Arrays.{is_counted, chain_bit_by, chain_bits_by}
use Rattle.block_selection_bits.proofs.program.store_chain.Goals as goal

pub returns : goal.returns
returns c =
    let a = c.args in
    let list = a.list.now in
    let bit = λ (input : ℕ). one_if (is_counted a.counts.now (input - 1)) in
    let bits = λ (l : List ℕ). list_of (length l) (λ k. bit (get_or l k 0)) in
    let size = length-drop 1 list in
    let behind = take_all (length list - 1) (drop 1 list) (omega arith) in
    let told = λ (k : ℕ). bit (get_or (drop 1 list) k 0) in
    let at = λ (k : ℕ) (l : k < length list - 1).
    let next : 1 + k ≡ k + 1 = omega arith in
    ap bit (get_or-drop 1 list k 0 ∙ ap (λ i. get_or list i 0) next) in
    let same : bits (drop 1 list) ≡ chain_bits_by a.counts.now list
    = ap (λ n. list_of n told) size ∙ list_of_ext (length list - 1) told (chain_bit_by a.counts.now list) at in
    c.store_bits_by.ensures ∙ ap (store_bits a.program.now a.start) (ap bits behind ∙ same)
