-- The parts of the program. Where the counts are those of the wanted inputs, heads and positions by counts are the network's own, and a
-- position is a head exactly if the input there is a wanted one.
use mathlib.Core.Path.{◌≡◌, refl, sym, ap, ap₂, ◌∙◌, fun_ext}
use mathlib.Core.Logic.{◌⊎◌, inl, inr}
use mathlib.Core.Bool.{Bool, true, false}
use mathlib.Core.List.{List, ◌++◌}
use Prim.Native.Nat.{ℕ, zero, suc, ◌+◌, ◌-◌, ◌^◌, ◌≤◌, ◌<◌}
use native.Mathlib.Numerals.{add-one}
use native.Mathlib.Omega.{arith}
use lib.Dec.{ltb}
use lib.ListN.{length, get_or}
use Rattle.lists.specs.Lists.{list_of}
use Rattle.lists.proofs.ListsLaws.{length-list_of, get_or-list_of, list_of_ext}
use Rattle.lists.specs.Counting.{one_if}
use Rattle.lists.proofs.CountingLaws.{passed}
use Rattle.std.specs.Prelude.{Result, Ok, Err, IsOk}
use Rattle.fault.specs.declared.Fault.{Fault}
use Rattle.fault.specs.Number.{answer_number}
use Rattle.fault.proofs.ChecksLaws.{number-positive}
use Rattle.powers.specs.Powers.{ceil_log}
use Rattle.powers.proofs.PowersLaws.{ceil_log-power}
use Rattle.block_elements.specs.Bits.{store_bits, bits_held}
use Rattle.block_elements.proofs.BitsLaws.{store_bits-append}
use Rattle.block_networks.specs.Permutation.{permutation_count, Perm}
use Rattle.block_networks.specs.Wanted.{mapping, taker_of, wanted_bits, wanted_of}
use Rattle.block_networks.proofs.WantedLaws.{length-wanted_bits}
use Rattle.block_networks.proofs.Loops.{perm_lt}
use Rattle.block_networks.proofs.Mappings.{wanted_of-names}
use Rattle.block_networks.specs.Completion.{completed, RisingCompletion}
use Rattle.block_networks.proofs.CompletionLaws.{taken_here, taken_nowhere}
use Rattle.block_networks.specs.Selection.{copies, is_wanted, head_of, is_head, position_of, copy_of, chain_program, whole_count, selection_level, selection_count, selection_bits}
use Rattle.block_networks.proofs.SelectionLaws.{selection-inputs-fit, selection-outputs-fit}
use Rattle.block_networks.proofs.SelectionRouting.{selected_lt, selection_by_lists}
use Rattle.block_networks.proofs.Heads.{head_le, first-perm, second-perm, position_rule}
use Rattle.block_sizes.specs.Sizes.{level_of, SizeIs}
use Rattle.block_sizes.proofs.SizesLaws.{size_is, power-allowed, selection-level-small}
use Rattle.block_program_checks.proofs.ChecksLaws.{program-at_succeeds}
use Rattle.block_program_checks.specs.Checks.{program_at_fault, SelectionPasses}
use Rattle.block_permutation_bits.specs.ProgramCalls.{program_at_result}
use Rattle.block_permutation_bits.proofs.ProgramLaws.{program-stored}
use Rattle.block_selection_bits.specs.Arrays.{Demand, PlacesHold, is_counted, head_by, HeadsFit, position_by, Positioned, NetworkRoom, NextCopies}
use Rattle.block_selection_bits.specs.Arrays.{network_bits, chain_bit_by, chain_bits_by}
use Rattle.block_selection_bits.proofs.CopiesLaws.{copies-none}

-- ---- heads

module _ (want : ℕ → ℕ) (n N : ℕ) (fits : n ≤ N) where
  -- the input at a position is a wanted one exactly if the position is a head
  wanted-at-head : (p : ℕ) → p < N → is_wanted want n (taker_of N (position_of want n N) p) ≡ is_head want n N p
  wanted-at-head p l = go (passed (is_wanted want n x))
    where
      x : ℕ
      x = taker_of N (position_of want n N) p

      there : position_of want n N x ≡ p
      there = (first-perm want n N fits).to p

      low : x < N
      low = perm_lt (first-perm want n N fits) p l

      go : (is_wanted want n x ≡ true) ⊎ (is_wanted want n x ≡ false) → is_wanted want n x ≡ is_head want n N p
      go (inl e) =
          e ∙ sym (taken_here (is_wanted want n) (head_of want n) N p x low e (sym ((position_rule want n N fits).given x low e) ∙ there))
      go (inr e) =
          e ∙ sym (taken_nowhere (is_wanted want n) (head_of want n) N p
          (λ y m h q. ((position_rule want n N fits).to-left x low e).other y m h (q ∙ sym there)))

-- ---- positions by counts

-- a completion for an equal test and equal places
same_completion : (N : ℕ) {has has' : ℕ → Bool} {f f' : ℕ → ℕ} → has ≡ has' → f ≡ f'
    → (Perm N (taker_of N (completed N has' f')) (completed N has' f')) × RisingCompletion N has' f' (completed N has' f')
    → (Perm N (taker_of N (completed N has f)) (completed N has f)) × RisingCompletion N has f (completed N has f)
same_completion N p q h = rw (p, q) h

module _ (want : ℕ → ℕ) (n : ℕ) {counts : List ℕ} (H : PlacesHold (copies want n) counts) where
  counted-wanted : is_counted counts ≡ is_wanted want n
  counted-wanted = fun_ext (λ j. ap (ltb 0) (H.each j))

  head-is : (j : ℕ) → head_by counts j ≡ head_of want n j
  unfolding head_by head_of
  head-is zero = refl
  head-is (suc j) = ap₂ ◌+◌ (head-is j) (H.each j)

  pub heads_fit : {N : ℕ} → n ≤ N → HeadsFit N counts
  heads_fit few = record { each = λ j. omega (arith, head-is j, head_le want n j) }

  pub positioned : (N : ℕ) → n ≤ N → Positioned N counts
  positioned N fits =
      let h = same_completion N counted-wanted (fun_ext head-is) (first-perm want n N fits, position_rule want n N fits) in
      record { once = h.0; rule = h.1 }

  positions_are : (N : ℕ) → position_by counts N ≡ position_of want n N
  positions_are N = ap₂ (completed N) counted-wanted (fun_ext head-is)

-- ---- a network

-- P's checks pass for a list that names each of its inputs once
network-passes : {list : List ℕ} {start room : ℕ} → NetworkRoom list start room → program_at_fault (length list) list start room ≡ 0
network-passes {list} {start} {room} R =
    let p = R.size.power in
    let level : ℕ = level_of (length list) in
    rw p at (program-at_succeeds level {wanted = list} start room R.size.level (rw p R.names) (rw p R.fits))

-- so that its call succeeds, and stores the bits
pub network-done : {A : Type 0} {list : List ℕ} {start room : ℕ} (r : Result A Fault) → NetworkRoom list start room
    → answer_number r ≡ program_at_fault (length list) list start room → IsOk r
network-done (Ok x) R e = refl
network-done (Err f) R e = absurd (omega (arith, number-positive f, e, network-passes R))

pub network-stored : {list : List ℕ} {start : ℕ} (program : List ℕ) → NetworkRoom list start (length program)
    → program_at_result (length list) list start program ≡ store_bits program start (network_bits list)
network-stored {list} {start} program R = (program-stored (length list) list start program (network-passes R)).1

-- the list of a one-to-one mapping
module _ {N : ℕ} {π ρ : ℕ → ℕ} (P : Perm N π ρ) {list : List ℕ} (e : list ≡ wanted_of N π) where
  pub network-room : SizeIs N → (start room : ℕ) → start + permutation_count (level_of N) ≤ bits_held room → NetworkRoom list start room
  network-room S start room fits =
      let l : length list ≡ N = ap length e ∙ length-list_of N _ in
      record { size = rw l S; names = rw (l, e) (wanted_of-names P); fits = rw l fits }

  pub network-bits : network_bits list ≡ wanted_bits (level_of N) (wanted_of N π)
  network-bits = rw (e, length-list_of N (λ o. suc (π o)))

-- ---- where the checks pass. The block has N positions

module _ {m n : ℕ} {wanted : List ℕ} {start room : ℕ} (P : SelectionPasses m n wanted start room) {N : ℕ} (e : N ≡ 2 ^ selection_level m n) where
  pub size-allowed : SizeIs N
  size-allowed = rw e (size_is _ (power-allowed (selection_level m n) (selection-level-small P.sizes)))

  pub demand : Demand N wanted
  demand =
      let W = P.selected in
      let size = W.size in
      record {
        inputs = record {
          size = refl;
          low = λ o l. W.low o (rw (← size) l);
          high = λ o l. omega (arith, W.high o (rw (← size) l), selection-inputs-fit m n);
        };
        few = omega (arith, selection-outputs-fit m n);
        most = size-allowed.most;
      }

  level-is : level_of N ≡ selection_level m n
  level-is = ap ceil_log e ∙ ceil_log-power (selection_level m n)

  -- the first network's rows, the chain's and the second network's
  count_by_parts : permutation_count (level_of N) + (N - 1 + permutation_count (level_of N)) ≡ selection_count m n
  unfolding selection_count whole_count
  count_by_parts = rw (level-is, e)

  module _ {counts : List ℕ} (H : PlacesHold (copies (mapping wanted) (length wanted)) counts) where
    abbrev want : ℕ → ℕ
    want = mapping wanted

    abbrev k : ℕ
    k = length wanted

    -- the heads are the positions of the first copies
    pub headed : {heads : List ℕ} → heads ≡ list_of N (head_by counts) → NextCopies wanted 0 heads
    headed h = copies-none wanted (λ x l.
        ap (λ a. get_or a (mapping wanted x) 0) h ∙ get_or-list_of N (head_by counts) (mapping wanted x) 0 (selected_lt demand.inputs x l)
        ∙ head-is want k H (mapping wanted x))

    -- the list of the inputs of the first network's positions
    module _ {list : List ℕ} (h : list ≡ wanted_of N (taker_of N (position_by counts N))) where
      listed : list ≡ wanted_of N (taker_of N (position_of (mapping wanted) (length wanted) N))
      listed = h ∙ ap (λ g. wanted_of N (taker_of N g)) (positions_are want k H N)

      pub first-room : NetworkRoom list start room
      first-room = network-room (first-perm want k N demand.few) listed size-allowed start room (omega (arith, count_by_parts, P.fits))

      -- the input at position p, counted from 1
      listed_at : (p : ℕ) → p < N → get_or list p 0 ≡ suc (taker_of N (position_of want k N) p)
      listed_at p l = ap (λ a. get_or a p 0) listed ∙ get_or-list_of N _ p 0 l

      chain-bit-is : (i : ℕ) → i + 1 < N → is_counted counts (get_or list (i + 1) 0 - 1) ≡ is_head want k N (suc i)
      chain-bit-is i p =
          let x = get_or list (i + 1) 0 - 1 in
          let input : x ≡ taker_of N (position_of want k N) (i + 1) = omega (arith, listed_at (i + 1) p) in
          ap (ltb 0) (H.each x) ∙ ap (is_wanted want k) input ∙ wanted-at-head want k N demand.few (i + 1) p ∙ ap (is_head want k N) (add-one i)

      length-listed : length list ≡ N
      length-listed = ap length h ∙ length-list_of N _

      chain-is : chain_bits_by counts list ≡ chain_program want k (selection_level m n)
      chain-is = rw (length-listed, ← e) (list_of_ext (N - 1) _ _ (λ i l. ap one_if (chain-bit-is i (omega arith))))

      -- the list of the outputs' positions, for the bits behind the first network's and the chain's
      module _ {copies : List ℕ} (c : copies ≡ wanted_of N (copy_of (mapping wanted) (length wanted))) {count size : ℕ} (q : count ≡ permutation_count (level_of N))
          (w : size ≡ N) where
        pub second-room : NetworkRoom copies (start + count + size - 1) room
        second-room =
            network-room (second-perm want k N demand.few) c size-allowed (start + count + size - 1) room (omega (arith, size-allowed.some, count_by_parts, P.fits))

        whole : network_bits list ++ (chain_bits_by counts list ++ network_bits copies) ≡ selection_bits m n wanted
        whole = rw (network-bits (first-perm want k N demand.few) listed, network-bits (second-perm want k N demand.few) c, chain-is, level-is, e, P.selected.size)
            (sym (selection_by_lists m n wanted))

        pub stored-whole : (program : List ℕ) {a b l : List ℕ} → a ≡ store_bits program start (network_bits list)
            → b ≡ store_bits a (start + count) (chain_bits_by counts list) → l ≡ store_bits b (start + count + size - 1) (network_bits copies)
            → l ≡ store_bits program start (selection_bits m n wanted)
        stored-whole program p r s =
            let A = network_bits list in
            let B = chain_bits_by counts list in
            let C = network_bits copies in
            let la : length A ≡ count = length-wanted_bits (level_of (length list)) list ∙ ap (λ x. permutation_count (level_of x)) length-listed ∙ sym q in
            let lb : start + count + size - 1 ≡ start + count + length B = omega (arith, length-list_of (length list - 1) (chain_bit_by counts list), length-listed, size-allowed.some) in
            s ∙ rw (r, p, lb, ← la)
            (sym (store_bits-append (store_bits program start A) (start + length A) B C) ∙ sym (store_bits-append program start A (B ++ C)) ∙ ap (store_bits program start) whole)
