-- S's programming routes each output to the input it wants: the first network brings input j to its head, the chain brings what stands at
-- a head to each of its copies' positions, and the second network brings a copy to each output that wants it.
use mathlib.Core.Path.{◌≡◌, refl, sym, ap, ◌∙◌}
use mathlib.Core.Bool.{true, false}
use mathlib.Core.List.{List, ◌++◌, append_assoc}
use Prim.Native.Nat.{ℕ, zero, suc, ◌+◌, ◌-◌, ◌^◌, ◌≤◌, ◌<◌}
use native.Mathlib.Nat.{add-zero, add-suc}
use native.Mathlib.Omega.{arith}
use borrow.Author.Tests.{lt-ltb}
use lib.ListN.{length, get_or, length-append, get_or-append}
use lib.Seq.{drop_at}
use Rattle.lists.proofs.ListsLaws.{length-list_of, get_or-list_of, get_d_any}
use Rattle.lists.specs.Counting.{one_if}
use Rattle.lists.proofs.CountingLaws.{one_lt}
use Rattle.block_elements.specs.Rows.{choose}
use Rattle.block_elements.specs.Bits.{AreBits, pack, unpack}
use Rattle.block_elements.proofs.BitsLaws.{bits-append, bits-list_of, unpack-pack}
use Rattle.block_networks.specs.Permutation.{permutation_count}
use Rattle.block_networks.specs.Wanted.{mapping, taker_of, wanted_bits, wanted_of}
use Rattle.block_networks.specs.Selection.{whole_count, wanting, copies, is_wanted, head_of, is_head, position_of, copy_of}
use Rattle.block_networks.specs.Selection.{first_program, chain_program, second_program, whole_program}
use Rattle.block_networks.specs.Selection.{selection_level, selection_count, Selected, selection_bits}
use Rattle.block_networks.proofs.Sources.{source, chain_source, chain_bits, second_bits, whole_source, selection_source}
use Rattle.block_networks.proofs.Loops.{perm_lt}
use Rattle.block_networks.proofs.Routing.{source-perm, source_programmed, length-permutation_bits, permutation_bits-bits}
use Rattle.block_networks.proofs.Mappings.{wanted_bits_of}
use Rattle.block_networks.proofs.SelectionLaws.{selection-inputs-fit, selection-outputs-fit}
use Rattle.block_networks.proofs.Heads.{copy_lt, own-copy, copy-early, first-perm, second-perm, position_rule, head-here, no_head}

-- ---- any bits

chosen_le : (b x i : ℕ) → x ≤ i → choose b x (suc i) ≤ suc i
unfolding choose
chosen_le zero x i h = omega arith
chosen_le (suc b) x i h = omega arith

pub chain_source_le : (bits : List ℕ) (i : ℕ) → chain_source bits i ≤ i
unfolding chain_source
chain_source_le bits zero = omega arith
chain_source_le bits (suc i) = chosen_le (get_or bits i 0) (chain_source bits i) i (chain_source_le bits i)

whole_source_lt : (level : ℕ) (bits : List ℕ) (o : ℕ) → o < 2 ^ level → whole_source level bits o < 2 ^ level
unfolding whole_source
whole_source_lt level bits o l =
    let x = source level (second_bits level bits) o in
    let small : x < 2 ^ level = perm_lt (source-perm level (second_bits level bits)) o l in
    perm_lt (source-perm level bits) (chain_source (chain_bits level bits) x) (omega (arith, chain_source_le (chain_bits level bits) x))

-- each output takes one of the N inputs
pub selection_source_lt : (m n : ℕ) (bits : List ℕ) (o : ℕ) → o < n → selection_source m n bits o < 2 ^ selection_level m n
unfolding selection_source
selection_source_lt m n bits o l = whole_source_lt (selection_level m n) bits o (omega (arith, selection-outputs-fit m n))

-- ---- the chain

module _ (want : ℕ → ℕ) (n N : ℕ) (fits : n ≤ N) (bits : List ℕ) (reads : (i : ℕ) → suc i < N → get_or bits i 0 ≡ one_if (is_head want n N (suc i))) where
  chain-starts : (p : ℕ) → p < N → is_head want n N p ≡ true → chain_source bits p ≡ p
  unfolding chain_source choose
  chain-starts zero l h = refl
  chain-starts (suc p) l h = rw (reads p l, h)

  chain-goes-on : (p : ℕ) → suc p < N → is_head want n N (suc p) ≡ false → chain_source bits (suc p) ≡ chain_source bits p
  unfolding chain_source choose
  chain-goes-on p l h = rw (reads p l, h)

  -- at the positions of j's copies the chain has what stands at j's head
  chain-copies : (j : ℕ) → j < N → (a : ℕ) → a < copies want n j → chain_source bits (head_of want n j + a) ≡ head_of want n j
  chain-copies j lj zero l =
      rw (add-zero (head_of want n j)) (chain-starts (head_of want n j) (omega (arith, copy_lt want n j 0 l)) (head-here want n N fits j lj l))
  chain-copies j lj (suc a) l =
      let e : head_of want n j + suc a ≡ suc (head_of want n j + a) = add-suc (head_of want n j) a in
      ap (chain_source bits) e
      ∙ chain-goes-on (head_of want n j + a) (omega (arith, copy_lt want n j (suc a) l)) (rw e at (no_head want n N fits j a l))
      ∙ chain-copies j lj a (omega arith)

-- ---- as wanted, where it is programmed

-- the bits by their parts
whole_parts : (level : ℕ) (F C S rest : List ℕ) (o : ℕ) → length F ≡ permutation_count level → length C ≡ 2 ^ level - 1
    → whole_source level ((F ++ (C ++ S)) ++ rest) o
    ≡ source level (F ++ (C ++ (S ++ rest))) (chain_source (C ++ (S ++ rest)) (source level (S ++ rest) o))
unfolding whole_source
whole_parts level F C S rest o hF hC = simp (append_assoc, drop_at)

pub length-whole_program : (want : ℕ → ℕ) (n level : ℕ) → length (whole_program want n level) ≡ whole_count level
unfolding whole_program whole_count
length-whole_program want n level = simp (length-append, length-permutation_bits, length-list_of)

pub length-chain_program : (want : ℕ → ℕ) (n level : ℕ) → length (chain_program want n level) ≡ 2 ^ level - 1
length-chain_program want n level = length-list_of (2 ^ level - 1) _

-- bit i is that of the Y at position i + 1
pub chain_program-at : (want : ℕ → ℕ) (n level i : ℕ) → suc i < 2 ^ level
    → get_or (chain_program want n level) i 0 ≡ one_if (is_head want n (2 ^ level) (suc i))
chain_program-at want n level i l = get_or-list_of (2 ^ level - 1) _ i 0 (omega arith)

module _ (want : ℕ → ℕ) (n level : ℕ) (fits : n ≤ 2 ^ level) where
  -- whatever bits come after
  chain-reads : (rest : List ℕ) (i : ℕ) → suc i < 2 ^ level
      → get_or (chain_program want n level ++ rest) i 0 ≡ one_if (is_head want n (2 ^ level) (suc i))
  chain-reads rest i l =
      get_or-append (chain_program want n level) rest 0 i (rw (length-chain_program want n level) (omega arith))
      ∙ chain_program-at want n level i l

  pub whole_program-bits : AreBits (whole_program want n level)
  unfolding whole_program
  whole_program-bits =
      bits-append (permutation_bits-bits level (first-perm want n (2 ^ level) fits))
      (bits-append (bits-list_of (2 ^ level - 1) (λ i. one_lt (is_head want n (2 ^ level) (suc i))))
      (permutation_bits-bits level (second-perm want n (2 ^ level) fits)))

  -- programmed, output o takes the input it wants, whatever bits come after
  pub whole_programmed : (rest : List ℕ) (o : ℕ) → o < n → want o < 2 ^ level → whole_source level (whole_program want n level ++ rest) o ≡ want o
  unfolding whole_program
  whole_programmed rest o l lw =
      let N = 2 ^ level in
      let j = want o in
      let F = first_program want n level in
      let C = chain_program want n level in
      let S = second_program want n level in
      let first = first-perm want n N fits in
      let own = own-copy want n o l in
      let wanted : is_wanted want n j ≡ true = lt-ltb 0 (copies want n j) (omega arith) in
      let after : List ℕ = C ++ (S ++ rest) in
      let second = source_programmed level (second-perm want n N fits) rest o ∙ copy-early want n o l in
      let chain = chain-copies want n N fits after (chain-reads (S ++ rest)) j lw (wanting want o j) own in
      whole_parts level F C S rest o (length-permutation_bits level _ _) (length-chain_program want n level)
      ∙ ap (λ x. source level (F ++ after) (chain_source after x)) second
      ∙ ap (source level (F ++ after)) chain
      ∙ source_programmed level first after (head_of want n j)
      ∙ ap (taker_of N (position_of want n N)) (sym ((position_rule want n N fits).given j lw wanted))
      ∙ first.fro j

-- ---- a wanted list

module _ {m n : ℕ} {wanted : List ℕ} (W : Selected m n wanted) where
  -- wanted inputs count from 1
  pub selected-at : (o : ℕ) → o < n → suc (mapping wanted o) ≡ get_or wanted o 0
  unfolding mapping
  selected-at o l =
      let e : get_or wanted o (suc o) ≡ get_or wanted o 0 = get_d_any wanted o (suc o) 0 (rw W.size l) in
      omega (arith, W.low o l)

  pub selected_lt : (o : ℕ) → o < n → mapping wanted o < m
  selected_lt o l = omega (arith, selected-at o l, W.high o l)

  -- programmed for the list, output o takes the input it wants, whatever bits come after
  pub selection_programmed : (rest : List ℕ) (o : ℕ) → o < n → selection_source m n (selection_bits m n wanted ++ rest) o ≡ mapping wanted o
  unfolding selection_source selection_bits
  selection_programmed rest o l =
      let level : ℕ = selection_level m n in
      whole_programmed (mapping wanted) n level (selection-outputs-fit m n) rest o l (omega (arith, selected_lt o l, selection-inputs-fit m n))

module _ (m n : ℕ) (wanted : List ℕ) where
  -- each P is programmed for the list of its wanted inputs
  pub selection_by_lists : let level : ℕ = selection_level m n in
      let want : ℕ → ℕ = mapping wanted in
      selection_bits m n wanted
      ≡ wanted_bits level (wanted_of (2 ^ level) (taker_of (2 ^ level) (position_of want n (2 ^ level))))
      ++ (chain_program want n level ++ wanted_bits level (wanted_of (2 ^ level) (copy_of want n)))
  unfolding selection_bits whole_program
  selection_by_lists =
      let level : ℕ = selection_level m n in
      let P = first-perm (mapping wanted) n (2 ^ level) (selection-outputs-fit m n) in
      let Q = second-perm (mapping wanted) n (2 ^ level) (selection-outputs-fit m n) in
      rw (wanted_bits_of level P, wanted_bits_of level Q)

  pub length-selection_bits : length (selection_bits m n wanted) ≡ selection_count m n
  unfolding selection_bits selection_count
  length-selection_bits = length-whole_program (mapping wanted) n (selection_level m n)

  pub selection_bits-bits : AreBits (selection_bits m n wanted)
  unfolding selection_bits
  selection_bits-bits = whole_program-bits (mapping wanted) n (selection_level m n) (selection-outputs-fit m n)

  -- a program holds them
  pub unpack-selection : unpack (selection_count m n) (pack (selection_bits m n wanted)) ≡ selection_bits m n wanted
  unpack-selection = rw (← length-selection_bits) (unpack-pack (selection_bits m n wanted) selection_bits-bits)
