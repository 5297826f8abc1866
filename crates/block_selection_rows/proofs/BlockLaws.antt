-- Writing the block of N positions, in the code's order: its parts' rows follow each other in the table, the first P's output wires feed the
-- chain, and the chain's the second P.
use mathlib.Core.Path.{◌≡◌, refl, sym, ap, ap₂, ◌∙◌}
use mathlib.Core.List.{List, ◌++◌, append_assoc}
use Prim.Native.Nat.{ℕ, ◌+◌, ◌-◌, ◌*◌, ◌%◌, ◌^◌, ◌≤◌, ◌<◌}
use native.Mathlib.Decide.{dec_le}
use native.Mathlib.Omega.{arith}
use lib.ListN.{length, length-append}
use borrow.Rule.Slice.PartMut.{mid_len}
use Rattle.lists.proofs.ListsLaws.{list_of-get_or}
use Rattle.std.specs.Prelude.{Result, Ok, Err, IsOk}
use Rattle.fault.specs.declared.Fault.{Fault}
use Rattle.fault.specs.Number.{answer_number}
use Rattle.fault.proofs.ChecksLaws.{number-positive}
use Rattle.fault.specs.Buffers.{over, filled, part_of, with_part}
use Rattle.fault.proofs.PartsLaws.{length_over, over-part}
use Rattle.elements.specs.Elements.{max_wires}
use Rattle.block_elements.specs.Rows.{stride, flat}
use Rattle.block_elements.proofs.RowsLaws.{flat_append}
use Rattle.block_networks.specs.Permutation.{permutation_count, permutation_rows, permutation_outs}
use Rattle.block_networks.specs.Selection.{padded, chain_rows, chain_outs, chain_next, second_next, first_outs, middle_outs, whole_rows, whole_outs, whole_count, whole_wires}
use Rattle.block_networks.proofs.SelectionLaws.{WholeWires, whole-wires}
use Rattle.block_sizes.specs.Sizes.{max_size, max_level, level_of, SizeIs}
use Rattle.block_sizes.proofs.SizesLaws.{few-rows}
use Rattle.block_rows.proofs.WiresLaws.{wire_after}
use Rattle.block_write_checks.specs.WriteChecks.{WritePasses}
use Rattle.block_permutation_rows.proofs.WriteLaws.{length-entries, length-outs}
use Rattle.block_selection_rows.specs.declared.block.SelectionParts.{SelectionParts}
use Rattle.block_selection_rows.specs.Block.{SelectionPartsAt, BlockWires, BlockRoom, ChainRoom}
use Rattle.block_selection_rows.proofs.ChainLaws.{length-chain}

-- ---- wires

-- some of the wires that the block makes
some-made : {N next : ℕ} → BlockWires N next → (k : ℕ) → 1 ≤ k → k ≤ whole_wires (level_of N) → next + k ≤ max_wires
some-made b k some few = omega (arith, b.wires (omega arith))

-- the wire behind them
pub wire_later : {N next : ℕ} → BlockWires N next → next < 2 ^ 32 → (k : ℕ) → k ≤ whole_wires (level_of N) → (next + k) % 2 ^ 32 ≡ next + k
wire_later {next = next} b small k few = wire_after next k (elim (dec_le 1 k) [ yes some ↦ omega (arith, some-made b k some few) | no none ↦ omega arith ])

-- a list of N wires, as it is padded to N
whole-padded : (N : ℕ) (l : List ℕ) → N ≡ length l → padded N l ≡ l
unfolding padded
whole-padded N l e = rw e (list_of-get_or l 0)

-- P's call succeeds where no check fails
pub call-succeeds : {A : Type 0} {n : ℕ} (r : Result A Fault) → answer_number r ≡ n → n ≡ 0 → IsOk r
call-succeeds (Ok x) e z = refl
call-succeeds (Err f) e z = absurd (omega (arith, number-positive f, e, z))

-- a buffer after P's call then
pub filled-over : (n : ℕ) (new old l : List ℕ) → l ≡ filled n new old → n ≡ 0 → l ≡ over new old
filled-over n new old l e z = rw z at e

-- one P has few rows
pub few_of_one : (N : ℕ) → SizeIs N → permutation_count (level_of N) ≤ max_level * max_size
few_of_one N s = few-rows (level_of N) s.level

-- ---- the steps. R, A and T are the table's part, `from` and `to` after each, F the parts of the table that a callee was lent

module _ (next : ℕ) (p : SelectionParts) (R₀ A₀ T₀ : List ℕ) (room : BlockRoom A₀ next (length R₀) (length T₀)) (at : SelectionPartsAt (level_of (length A₀)) next p) where
  abbrev N : ℕ
  N = length A₀

  abbrev level : ℕ
  level = level_of N

  abbrev count : ℕ
  count = permutation_count level

  power : 2 ^ level_of (length A₀) ≡ length A₀
  power = room.made.size.power

  fed : WholeWires (level_of (length A₀)) A₀ next
  fed = whole-wires level A₀ next room.some room.fed

  same : padded (2 ^ level_of (length A₀)) A₀ ≡ A₀
  same = whole-padded (2 ^ level) A₀ power

  pub first-network-passes : WritePasses (length A₀) A₀ next (length R₀) (length T₀)
  unfolding whole_count whole_wires
  first-network-passes = record {
    size = room.made.size;
    inputs = refl;
    made = room.fed;
    wires = λ some. some-made room.made (2 * count) (omega arith) (omega arith);
    row_room = omega (arith, room.row_room);
    output_room = omega (arith, room.to_places);
  }

  -- after the first P
  module _ (R₁ T₁ : List ℕ) (first : R₁ ≡ over (flat (permutation_rows (level_of (length A₀)) A₀ next)) R₀)
      (made : T₁ ≡ permutation_outs (level_of (length A₀)) A₀ next) where
    abbrev s : List ℕ
    s = first_outs level A₀ next

    first-wires : T₁ ≡ first_outs (level_of (length A₀)) A₀ next
    first-wires = made ∙ ap (λ l. permutation_outs level l next) (sym same)

    length-T₁ : length T₁ ≡ length A₀
    length-T₁ = ap length made ∙ length-outs N A₀ next room.made.size refl

    length-R₁ : length R₁ ≡ length R₀
    unfolding whole_count
    length-R₁ = ap length first ∙ length_over (flat (permutation_rows level A₀ next)) R₀ (omega (arith, length-entries N A₀ next, room.row_room))

    pub chain-room : ChainRoom (length T₁) p.chain_next.0 (length (part_of p.chain R₁)) (length A₀)
    unfolding whole_count whole_wires
    chain-room = record {
      link = record {
        some = omega (arith, length-T₁, room.made.size.some);
        most = omega (arith, length-T₁, room.made.size.most);
        wires = λ some. omega (arith, at.chain_from, length-T₁, some-made room.made (2 * count + (N - 1)) (omega (arith, length-T₁)) (omega (arith, power)));
        from_places = sym length-T₁;
      };
      row_room = rw (mid_len p.chain (length R₁) R₁ (omega arith))
          (omega (arith, length-T₁, length-R₁, at.chain_at, at.whole, at.second_at, power, room.row_room));
    }

    -- after the chain
    module _ (F₂ A₂ : List ℕ) (rows : F₂ ≡ over (flat (chain_rows (length T₁ - 1) T₁ p.chain_next.0)) (part_of p.chain R₁))
        (wires : A₂ ≡ chain_outs (length T₁) T₁ p.chain_next.0) where
      abbrev t : List ℕ
      t = middle_outs level A₀ next

      abbrev R₂ : List ℕ
      R₂ = with_part p.chain R₁ F₂

      -- the entries of the first P, of the chain, of the second P
      abbrev A : List ℕ
      A = flat (permutation_rows level A₀ next)

      abbrev B : List ℕ
      B = flat (chain_rows (2 ^ level - 1) s (chain_next level next))

      abbrev C : List ℕ
      C = flat (permutation_rows level t (second_next level next))

      length-A : length (flat (permutation_rows (level_of (length A₀)) A₀ next)) ≡ stride * permutation_count (level_of (length A₀))
      length-A = length-entries N A₀ next

      length-B : length B ≡ stride * (2 ^ level - 1)
      length-B = length-chain (2 ^ level - 1) s (chain_next level next)

      length-C : length C ≡ stride * count
      length-C = length-entries N t (second_next level next)

      positions : length T₁ ≡ 2 ^ level_of (length A₀)
      positions = length-T₁ ∙ sym power

      chain-rows : F₂ ≡ over B (part_of p.chain R₁)
      chain-rows = rw (positions, at.chain_from, first-wires) at rows

      chain-wires : A₂ ≡ middle_outs (level_of (length A₀)) A₀ next
      chain-wires = rw (positions, at.chain_from, first-wires) at wires

      both-rows : R₂ ≡ over (A ++ B) R₀
      both-rows =
          let l = room.row_room in
          let w = at.whole in
          over-part A R₀ R₁ p.chain (length-A ∙ sym at.chain_at) (omega (arith, at.chain_at, at.second_at)) first B F₂
          (omega (arith, at.chain_at, at.second_at, length-B)) chain-rows

      length-R₂ : length R₂ ≡ length R₀
      length-R₂ =
          ap length both-rows
          ∙ length_over (A ++ B) R₀ (omega (arith, length-append A B, length-A, length-B, at.second_at, at.whole, room.row_room))

      length-A₂ : length A₂ ≡ length A₀
      length-A₂ = ap length chain-wires ∙ fed.second-size ∙ power

      pub second-passes : WritePasses (length A₂) A₂ p.second_next.0 (length (part_of p.second R₂)) (length T₁)
      unfolding whole_wires
      second-passes = rw length-A₂ (record {
        size = room.made.size;
        inputs = length-A₂;
        made = rw (chain-wires, at.second_from) fed.second-fed;
        wires = λ some. omega (arith, at.second_from, some-made room.made (2 * count + (2 ^ level - 1) + 2 * count) (omega arith) (omega arith));
        row_room = rw (mid_len p.second (length R₂) R₂ (omega arith)) (omega (arith, length-R₂, at.whole, room.row_room));
        output_room = omega (arith, length-T₁);
      })

      -- after the second P
      module _ (F₃ T₃ : List ℕ) (last : F₃ ≡ over (flat (permutation_rows (level_of (length A₂)) A₂ p.second_next.0)) (part_of p.second R₂))
          (outs : T₃ ≡ permutation_outs (level_of (length A₂)) A₂ p.second_next.0) where
        second-rows : F₃ ≡ over C (part_of p.second R₂)
        second-rows = rw (length-A₂, at.second_from, chain-wires) at last

        whole_parts : flat (whole_rows level A₀ next) ≡ A ++ (B ++ C)
        unfolding whole_rows
        whole_parts = flat_append _ _ ∙ ap₂ (λ l r. flat (permutation_rows level l next) ++ r) same (flat_append _ _)

        pub block_rows_written : with_part p.second R₂ F₃ ≡ over (flat (whole_rows level A₀ next)) R₀
        block_rows_written =
            let l = room.row_room in
            let w = at.whole in
            over-part (A ++ B) R₀ R₂ p.second (length-append A B ∙ omega (arith, length-A, length-B, at.second_at)) (omega arith) both-rows C F₃
            (omega (arith, length-C)) second-rows
            ∙ ap (λ l. over l R₀) (append_assoc A B C ∙ sym whole_parts)

        pub block-wires-written : T₃ ≡ whole_outs (level_of (length A₀)) A₀ next
        unfolding whole_outs
        block-wires-written = rw (length-A₂, at.second_from, chain-wires) at outs
