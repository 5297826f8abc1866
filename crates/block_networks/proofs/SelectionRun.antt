-- The run of S's rows, over values of any type: for any bits output o carries what input `selection_source m n bits o` of the N carried, and
-- programmed for a wanted list it carries what the input that it wants carried. By the parts: P, the chain, P; a Y passes the value of
-- the position before it on, or its own.
use mathlib.Core.Path.{◌≡◌, refl, sym, ap, ap₂, ◌∙◌}
use mathlib.Core.List.{List, [], ◌++◌}
use Prim.Native.Nat.{ℕ, zero, suc, ◌+◌, ◌-◌, ◌*◌, ◌^◌, ◌≤◌, ◌<◌}
use native.Mathlib.Nat.{le_refl, add-zero}
use native.Mathlib.Omega.{arith}
use lib.ListN.{length, get_or, drop}
use lib.Seq.{drop_at}
use Rattle.lists.specs.Lists.{Below}
use Rattle.block_elements.specs.Rows.{choose, State, on, run, Delivered}
use Rattle.block_elements.proofs.RowsLaws.{run-append, run_keeps, run-wires, run-bits, run-gates}
use Rattle.block_elements.proofs.YRun.{run_y-at}
use Rattle.block_networks.specs.Permutation.{permutation_count, permutation_rows}
use Rattle.block_networks.specs.Wanted.{mapping}
use Rattle.block_networks.specs.Selection.{selection_level, padded, chain_wire, chain_rows, chain_next, second_next, first_outs, middle_outs}
use Rattle.block_networks.specs.Selection.{whole_rows, whole_outs, selection_rows, selection_outs, selection_count, selection_wires, Selected, selection_bits}
use Rattle.block_networks.proofs.Sources.{source, chain_source, chain_bits, second_bits, whole_source, selection_source}
use Rattle.block_networks.proofs.Loops.{perm_lt}
use Rattle.block_networks.proofs.Routing.{source-perm}
use Rattle.block_networks.proofs.PermutationRun.{permutation_made, permutation_left, permutation_routes}
use Rattle.block_networks.proofs.SelectionLaws.{selection-outputs-fit, get_or-padded, chain-totals, get_or-chain_outs, whole-wires, selection-totals, get_or-selection_outs}
use Rattle.block_networks.proofs.SelectionRouting.{chain_source_le, selection_source_lt, selection_programmed, length-selection_bits}

wire_after : (w : List ℕ) (next i : ℕ) → chain_wire w next (suc i) ≡ next + i
unfolding chain_wire
wire_after w next i = refl

source_after : (bits : List ℕ) (i : ℕ) → chain_source bits (suc i) ≡ choose (get_or bits i 0) (chain_source bits i) (suc i)
unfolding chain_source
source_after bits i = refl

module _ {A : Type 0} (none : A) (gate : ℕ → List ℕ → List A → A) where
  -- ---- the chain

  chosen : (v : ℕ → A) (b x y : ℕ) → choose b (v x) (v y) ≡ v (choose b x y)
  unfolding choose
  chosen v zero x y = refl
  chosen v (suc b) x y = refl

  chain-made : (k : ℕ) (w : List ℕ) (next : ℕ) (s : State A) → length (run none gate (chain_rows k w next) s).wires ≡ length s.wires + k
  chain-made k w next s = run-wires none gate _ s ∙ ap (λ m. length s.wires + m) (chain-totals k w next).wires

  chain_left : (k : ℕ) (w : List ℕ) (next : ℕ) (s : State A) → (run none gate (chain_rows k w next) s).bits ≡ drop k s.bits
  chain_left k w next s = run-bits none gate _ s ∙ ap (λ m. drop m s.bits) (chain-totals k w next).bits

  -- at position i the chain has what position `chain_source bits i` of the wires w carried
  chain_carries : (i k : ℕ) (w : List ℕ) (next : ℕ) (s : State A) → ((j : ℕ) → j ≤ k → get_or w j 0 < next) → length s.wires ≡ next
      → i ≤ k → on none (run none gate (chain_rows k w next) s) (chain_wire w next i) ≡ on none s (get_or w (chain_source s.bits i) 0)
  unfolding chain_rows
  chain_carries zero k w next s h m l = unfold chain_wire chain_source in run_keeps none gate _ s _ none (rw m (h 0 (omega arith)))
  chain_carries (suc i) k w next s h m l =
      let value : ℕ → A = λ p. on none s (get_or w p 0) in
      let before = chain_carries i i w next s (λ j b. h j (omega arith)) m (le_refl i) in
      let fed = run_keeps none gate (chain_rows i w next) s (get_or w (suc i) 0) none (rw m (h (suc i) l)) in
      ap (on none (run none gate (chain_rows k w next) s)) (wire_after w next i ∙ ap (λ x. x + i) (sym m))
      ∙ run_y-at none gate k (chain_wire w next) (λ j. get_or w (suc j) 0) s i l
      ∙ ap₂ (choose (get_or s.bits i 0)) before fed ∙ chosen value (get_or s.bits i 0) (chain_source s.bits i) (suc i)
      ∙ ap value (sym (source_after s.bits i))

  -- ---- the whole block

  module _ (level : ℕ) (ins : List ℕ) (next : ℕ) (s : State A) (zero-made : 0 < next) (b : Below next ins) (m : length s.wires ≡ next) where
    after_first : State A
    after_first = run none gate (permutation_rows level (padded (2 ^ level) ins) next) s

    after_chain : State A
    after_chain = run none gate (chain_rows (2 ^ level - 1) (first_outs level ins next) (chain_next level next)) after_first

    made-first : length after_first.wires ≡ chain_next level next
    unfolding after_first
    made-first = permutation_made none gate level _ next s ∙ ap (λ k. k + 2 * permutation_count level) m

    made-chain : length after_chain.wires ≡ second_next level next
    unfolding after_chain
    made-chain = chain-made (2 ^ level - 1) _ _ after_first ∙ ap (λ k. k + (2 ^ level - 1)) made-first

    left-first : after_first.bits ≡ chain_bits level s.bits
    unfolding after_first
    left-first = permutation_left none gate level _ next s

    left-chain : after_chain.bits ≡ second_bits level s.bits
    unfolding after_chain
    left-chain = chain_left (2 ^ level - 1) _ _ after_first ∙ ap (drop (2 ^ level - 1)) left-first

    first_carries : (p : ℕ) → p < 2 ^ level
        → on none after_first (get_or (first_outs level ins next) p 0) ≡ on none s (get_or ins (source level s.bits p) 0)
    unfolding after_first
    first_carries p l =
        let w = whole-wires level ins next zero-made b in
        permutation_routes none gate level _ next s w.first-size w.first-fed m p l
        ∙ ap (on none s) (get_or-padded (2 ^ level) ins _ (perm_lt (source-perm level s.bits) p l))

    middle_carries : (p : ℕ) → p < 2 ^ level → on none after_chain (get_or (middle_outs level ins next) p 0)
        ≡ on none s (get_or ins (source level s.bits (chain_source (chain_bits level s.bits) p)) 0)
    unfolding after_chain
    middle_carries p l =
        let w = whole-wires level ins next zero-made b in
        let fed = first_outs level ins next in
        ap (on none after_chain) (get_or-chain_outs (2 ^ level) fed (chain_next level next) p l)
        ∙ chain_carries p (2 ^ level - 1) fed (chain_next level next) after_first (λ i k. w.chain-fed i (omega arith)) made-first (omega arith)
        ∙ ap (λ (a : List ℕ). on none after_first (get_or fed (chain_source a p) 0)) left-first
        ∙ first_carries (chain_source (chain_bits level s.bits) p) (omega (arith, chain_source_le (chain_bits level s.bits) p))

    -- for any bits output o carries what the input that it is joined to carried
    whole_routes : (o : ℕ) → o < 2 ^ level → on none (run none gate (whole_rows level ins next) s) (get_or (whole_outs level ins next) o 0)
        ≡ on none s (get_or ins (whole_source level s.bits o) 0)
    unfolding whole_rows whole_outs whole_source after_first after_chain
    whole_routes o l =
        let w = whole-wires level ins next zero-made b in
        let middle = middle_outs level ins next in
        ap (λ (t : State A). on none t (get_or (whole_outs level ins next) o 0)) (run-append none gate _ _ s ∙ run-append none gate _ _ after_first)
        ∙ permutation_routes none gate level middle (second_next level next) after_chain w.second-size w.second-fed made-chain o l
        ∙ ap (λ (a : List ℕ). on none after_chain (get_or middle (source level a o) 0)) left-chain
        ∙ middle_carries (source level (second_bits level s.bits) o) (perm_lt (source-perm level (second_bits level s.bits)) o l)

  -- ---- the promises

  -- S(m, n), run from s, joins output o to input π o and leaves the bits `rest`. An input past the list is wire 0
  abbrev pub SelectionDelivers : ℕ → ℕ → (ℕ → ℕ) → List ℕ → ℕ → State A → List ℕ → Type 0
  SelectionDelivers m n π ins next s rest =
      Delivered none n π ins (selection_outs m n ins next) s (run none gate (selection_rows m n ins next) s) (selection_wires m n) rest

  selection_routes : (m n : ℕ) (ins : List ℕ) (next : ℕ) (s : State A) → 0 < next → Below next ins → length s.wires ≡ next
      → (o : ℕ) → o < n → on none (run none gate (selection_rows m n ins next) s) (get_or (selection_outs m n ins next) o 0)
      ≡ on none s (get_or ins (selection_source m n s.bits o) 0)
  unfolding selection_rows selection_source
  selection_routes m n ins next s z b e o l =
      let level : ℕ = selection_level m n in
      ap (on none (run none gate (whole_rows level ins next) s)) (get_or-selection_outs m n ins next o l)
      ∙ whole_routes level ins next s z b e o (omega (arith, selection-outputs-fit m n))

  -- for any bits, even too few, each output carries what one of the N inputs carried, which the bits alone decide
  pub selection-selects : (m n : ℕ) (ins : List ℕ) (next : ℕ) (s : State A) → 0 < next → Below next ins → length s.wires ≡ next
      → ((o : ℕ) → o < n → selection_source m n s.bits o < 2 ^ selection_level m n)
      × (SelectionDelivers m n (selection_source m n s.bits) ins next s (drop (selection_count m n) s.bits))
  selection-selects m n ins next s z b e =
      let t = selection-totals m n ins next in (
        λ o l. selection_source_lt m n s.bits o l,
        record {
          carried = selection_routes m n ins next s z b e;
          kept = λ w l. run_keeps none gate _ s w none l;
          wires = run-wires none gate _ s ∙ ap (λ k. length s.wires + k) t.wires;
          bits = run-bits none gate _ s ∙ ap (λ k. drop k s.bits) t.bits;
          gates = run-gates none gate _ s ∙ rw (t.gates, add-zero);
        },
      )

  -- programmed for the wanted inputs, output o carries what input `mapping wanted o` carried, counted from 0; the bits after the program
  -- are untouched
  pub selection-delivers : {m n : ℕ} {wanted : List ℕ} → Selected m n wanted → (ins : List ℕ) (next : ℕ) (s : State A) (rest : List ℕ)
      → 0 < next → Below next ins → length s.wires ≡ next → s.bits ≡ selection_bits m n wanted ++ rest
      → SelectionDelivers m n (mapping wanted) ins next s rest
  selection-delivers {m} {n} {wanted} W ins next s rest z b e bits =
      let d = (selection-selects m n ins next s z b e).1 in
      let same : (o : ℕ) → o < n → selection_source m n s.bits o ≡ mapping wanted o = λ o l. rw bits (selection_programmed W rest o l) in
      record {
        carried = λ o l. d.carried o l ∙ ap (λ x. on none s (get_or ins x 0)) (same o l);
        kept = d.kept;
        wires = d.wires;
        bits = d.bits ∙ rw bits (drop_at (selection_bits m n wanted) rest (selection_count m n) (length-selection_bits m n wanted));
        gates = d.gates;
      }
