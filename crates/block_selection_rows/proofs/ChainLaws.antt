-- The chain's wires and rows, in the code's order: its wires follow the first of s, and row i takes the wire at place i and that at place
-- i + 1 of s.
use mathlib.Core.Path.{◌≡◌, refl, sym, ap, ap₂, ◌∙◌}
use mathlib.Core.List.{List, [], ◌∷◌, ◌++◌, append-nil}
use Prim.Native.Nat.{ℕ, zero, suc, ◌+◌, ◌-◌, ◌*◌, ◌≤◌, ◌<◌}
use native.Mathlib.Nat.{not-suc-le-zero, le_refl, one-mul}
use native.Mathlib.Omega.{arith}
use lib.ListN.{length, get_or, set, drop, length-set}
use lib.Seq.{ext_get_or, get_or-take, get_or-drop}
use borrow.Rule.Slice.PartMut.{mid_len}
use Rattle.std.proofs.lemmas.List.{drop_all}
use Rattle.lists.specs.Lists.{list_of}
use Rattle.lists.proofs.ListsLaws.{length-list_of, get_or-list_of, list_of_ext}
use Rattle.fault.specs.Buffers.{over, part_of, with_part}
use Rattle.fault.proofs.PartsLaws.{over-part}
use Rattle.elements.specs.declared.Kind.{Kind}
use Rattle.block_elements.specs.Rows.{stride, flat, Y, row_of}
use Rattle.block_elements.proofs.RowsLaws.{length-flat}
use Rattle.block_networks.specs.Selection.{chain_wire, chain_rows, chain_outs}
use Rattle.block_networks.proofs.SelectionLaws.{length-chain_rows, chain-totals, length-chain_outs, get_or-chain_outs}
use Rattle.block_rows.specs.Wires.{wires_put}
use Rattle.block_rows.proofs.WiresLaws.{Progression, wires-put}
use Rattle.block_rows.specs.Rows.{pair_rows, rows_put}
use Rattle.block_rows.proofs.RowsLaws.{length-pair_rows, rows-put}
use Rattle.block_selection_rows.specs.Block.{LinkRoom}

-- what is written over a list of its own length is all of it
pub over-all : {A : Type 0} (new old : List A) → length old ≤ length new → over new old ≡ new
over-all new old h = ap (λ l. new ++ l) (drop_all (length new) old h) ∙ append-nil new

-- ---- wires

-- t(0) is s(0), the others are made from `next` on
links-are : (k : ℕ) (s : List ℕ) (next : ℕ) → (get_or s 0 0 ∷ []) ++ list_of k (λ i. next + 1 * i) ≡ chain_outs (suc k) s next
unfolding chain_wire
links-are k s next = ext_get_or 0 _ _ (ap suc long ∙ sym (length-chain_outs (suc k) s next)) at
  where
    long : length (list_of k (λ i. next + 1 * i)) ≡ k
    long = length-list_of k (λ i. next + 1 * i)

    at : (i : ℕ) → i < suc (length (list_of k (λ i. next + 1 * i)))
        → get_or ((get_or s 0 0 ∷ []) ++ list_of k (λ i. next + 1 * i)) i 0 ≡ get_or (chain_outs (suc k) s next) i 0
    at zero l = sym (get_or-chain_outs (suc k) s next 0 (omega arith))
    at (suc i) l =
        get_or-list_of k (λ i. next + 1 * i) i 0 (omega (arith, long)) ∙ omega arith ∙ sym (get_or-chain_outs (suc k) s next (suc i) (omega (arith, long)))

first-set : (L : List ℕ) (x : ℕ) → 1 ≤ length L → set L 0 x ≡ over (x ∷ []) L
first-set [] x h = absurd (not-suc-le-zero h)
first-set (a ∷ L) x h = refl

-- the first of s is stored, and then the wires behind it
pub wires-linked : {count : ℕ} (next : ℕ) (s L F : List ℕ) → LinkRoom (length s) next (length L) → count ≡ length s - 1
    → F ≡ wires_put count next 1 (part_of 1 (set L 0 (get_or s 0 0))) → with_part 1 (set L 0 (get_or s 0 0)) F ≡ chain_outs (length s) s next
wires-linked {count} next s L F room links e =
    let N : ℕ = length s in
    let P = set L 0 (get_or s 0 0) in
    let made = list_of (N - 1) (λ i. next + 1 * i) in
    let long = length-list_of (N - 1) (λ i. next + 1 * i) in
    let front = first-set L (get_or s 0 0) (omega arith) in
    let fits : Progression (length (part_of 1 P)) (N - 1) next 1 =
    record {
      room = rw (mid_len 1 (length P) P (le_refl (length P)), length-set L 0 (get_or s 0 0)) (omega arith);
      each = λ i l. omega (arith, room.wires (omega arith));
    } in
    let put : F ≡ over made (part_of 1 P) = rw links at e ∙ wires-put (N - 1) next 1 (part_of 1 P) fits in
    let above : suc (N - 1) ≡ N = omega arith in
    over-part (get_or s 0 0 ∷ []) L P 1 refl (omega arith) front made F (omega arith) put
    ∙ ap (λ l. over l L) (links-are (N - 1) s next ∙ ap (λ k. chain_outs k s next) above)
    ∙ over-all (chain_outs N s next) L (omega (arith, length-chain_outs N s next))

-- ---- rows

right-at : (s : List ℕ) (i : ℕ) → suc i < length s → get_or (part_of 1 s) (1 * i) 0 ≡ get_or s (suc i) 0
right-at s i l =
    let e : 1 * i ≡ i = omega arith in
    rw e (get_or-take (length s - 1) (drop 1 s) i 0 (omega arith) ∙ get_or-drop 1 s i 0 ∙ ap (λ k. get_or s k 0) (omega arith))

pub rows-linked : (next : ℕ) (s P R F : List ℕ) → stride * (length s - 1) ≤ length R → P ≡ chain_outs (length s) s next
    → F ≡ rows_put (pair_rows Kind.Y (length s - 1) P (part_of 1 s) 1) R → F ≡ over (flat (chain_rows (length s - 1) s next)) R
unfolding pair_rows chain_rows row_of
rows-linked next s P R F room e put =
    let N : ℕ = length s in
    let rows = pair_rows Kind.Y (N - 1) P (part_of 1 s) 1 in
    let fit : stride * length rows ≤ length R = rw (length-pair_rows Kind.Y (N - 1) P (part_of 1 s) 1) room in
    let left : (i : ℕ) → i < N → get_or P (1 * i) 0 ≡ chain_wire s next i = λ i l. rw (e, one-mul i) (get_or-chain_outs N s next i l) in
    let same : rows ≡ chain_rows (N - 1) s next =
    list_of_ext (N - 1) _ _ (λ i l. ap₂ Y (left i (omega arith)) (right-at s i (omega arith))) in
    put ∙ rows-put rows R fit ∙ ap (λ r. over (flat r) R) same

-- three entries a row
pub length-chain : (k : ℕ) (s : List ℕ) (next : ℕ) → length (flat (chain_rows k s next)) ≡ stride * k
length-chain k s next = length-flat (chain-totals k s next).family ∙ ap (λ n. stride * n) (length-chain_rows k s next)
