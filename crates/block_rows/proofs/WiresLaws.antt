-- Wires that are of the fabric are stored as they are.
use mathlib.Core.Path.{◌≡◌, sym, ap, ◌∙◌}
use mathlib.Core.List.{List, [], ◌++◌, append-nil}
use Prim.Native.Nat.{ℕ, ◌+◌, ◌*◌, ◌%◌, ◌^◌, ◌<◌, ◌≤◌, min}
use native.Mathlib.Nat.{mod-eq_of_lt, min-eq_left}
use native.Mathlib.Omega.{arith}
use lib.ListN.{length, take, drop, length-take, drop_of_length-le}
use lib.Seq.{take_all}
use Rattle.lists.specs.Lists.{list_of}
use Rattle.lists.proofs.ListsLaws.{length-list_of, list_of_ext}
use Rattle.fault.specs.Buffers.{over}
use Rattle.elements.specs.Elements.{max_wires}
use Rattle.block_rows.specs.Wires.{wires_put}

-- the wires first, first + step, .. fit a list of `places` places
pub record Progression (places count first step : ℕ) : Type 0 where
  pub room : count ≤ places
  pub each : (i : ℕ) → i < count → first + step * i < max_wires

pub wires-put : (count first step : ℕ) (old : List ℕ) → Progression (length old) count first step
    → wires_put count first step old ≡ over (list_of count (λ i. first + step * i)) old
unfolding wires_put
wires-put count first step old p =
    ap (λ n. over (list_of n (λ i. (first + step * i) % max_wires)) old) (min-eq_left p.room)
    ∙ ap (λ l. over l old) (list_of_ext count _ _ (λ i l. mod-eq_of_lt (p.each i l)))

-- the wires stand in all of the part that was lent, which ended where the list or the count did
pub put_front : (count first step : ℕ) (old : List ℕ) {items : List ℕ} {wire end i : ℕ} → wire ≡ first % max_wires → end ≡ min count (length old)
    → i ≡ end → items ≡ over (list_of i (λ j. (wire + step * j) % max_wires)) (take end old) → items ++ drop end old ≡ wires_put count first step old
unfolding wires_put
put_front count first step old {items} {wire} {end} {i} ew ee ei e =
    let made = list_of i (λ j. (wire + step * j) % max_wires) in
    let l = length-list_of i (λ j. (wire + step * j) % max_wires) in
    let n = min count (length old) in
    let wanted = list_of n (λ j. (first + step * j) % max_wires) in
    let same : made ≡ wanted =
    ap (λ k. list_of k (λ j. (wire + step * j) % max_wires)) (ei ∙ ee) ∙ list_of_ext n _ _ (λ j h. omega arith) in
    let none : drop (length made) (take end old) ≡ [] = drop_of_length-le (take end old) {i = length made} (omega (arith, length-take end old)) in
    let whole : end ≡ length wanted = ee ∙ sym (length-list_of n (λ j. (first + step * j) % max_wires)) in
    ap (λ t. t ++ drop end old) (e ∙ ap (λ t. made ++ t) none ∙ append-nil made ∙ same) ∙ ap (λ k. wanted ++ drop k old) whole

-- a list that fits is copied whole
pub wires-copied : (from to : List ℕ) → length from ≤ length to → over (take (length to) from) to ≡ over from to
wires-copied from to h = ap (λ l. over l to) (take_all (length to) from h)

-- a later wire in 32 bits
pub wire_after : (wire count : ℕ) → wire + count < 2 ^ 32 → (wire + count) % 2 ^ 32 ≡ wire + count
wire_after wire count h = mod-eq_of_lt h
