-- What U is programmed for: the pins of the lower half want each a gate of the upper half, its operand if that is one of them.
use mathlib.Core.Path.{◌≡◌, refl, sym, ◌∙◌}
use mathlib.Core.Bool.{Bool, true, false, cond, and-eq-true_iff, false≢true}
use mathlib.Core.List.{List, ◌++◌, append_assoc}
use Prim.Native.Nat.{ℕ, suc, ◌+◌, ◌-◌, ◌*◌, ◌^◌, ◌≤◌, ◌<◌}
use native.Mathlib.Decide.{dec_lt}
use native.Mathlib.Omega.{arith}
use borrow.Author.Tests.{lt-ltb, ltb-true, le-leb, leb-true}
use lib.Dec.{leb, ltb}
use lib.ListN.{length, get_or, get_or-append}
use Rattle.lists.specs.Lists.{list_of}
use Rattle.lists.proofs.ListsLaws.{length-list_of, get_or-list_of}
use Rattle.lists.specs.Counting.{one_if}
use Rattle.blocks.specs.Elements.{operands, gate_bits}
use Rattle.blocks.specs.Networks.{mapping, Selected}
use Rattle.blocks.proofs.NetworksLaws.{selected-at}
use Rattle.fabric_universal.specs.Selector.{Selector}
use Rattle.fabric_universal.specs.Universal.{Gates, wire_of, table_program, is_of, wanted_gate, wanted_gates, mix_bits, universal_bits}

-- the wire is of one of the gates
pub of_bounds : (G : Gates) (base h w : ℕ) → is_of G base h w ≡ true → (G.before + base < w) × (w ≤ G.before + base + h)
unfolding is_of
of_bounds G base h w e =
    let both = (and-eq-true_iff (ltb (G.before + base) w) (leb w (G.before + base + h))).0 e in
    (ltb-true _ _ both.0, leb-true _ _ both.1)

-- it is not, and does not come after them: it comes before them
pub not_of : (G : Gates) (base h w : ℕ) → is_of G base h w ≡ false → w ≤ G.before + base + h → w ≤ G.before + base
unfolding is_of
not_of G base h w e l = go (dec_lt (G.before + base) w)
  where
    go : Dec (G.before + base < w) → w ≤ G.before + base
    go (yes m) =
        let z : ◌≡◌ {A = Bool} true false = sym (rw (lt-ltb (G.before + base) w m, le-leb w (G.before + base + h) l)) ∙ e in
        absurd (false≢true (sym z))
    go (no m) = omega arith

wanted-within : (G : Gates) (base h w : ℕ) → 0 < h → (1 ≤ wanted_gate G base h w) × (wanted_gate G base h w ≤ h)
unfolding wanted_gate
wanted-within G base h w z = go (is_of G base h w) refl
  where
    go : (b : Bool) → is_of G base h w ≡ b → (1 ≤ cond b (w - (G.before + base)) 1) × (cond b (w - (G.before + base)) 1 ≤ h)
    go true e = let b = of_bounds G base h w e in (omega arith, omega arith)
    go false e = (omega arith, z)

wanted_gates-at : (G : Gates) (base h j : ℕ) → j < operands * h
    → get_or (wanted_gates G base h) j 0 ≡ wanted_gate G base h (G.operand (operands * (base + h) + j))
unfolding wanted_gates
wanted_gates-at G base h j l = get_or-list_of (operands * h) _ j 0 l

length-wanted_gates : (G : Gates) (base h : ℕ) → length (wanted_gates G base h) ≡ operands * h
unfolding wanted_gates
length-wanted_gates G base h = length-list_of (operands * h) _

pub wanted-selected : (G : Gates) (base h : ℕ) → 0 < h → Selected h (operands * h) (wanted_gates G base h)
wanted-selected G base h z = record {
  size = length-wanted_gates G base h;
  low = λ o l. rw (wanted_gates-at G base h o l) (wanted-within G base h _ z).0;
  high = λ o l. rw (wanted_gates-at G base h o l) (wanted-within G base h _ z).1;
}

wanted_of_lem : (G : Gates) (base h w : ℕ) → is_of G base h w ≡ true → wanted_gate G base h w ≡ w - (G.before + base)
unfolding wanted_gate
wanted_of_lem G base h w e = rw e

-- a pin whose operand is a gate of the upper half wants that gate, counted from 0
pub wants : (G : Gates) (base h j : ℕ) → 0 < h → j < operands * h → is_of G base h (G.operand (operands * (base + h) + j)) ≡ true
    → (mapping (wanted_gates G base h) j < h) × (wire_of G (base + mapping (wanted_gates G base h) j) ≡ G.operand (operands * (base + h) + j))
wants G base h j z l e =
    let b = of_bounds G base h _ e in
    let at = selected-at (wanted-selected G base h z) j l in
    let given = wanted_gates-at G base h j l ∙ wanted_of_lem G base h _ e in
    (omega arith, omega arith)

pub mix_bits-at : (G : Gates) (base h j : ℕ) (rest : List ℕ) → j < operands * h
    → get_or (mix_bits G base h ++ rest) j 0 ≡ one_if (is_of G base h (G.operand (operands * (base + h) + j)))
unfolding mix_bits
mix_bits-at G base h j rest l =
    get_or-append (list_of (operands * h) _) rest 0 j (rw (length-list_of (operands * h) _) l) ∙ get_or-list_of (operands * h) _ j 0 l

pub length-mix_bits : (G : Gates) (base h : ℕ) → length (mix_bits G base h) ≡ operands * h
unfolding mix_bits
length-mix_bits G base h = length-list_of (operands * h) _

-- the bits by their parts
pub program-parts : (S : Selector) (G : Gates) (n base : ℕ) (rest : List ℕ) → universal_bits S G (suc n) base ++ rest
    ≡ universal_bits S G n base
    ++ ((S n).bits (wanted_gates G base (2 ^ n)) ++ (mix_bits G base (2 ^ n) ++ (universal_bits S G n (base + 2 ^ n) ++ rest)))
unfolding universal_bits
program-parts S G n base rest = simp append_assoc

pub length-table : (t : ℕ) → length (table_program t) ≡ gate_bits
unfolding table_program
length-table t = length-list_of gate_bits _
