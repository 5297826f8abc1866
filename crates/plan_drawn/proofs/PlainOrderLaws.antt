-- Where each gate draws from inputs and gates before it, turn n takes gate n: those below are taken, and it is ready. So each gate keeps its number.
use Prim.Native.Nat.{ℕ, zero, suc, ◌-◌, ◌≤◌, ◌<◌}
use native.Mathlib.Omega.{arith}
use native.Mathlib.Decide.{ℕ_discrete, dec_le, dec_lt}
use mathlib.Core.Path.{◌≡◌, refl, ap, ◌∙◌}
use mathlib.Core.Bool.{true, false}
use mathlib.Core.List.{List}
use borrow.Author.Tests.{eq-eqb, ne_eqb, le-leb, lt-leb, lt-ltb, le-ltb}
use lib.Dec.{ltb}
use Rattle.lists.specs.Lists.{list_of}
use Rattle.plan.specs.Record.{gate_wire}
use Rattle.plan_order.specs.Order.{has, supplied, ready, with_next, taken}
use Rattle.plan_order.proofs.OrderLaws.{has_more, next-taken}

-- 0 to n - 1
abbrev numbers : ℕ → List ℕ
numbers n = list_of n (λ i. i)

-- they hold what is below n
has-numbers : (n g : ℕ) → has (numbers n) g ≡ ltb g n
unfolding list_of has
has-numbers zero g = rw (le-ltb g 0 (omega arith))
has-numbers (suc n) g = rw (has_more (numbers n) n g, has-numbers n g) (elim (ℕ_discrete n g) [
  | yes e ↦ rw (eq-eqb n g e, lt-ltb g (suc n) (omega arith), le-ltb g n (omega arith))
  | no f ↦ elim (dec_lt g n) [
    | yes l ↦ rw (lt-ltb g n l, lt-ltb g (suc n) (omega arith))
    | no m ↦ rw (ne_eqb n g f, le-ltb g n (omega arith), le-ltb g (suc n) (omega arith))
  ]
])

-- each gate draws from wires before its own
module _ (u k : ℕ) (first second : ℕ → ℕ)
    (plain : (g : ℕ) → g < k → (first g < gate_wire u g) × (second g < gate_wire u g)) where
  -- the inputs and the first n gates supply the wires before gate n
  supplied-before : (n w : ℕ) → w < gate_wire u n → supplied u k first second (numbers n) w ≡ true
  unfolding supplied
  supplied-before n w l = elim (dec_le w u) [
    | yes h ↦ rw (le-leb w u h)
    | no f ↦ rw (lt-leb w u (omega arith), has-numbers n (w - suc u), lt-ltb (w - suc u) n (omega arith))
  ]

  -- after the first n gates none of them is ready, and gate n is
  not_again : (n g : ℕ) → g < n → ready u k first second (numbers n) g ≡ false
  unfolding ready
  not_again n g l = rw (has-numbers n g, lt-ltb g n l)

  ready-next : (n : ℕ) → n < k → ready u k first second (numbers n) n ≡ true
  unfolding ready
  ready-next n l =
      rw (has-numbers n n, le-ltb n n (omega arith), supplied-before n (first n) (plain n l).0, supplied-before n (second n) (plain n l).1)

  -- n turns take the first n gates
  pub plain-taken : (n : ℕ) → n ≤ k → taken u k first second n ≡ numbers n
  unfolding taken list_of
  plain-taken zero l = refl
  plain-taken (suc n) l =
      ap (with_next u k first second) (plain-taken n (omega arith)) ∙ next-taken u k first second (numbers n) n l (ready-next n l) (not_again n)
