-- A walk round a loop has a step less to its start after each step: what is left of the walk is the measure of the loop that walks.
use mathlib.Core.Path.{◌≡◌, refl, sym, ap, ◌∙◌}
use mathlib.Core.Logic.{◌≢◌, ◌⊎◌, inl, inr}
use mathlib.Core.Bool.{cond}
use mathlib.Core.List.{List}
use Prim.Native.Nat.{ℕ, zero, suc, ◌+◌, ◌-◌, ◌*◌, ◌/◌, ◌≤◌, ◌<◌, zero-le, suc-le-suc}
use native.Mathlib.Nat.{le_of_suc-le-suc, le_refl}
use native.Mathlib.Decide.{dec_le, dec_lt}
use native.Mathlib.Omega.{arith}
use borrow.Author.Tests.{eq-eqb, ne_eqb}
use lib.Dec.{eqb}
use lib.ListN.{length, get_or}
use Rattle.block_networks.specs.Permutation.{iterate, partner}
use Rattle.block_networks.proofs.Orbits.{Closes, iterate_in, iterate-add}
use Rattle.block_networks.proofs.Loops.{walk-closes}
use Rattle.block_loops.specs.Mappings.{map_of, Paired, walk_in}
use Rattle.block_loops.specs.Marking.{Leads}
use Rattle.block_loops.proofs.MarkingLaws.{Walked, walked_below, place_lt, pair_lt, read-map, step_is}

-- the steps of f from x to goal, at most n
steps_to : (ℕ → ℕ) → ℕ → ℕ → ℕ → ℕ
steps_to f goal zero x = 0
steps_to f goal (suc n) x = cond (eqb x goal) 0 (suc (steps_to f goal n (f x)))

-- where k steps lead there, more than k allowed ones make no difference
steady : (f : ℕ → ℕ) (goal n k x : ℕ) → k ≤ n → iterate f k x ≡ goal → steps_to f goal (suc n) x ≡ steps_to f goal n x
unfolding steps_to iterate
steady f goal zero zero x l e = rw (eq-eqb x goal e) refl
steady f goal (suc n) zero x l e = rw (eq-eqb x goal e) refl
steady f goal zero (suc k) x l e = absurd (omega arith)
steady f goal (suc n) (suc k) x l e =
    ap (λ s. cond (eqb x goal) 0 (suc s)) (steady f goal n k (f x) (le_of_suc-le-suc l) (iterate_in f k x ∙ e))

nearer : (f : ℕ → ℕ) (goal N n k x : ℕ) → N ≡ suc n → x ≢ goal → k ≤ n → iterate f k (f x) ≡ goal → steps_to f goal N (f x) < steps_to f goal N x
unfolding steps_to
nearer f goal N n k x e far l back = rw (e, steady f goal n k (f x) l back, ne_eqb x goal far) (le_refl (suc (steps_to f goal n (f x))))

-- the steps that are left of the walk round pair i's loop, behind the one from output o
pub walk_left : List ℕ → List ℕ → ℕ → ℕ → ℕ
walk_left p q i o = steps_to (walk_in p q) (2 * i) (length p) (walk_in p q o)

-- what holds where the walk has come to output o, which takes the input x
pub record Passing (p q : List ℕ) (o x : ℕ) : Type 0 where
  pub output_lt : o < length p
  pub input_lt : x < length p
  pub next_lt : partner x < length q
  pub input_is : x ≡ map_of p o
  pub next_is : partner (get_or q (partner x) 0) ≡ walk_in p q o

module _ {p q : List ℕ} {i : ℕ} {m₀ m : List ℕ} {o j : ℕ} (G : Paired p q) (L : Leads p q i) (ms : length m₀ ≡ length p) (W : Walked p q i m₀ m o j) where
  pub output-lt : o < length p
  output-lt = walked_below G i L m₀ ms W

  pub passing : {x : ℕ} → x ≡ get_or p o 0 → Passing p q o x
  passing {x} e =
      let input_lt = place_lt G o output-lt in
      rw e record {
        output_lt = output-lt;
        input_lt = input_lt;
        next_lt = rw G.size (pair_lt G (get_or p o 0) input_lt);
        input_is = read-map p o output-lt;
        next_is = step_is G o output-lt;
      }

  module _ {o' : ℕ} (e : o' ≡ walk_in p q o) (far : o' ≢ 2 * i) where
    next-is : o' ≡ iterate (walk_in p q) (suc j) (2 * i)
    unfolding iterate
    next-is = e ∙ ap (walk_in p q) W.here

    pub walk-less : walk_left p q i o' < walk_left p q i o
    unfolding walk_left iterate
    walk-less = go (dec_le (suc j) c.rest)
      where
        f : ℕ → ℕ
        f = walk_in p q

        c : Closes (2 * (length p / 2)) f (2 * i)
        c = walk-closes (length p / 2) G.perm (2 * i)

        after : f o' ≡ iterate f (suc (suc j)) (2 * i)
        after = ap f next-is

        -- the walk is not back yet
        early : c.rest ≤ j → (c.rest ≡ j) ⊎ (c.rest < j) → ⊥
        early l (inl d) = far (next-is ∙ ap (λ t. iterate f (suc t) (2 * i)) (sym d) ∙ c.back)
        early l (inr d) = W.away (suc c.rest) (suc-le-suc zero-le) d c.back

        go : Dec (suc j ≤ c.rest) → steps_to f (2 * i) (length p) (f o') < steps_to f (2 * i) (length p) (f o)
        go (yes l) =
            let k = c.rest - suc j in
            let all : k + suc (suc j) ≡ suc c.rest = omega arith in
            let back : iterate f k (f o') ≡ 2 * i =
            ap (iterate f k) after ∙ sym (iterate-add f k (suc (suc j)) (2 * i)) ∙ ap (λ t. iterate f t (2 * i)) all ∙ c.back in
            let below : o < length p = output-lt in
            let size : length p ≡ suc (length p - 1) = omega arith in
            let few : k ≤ length p - 1 = omega (arith, c.bound, G.even) in
            rw (← e) (nearer f (2 * i) (length p) (length p - 1) k o' size far few back)
        go (no d) = absurd (early (omega arith) (elim (dec_lt c.rest j) [ yes x ↦ inr x | no y ↦ inl (omega arith) ]))
