-- What P(2 ^ n) consists of: N log N - N + 1 rows, all of them X, so two wires and one bit a row; 2 ^ n output wires, each an input wire
-- or a made one; and each row's wires are made before it.
use mathlib.Core.Path.{◌≡◌, refl, ap}
use mathlib.Core.List.{List}
use Prim.Native.Nat.{ℕ, zero, suc, ◌+◌, ◌-◌, ◌*◌, ◌^◌, ◌<◌}
use native.Mathlib.Nat.{pow-succ', suc-mul, mul_left_comm}
use native.Mathlib.Omega.{arith}
use lib.ListN.{length, get_or, length-append}
use lib.Pow.{pow_pos}
use Rattle.lists.specs.Lists.{list_of, Below, Every, every-none}
use Rattle.lists.proofs.ListsLaws.{length-list_of, below-list_of, below-append, below-pair, below_more, every_append, every-list_of}
use Rattle.block_elements.specs.Rows.{Row, X, MadeBefore, made_none, Totals}
use Rattle.block_elements.proofs.RowsLaws.{made_before-append}
use Rattle.block_networks.specs.Permutation.{permutation_count, input_rows, output_rows, firsts, seconds, upper_next, lower_next, output_next}
use Rattle.block_networks.specs.Permutation.{permutation_outs, upper_outs, lower_outs, permutation_rows}
use Rattle.block_networks.proofs.XRun.{IsX, is-X, x-totals, x-made_before}

-- ---- rows

pub permutation_count_lem : (n : ℕ) → permutation_count n + 2 ^ n ≡ n * 2 ^ n + 1
unfolding permutation_count
permutation_count_lem zero = refl
permutation_count_lem (suc n) =
    rw (pow-succ' 2 n, suc-mul n (2 * 2 ^ n), mul_left_comm n 2 (2 ^ n)) (omega (arith, permutation_count_lem n, pow_pos n))

-- the input rows and the output rows are X rows, as many as their number says
record XRows (rows : List Row) (n : ℕ) : Type 0 where
  count : length rows ≡ n
  every : Every IsX rows

x-rows : (n : ℕ) (f g : ℕ → ℕ) → XRows (list_of n (λ i. X (f i) (g i))) n
x-rows n f g = record { count = length-list_of n _; every = every-list_of n _ (λ i l. is-X) }

input-rows : (h : ℕ) (ins : List ℕ) → XRows (input_rows h ins) h
unfolding input_rows
input-rows h ins = x-rows h _ _

output-rows : (k : ℕ) (us ls : List ℕ) → XRows (output_rows k us ls) k
unfolding output_rows
output-rows k us ls = x-rows k _ _

pub length-permutation_rows : (n : ℕ) (ins : List ℕ) (next : ℕ) → length (permutation_rows n ins next) ≡ permutation_count n
unfolding permutation_rows permutation_count
length-permutation_rows zero ins next = refl
length-permutation_rows (suc n) ins next =
    let O = output-rows (2 ^ n - 1) (upper_outs n next) (lower_outs n next) in
    simp (length-append, (input-rows (2 ^ n) ins).count, O.count, length-permutation_rows n)

-- N log N - N + 1 rows
pub permutation_rows_lem : (n : ℕ) (ins : List ℕ) (next : ℕ) → length (permutation_rows n ins next) + 2 ^ n ≡ n * 2 ^ n + 1
permutation_rows_lem n ins next = rw (length-permutation_rows n ins next) (permutation_count_lem n)

pub permutation_x : (n : ℕ) (ins : List ℕ) (next : ℕ) → Every IsX (permutation_rows n ins next)
unfolding permutation_rows
permutation_x zero ins next = every-none
permutation_x (suc n) ins next =
    every_append (input-rows (2 ^ n) ins).every
    (every_append (permutation_x n (firsts (2 ^ n) next) (upper_next n next))
    (every_append (permutation_x n (seconds (2 ^ n) next) (lower_next n next)) (output-rows (2 ^ n - 1) _ _).every))

-- two wires and one bit a row, no gate
totals_of : {rows : List Row} {n : ℕ} → XRows rows n → Totals rows (2 * n) n 0
totals_of r =
    let t = x-totals r.every in
    let e = r.count in
    record { wires = omega arith; bits = omega arith; gates = t.gates; family = t.family }

pub permutation_totals : (n : ℕ) (ins : List ℕ) (next : ℕ) → Totals (permutation_rows n ins next) (2 * permutation_count n) (permutation_count n) 0
permutation_totals n ins next = totals_of (record { count = length-permutation_rows n ins next; every = permutation_x n ins next })

-- ---- wires

pub length-permutation_outs : (n : ℕ) (ins : List ℕ) (next : ℕ) → length ins ≡ 2 ^ n → length (permutation_outs n ins next) ≡ 2 ^ n
unfolding permutation_outs
length-permutation_outs zero ins next e = e
length-permutation_outs (suc n) ins next e = simp (length-append, length-list_of) (omega (arith, pow-succ' 2 n, pow_pos n))

pub length-firsts : (h next : ℕ) → length (firsts h next) ≡ h
unfolding firsts
length-firsts h next = length-list_of h _

pub length-seconds : (h next : ℕ) → length (seconds h next) ≡ h
unfolding seconds
length-seconds h next = length-list_of h _

below-firsts : (n next : ℕ) → Below (upper_next n next) (firsts (2 ^ n) next)
unfolding firsts
below-firsts n next = below-list_of _ (2 ^ n) _ (λ i l. omega arith)

below-seconds : (n next : ℕ) → Below (lower_next n next) (seconds (2 ^ n) next)
unfolding seconds
below-seconds n next = below-list_of _ (2 ^ n) _ (λ i l. omega arith)

-- every output wire is an input wire or a made one
pub permutation_below : (n : ℕ) (ins : List ℕ) (next : ℕ) → Below next ins → Below (next + 2 * permutation_count n) (permutation_outs n ins next)
unfolding permutation_outs permutation_count
permutation_below zero ins next h = below_more _ h (omega arith)
permutation_below (suc n) ins next h =
    let H = 2 ^ n in
    let p = pow_pos n in
    let u = permutation_below n (firsts H next) (upper_next n next) (below-firsts n next) in
    let l = permutation_below n (seconds H next) (lower_next n next) (below-seconds n next) in
    let lu = length-permutation_outs n (firsts H next) (upper_next n next) (length-firsts H next) in
    let ll = length-permutation_outs n (seconds H next) (lower_next n next) (length-seconds H next) in
    below-append (below-list_of _ (2 * (H - 1)) _ (λ o m. omega arith))
    (below-pair (omega (arith, u.each (H - 1) (omega arith))) (omega (arith, l.each (H - 1) (omega arith))))

-- the wires of the halves of P(2 * 2 ^ n): what feeds them is made before, what they give is made after
pub record HalfWires (n next : ℕ) : Type 0 where
  pub upper-size : length (firsts (2 ^ n) next) ≡ 2 ^ n
  pub upper-fed : Below (upper_next n next) (firsts (2 ^ n) next)
  pub upper-given : (i : ℕ) → i < 2 ^ n → get_or (upper_outs n next) i 0 < lower_next n next
  pub lower-size : length (seconds (2 ^ n) next) ≡ 2 ^ n
  pub lower-fed : Below (lower_next n next) (seconds (2 ^ n) next)
  pub lower-given : (i : ℕ) → i < 2 ^ n → get_or (lower_outs n next) i 0 < output_next n next

pub half-wires : (n next : ℕ) → HalfWires n next
half-wires n next =
    let lu = length-permutation_outs n (firsts (2 ^ n) next) (upper_next n next) (length-firsts (2 ^ n) next) in
    let ll = length-permutation_outs n (seconds (2 ^ n) next) (lower_next n next) (length-seconds (2 ^ n) next) in
    record {
      upper-size = length-firsts (2 ^ n) next;
      upper-fed = below-firsts n next;
      upper-given = λ i l. (permutation_below n _ _ (below-firsts n next)).each i (rw lu l);
      lower-size = length-seconds (2 ^ n) next;
      lower-fed = below-seconds n next;
      lower-given = λ i l. (permutation_below n _ _ (below-seconds n next)).each i (rw ll l);
    }

-- each row's wires are made before it
input-made_before : (h : ℕ) (ins : List ℕ) (next : ℕ) → length ins ≡ 2 * h → Below next ins → MadeBefore next (input_rows h ins)
unfolding input_rows
input-made_before h ins next e b =
    x-made_before next h _ _ (λ i l. b.each (2 * i) (omega arith)) (λ i l. b.each (2 * i + 1) (omega arith))

output-made_before : (n next : ℕ) → MadeBefore (output_next n next) (output_rows (2 ^ n - 1) (upper_outs n next) (lower_outs n next))
unfolding output_rows
output-made_before n next =
    let w = half-wires n next in
    x-made_before _ (2 ^ n - 1) _ _ (λ i l. omega (arith, w.upper-given i (omega arith))) (λ i l. w.lower-given i (omega arith))

pub permutation_made_before : (n : ℕ) (ins : List ℕ) (next : ℕ) → length ins ≡ 2 ^ n → Below next ins → MadeBefore next (permutation_rows n ins next)
unfolding permutation_rows
permutation_made_before zero ins next e b = made_none
permutation_made_before (suc n) ins next e b =
    let w = half-wires n next in
    let U = permutation_made_before n (firsts (2 ^ n) next) (upper_next n next) w.upper-size w.upper-fed in
    let L = permutation_made_before n (seconds (2 ^ n) next) (lower_next n next) w.lower-size w.lower-fed in
    made_before-append (input-made_before (2 ^ n) ins next (omega (arith, pow-succ' 2 n)) b)
    (ap (λ k. next + k) (totals_of (input-rows (2 ^ n) ins)).wires)
    (made_before-append U (ap (λ k. upper_next n next + k) (permutation_totals n _ _).wires)
    (made_before-append L (ap (λ k. lower_next n next + k) (permutation_totals n _ _).wires) (output-made_before n next)))
