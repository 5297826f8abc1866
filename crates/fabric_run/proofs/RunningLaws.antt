-- A run of bits gives bits, one for each wire.
use mathlib.Core.Path.{◌≡◌, ap, ◌∙◌}
use mathlib.Core.List.{List, [], ◌∷◌}
use Prim.Native.Nat.{ℕ, zero, suc, ◌+◌, ◌<◌}
use native.Mathlib.Decide.{dec_lt}
use native.Mathlib.Omega.{arith}
use lib.ListN.{length, get_or, take, length-take, get_or-eq_default}
use lib.Seq.{get_or-take, get_or-drop}
use Rattle.blocks.specs.Elements.{Row, X, Y, Gate, makes, takes, total, table_bits, choose, State, outputs, step, run, gate_on_bits, AreBits}
use Rattle.blocks.proofs.ElementsLaws.{run-wires, bits-append, unpack-bits}
use Rattle.fabric_sizes.specs.Layout.{inputs_in, table_rows, wires_before, wires_in, bits_in}
use Rattle.fabric_run.specs.Running.{run_start, run_wires}

-- a wire for each that the table makes
pub length-run_wires : (table program row : List ℕ) → length row ≡ inputs_in table → length (run_wires table program row) ≡ wires_in table
unfolding run_wires wires_before
length-run_wires table program row e =
    run-wires 0 gate_on_bits (table_rows table) (run_start table program row) ∙ ap (λ n. suc n + total makes (table_rows table)) e

choose-bit : (b x y : ℕ) → x < 2 → y < 2 → choose b x y < 2
unfolding choose
choose-bit zero x y hx hy = hx
choose-bit (suc b) x y hx hy = hy

one_bit : {x : ℕ} → x < 2 → AreBits (x ∷ [])
one_bit {x} h = record { each = at }
  where
    at : (i : ℕ) → get_or (x ∷ []) i 0 < 2
    at zero = h
    at (suc i) = omega arith

bits-taken : (n : ℕ) (bs : List ℕ) → AreBits bs → AreBits (take n bs)
bits-taken n bs h = record { each = λ i. go i (dec_lt i n) }
  where
    go : (i : ℕ) → Dec (i < n) → get_or (take n bs) i 0 < 2
    go i (yes l) = rw (get_or-take n bs i 0 l) (h.each i)
    go i (no l) = rw (get_or-eq_default (take n bs) 0 {n = i} (omega (arith, length-take n bs))) (omega arith)

row-bits : (row : Row) (s : State ℕ) → AreBits s.wires → AreBits s.bits → AreBits (outputs 0 gate_on_bits row s)
unfolding outputs gate_on_bits
row-bits (X l r) s ws bs =
    bits-append (one_bit (choose-bit _ _ _ (ws.each l) (ws.each r))) (one_bit (choose-bit _ _ _ (ws.each r) (ws.each l)))
row-bits (Y l r) s ws bs = one_bit (choose-bit _ _ _ (ws.each l) (ws.each r))
row-bits (Gate wires) s ws bs = one_bit ((bits-taken (table_bits wires) s.bits bs).each _)

pub run-are_bits : (rows : List Row) (s : State ℕ) → AreBits s.wires → AreBits s.bits → AreBits (run 0 gate_on_bits rows s).wires
unfolding run step
run-are_bits [] s ws bs = ws
run-are_bits (row ∷ rows) s ws bs =
    run-are_bits rows (step 0 gate_on_bits row s) (bits-append ws (row-bits row s ws bs))
    (record { each = λ i. rw (get_or-drop (takes row) s.bits i 0) (bs.each (takes row + i)) })

pub run_wires-bits : (table program row : List ℕ) → AreBits row → AreBits (run_wires table program row)
unfolding run_wires
run_wires-bits table program row h =
    run-are_bits (table_rows table) (run_start table program row) (bits-append (one_bit (omega arith)) h) (unpack-bits (bits_in table) program)
