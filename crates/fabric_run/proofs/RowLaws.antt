-- What a row's bit chooses, what a row makes of the bits that it sees, and that it sees on the work buffer what it sees in the run.
use mathlib.Core.Path.{◌≡◌, refl, ap, ◌∙◌}
use mathlib.Core.List.{List, [], ◌∷◌}
use Prim.Native.Nat.{ℕ, zero, suc, ◌+◌, ◌-◌, ◌*◌, ◌≤◌, ◌<◌}
use native.Mathlib.Nat.{add-zero}
use native.Mathlib.Numerals.{add-one}
use native.Mathlib.Omega.{arith}
use lib.ListN.{length, get_or, take, drop, set}
use lib.Seq.{get_or-take, get_or-drop}
use Rattle.lists.specs.Lists.{list_of}
use Rattle.lists.proofs.ListsLaws.{get_or-list_of}
use Rattle.blocks.specs.Elements.{X, Y, Gate, gate_bits, takes, row_of, choose, State, outputs, line_of, gate_on_bits, bit_at, unpack}
use Rattle.blocks.proofs.ElementsLaws.{unpack-at}
use Rattle.fabric_table_checks.specs.declared.table.TableCounts.{TableCounts}
use Rattle.fabric_run.specs.RunRows.{row_state, row_done, left_of, right_of, RowRoom}

-- ---- the wire that a bit chooses

pub choose-entry : (row : List ℕ) (b : ℕ) → b ≤ 1 → get_or row (1 + b) 0 ≡ choose b (left_of row) (right_of row)
unfolding choose
choose-entry row zero h = refl
choose-entry row (suc zero) h = refl
choose-entry row (suc (suc b)) h = absurd (omega arith)

choose-below : (n b l r : ℕ) → l < n → r < n → choose b l r < n
unfolding choose
choose-below n zero l r hl hr = hl
choose-below n (suc b) l r hl hr = hr

pub chosen-fits : {new : ℕ} {row : List ℕ} {before : TableCounts} {work : List ℕ} (b x : ℕ) → RowRoom new row before work
    → x ≡ choose b (left_of row) (right_of row) → x < length work
chosen-fits {before = before} b x room e = omega (arith, choose-below before.wires b _ _ room.left room.right, room.room)

choose-on : (work : List ℕ) (b l r : ℕ) → get_or work (choose b l r) 0 ≡ choose b (get_or work l 0) (get_or work r 0)
unfolding choose
choose-on work zero l r = refl
choose-on work (suc b) l r = refl

choose-other : (b l r : ℕ) → b ≤ 1 → choose (1 - b) l r ≡ choose b r l
unfolding choose
choose-other zero l r h = refl
choose-other (suc zero) l r h = refl
choose-other (suc (suc b)) l r h = absurd (omega arith)

-- ---- what a row makes of what it sees

line_of_lem : (a b : ℕ) → line_of 0 (a ∷ b ∷ []) ≡ 2 * a + b
unfolding line_of
line_of_lem a b = omega arith

module _ (program : List ℕ) (p : ℕ) (work : List ℕ) where
  seen_bit : (i : ℕ) → i < gate_bits → get_or (list_of gate_bits (λ j. bit_at program (p + j))) i 0 ≡ bit_at program (p + i)
  seen_bit i h = get_or-list_of gate_bits (λ j. bit_at program (p + j)) i 0 h

  pub x-makes : (l r : ℕ) → let b = bit_at program p in
      outputs 0 gate_on_bits (X l r) (row_state program p work)
      ≡ choose b (get_or work l 0) (get_or work r 0) ∷ choose b (get_or work r 0) (get_or work l 0) ∷ []
  unfolding outputs
  x-makes l r = rw (seen_bit 0 (omega arith), add-zero p)

  pub y-makes : (l r : ℕ) → outputs 0 gate_on_bits (Y l r) (row_state program p work) ≡ choose (bit_at program p) (get_or work l 0) (get_or work r 0) ∷ []
  unfolding outputs
  y-makes l r = rw (seen_bit 0 (omega arith), add-zero p)

  pub g-makes : (l r : ℕ) → get_or work l 0 ≤ 1 → get_or work r 0 ≤ 1
      → outputs 0 gate_on_bits (Gate (l ∷ r ∷ [])) (row_state program p work) ≡ bit_at program (p + (2 * get_or work l 0 + get_or work r 0)) ∷ []
  unfolding outputs gate_on_bits
  g-makes l r a b =
      let line = 2 * get_or work l 0 + get_or work r 0 in
      rw (line_of_lem (get_or work l 0) (get_or work r 0))
      (ap (λ x. x ∷ []) (get_or-take gate_bits (list_of gate_bits (λ j. bit_at program (p + j))) line 0 (omega arith) ∙ seen_bit line (omega arith)))

-- ---- what a row sees of a run

-- a run from whose program bit p on the bits are left, and on whose wires l and r the work buffer holds the bits
module _ (program : List ℕ) (n p : ℕ) (work : List ℕ) (s : State ℕ) (left : s.bits ≡ drop p (unpack n program)) where
  left-bit : (i : ℕ) → p + i < n → get_or s.bits i 0 ≡ bit_at program (p + i)
  left-bit i h = rw (left, get_or-drop p (unpack n program) i 0) (unpack-at n program (p + i) h)

  left-table : p + gate_bits ≤ n → (a b : ℕ) → a ≤ 1 → b ≤ 1 → get_or (take gate_bits s.bits) (line_of 0 (a ∷ b ∷ [])) 0 ≡ bit_at program (p + (2 * a + b))
  left-table h a b ha hb =
      rw (line_of_lem a b, get_or-take gate_bits s.bits (2 * a + b) 0 (omega arith)) (left-bit (2 * a + b) (omega arith))

  module _ (l r : ℕ) (el : get_or s.wires l 0 ≡ get_or work l 0) (er : get_or s.wires r 0 ≡ get_or work r 0)
      (a : get_or work l 0 ≤ 1) (b : get_or work r 0 ≤ 1) where
    sees-x : p + 1 ≤ n → outputs 0 gate_on_bits (X l r) s ≡ outputs 0 gate_on_bits (X l r) (row_state program p work)
    unfolding outputs
    sees-x h = rw (x-makes program p work l r) (rw (el, er, left-bit 0 (omega arith), add-zero p))

    sees-y : p + 1 ≤ n → outputs 0 gate_on_bits (Y l r) s ≡ outputs 0 gate_on_bits (Y l r) (row_state program p work)
    unfolding outputs
    sees-y h = rw (y-makes program p work l r) (rw (el, er, left-bit 0 (omega arith), add-zero p))

    sees-g : p + gate_bits ≤ n → outputs 0 gate_on_bits (Gate (l ∷ r ∷ [])) s ≡ outputs 0 gate_on_bits (Gate (l ∷ r ∷ [])) (row_state program p work)
    unfolding outputs gate_on_bits
    sees-g h = rw (g-makes program p work l r a b) (rw (el, er, left-table h (get_or work l 0) (get_or work r 0) a b))

    pub sees_row : (kind : ℕ) → p + takes (row_of kind l r) ≤ n
        → outputs 0 gate_on_bits (row_of kind l r) s ≡ outputs 0 gate_on_bits (row_of kind l r) (row_state program p work)
    unfolding row_of takes
    sees_row zero h = sees-g h
    sees_row (suc zero) h = sees-x h
    sees_row (suc (suc zero)) h = sees-y h
    sees_row (suc (suc (suc k))) h = sees-g h

-- ---- what the functions of one row leave

module _ (program work : List ℕ) (before : TableCounts) (l r : ℕ) where
  pub x-done : (b x y : ℕ) → b ≤ 1 → b ≡ bit_at program before.bits → x ≡ choose b l r → y ≡ choose (1 - b) l r
      → set (set work before.wires (get_or work x 0)) (before.wires + 1) (get_or work y 0) ≡ row_done (X l r) program before work
  x-done b x y h eb ex ey =
      rw (ey, choose-other b l r h, ex, choose-on work b l r, choose-on work b r l, x-makes program before.bits work l r, eb, add-one before.wires)

  pub y-done : (b x : ℕ) → b ≡ bit_at program before.bits → x ≡ choose b l r → set work before.wires (get_or work x 0) ≡ row_done (Y l r) program before work
  y-done b x eb ex = rw (ex, choose-on work b l r, y-makes program before.bits work l r, eb)

  pub g-done : (x : ℕ) → get_or work l 0 ≤ 1 → get_or work r 0 ≤ 1 → x ≡ bit_at program (before.bits + (2 * get_or work l 0 + get_or work r 0))
      → set work before.wires x ≡ row_done (Gate (l ∷ r ∷ [])) program before work
  g-done x a b ex = rw (g-makes program before.bits work l r a b, ex)
