-- Checks 13 and 11 of writing pass exactly if their bounds hold.
use mathlib.Core.Path.{◌≡◌}
use mathlib.Core.Logic.{◌↔◌}
use mathlib.Core.Bool.{true}
use mathlib.Core.List.{List}
use Prim.Native.Nat.{ℕ, ◌+◌, ◌*◌, ◌≤◌}
use native.Mathlib.Omega.{arith}
use native.Mathlib.Decide.{ℕ_discrete}
use borrow.Author.Tests.{leb-true, ltb-true, le-leb, lt-ltb, eq-eqb, ne_eqb}
use lib.ListN.{get_or}
use Rattle.lists.specs.Lists.{Below}
use Rattle.fault.specs.Checks.{room_fault}
use Rattle.fault.proofs.ChecksLaws.{unless-zero, and_then-zero, first_of-zero}
use Rattle.elements.specs.Elements.{max_wires}
use Rattle.block_elements.specs.Rows.{stride}
use Rattle.block_write_checks.specs.Wires.{unmade_fault, wires_fit, wires_fault, buffers_fault}

wires-fit : (made next : ℕ) → wires_fit made next ≡ true → 1 ≤ made → next + made ≤ max_wires
unfolding wires_fit
wires-fit made next e h = leb-true (next + made) max_wires (rw (ne_eqb made 0 (λ z. absurd (omega arith))) at e)

fit-wires : (made next : ℕ) → (1 ≤ made → next + made ≤ max_wires) → wires_fit made next ≡ true
unfolding wires_fit
fit-wires made next h = elim (ℕ_discrete made 0) [
  | yes e ↦ rw (eq-eqb made 0 e)
  | no d ↦ rw (ne_eqb made 0 d) (le-leb (next + made) max_wires (h (omega arith)))
]

-- the input wires are made, and so are the new ones within 65,536
pub record WiresWithin (ins : List ℕ) (made next : ℕ) : Type 0 where
  pub given : Below next ins
  pub new : 1 ≤ made → next + made ≤ max_wires

pub wires-faultless : (ins : List ℕ) (made next : ℕ) → (wires_fault ins made next ≡ 0) ↔ WiresWithin ins made next
unfolding wires_fault unmade_fault
wires-faultless ins made next = (
  λ e.
      let h = simp (and_then-zero, first_of-zero, unless-zero) at e in
      record {
        given = record { each = λ i l. ltb-true (get_or ins i 0) next (h.0 i l) };
        new = wires-fit made next h.1;
      },
  λ w. simp (and_then-zero, first_of-zero, unless-zero) (λ i l. lt-ltb (get_or ins i 0) next (w.given.each i l), fit-wires made next w.new),
)

pub record BuffersWithin (count outs rows outputs : ℕ) : Type 0 where
  pub row_room : stride * count ≤ rows
  pub output_room : outs ≤ outputs

pub buffers_faultless : (count outs rows outputs : ℕ) → (buffers_fault count outs rows outputs ≡ 0) ↔ BuffersWithin count outs rows outputs
unfolding buffers_fault room_fault
buffers_faultless count outs rows outputs = (
  λ e.
      let h = simp (and_then-zero, unless-zero) at e in
      record { row_room = leb-true (stride * count) rows h.0; output_room = leb-true outs outputs h.1 },
  λ w. rw (le-leb (stride * count) rows w.row_room, le-leb outs outputs w.output_room),
)
