-- What the checks say of the whole program holds in the part from the first bit's byte on. After success the program holds the defined bits.
use mathlib.Core.Path.{◌≡◌, sym, ap, ◌∙◌}
use mathlib.Core.List.{List}
use Prim.Native.Nat.{ℕ, ◌+◌, ◌-◌, ◌≤◌}
use native.Mathlib.Omega.{arith}
use borrow.Rule.Slice.PartMut.{mid_of}
use lib.ListN.{length, get_or, take, drop, length-drop}
use lib.Seq.{take_at, length-take-le}
use Rattle.lists.specs.Lists.{list_of}
use Rattle.lists.proofs.ListsLaws.{list_of_ext, list_of-get_or}
use Rattle.block_elements.specs.Bits.{bytes_for, bit_at, pack, bit_byte, bit_place}
use Rattle.block_elements.proofs.BitsLaws.{length-pack, store_bits-at}
use Rattle.block_networks.specs.Selection.{selection_count, selection_bits}
use Rattle.block_networks.proofs.SelectionRouting.{length-selection_bits, selection_bits-bits}
use Rattle.block_program_checks.specs.Checks.{selection_program_fault, selection_program_at_fault}
use Rattle.block_program_checks.proofs.ChecksLaws.{selection-program-passes, selection-fault-at}
pub use Rattle.block_program_checks.specs.Checks.{SelectionPasses}
pub use Rattle.block_program_checks.proofs.ChecksLaws.{selection-program-at_succeeds}
use Rattle.block_selection_bits.specs.ProgramCalls.{selection_program_result, selection_program_at_result}

-- where the program is stored from its front on, the checks are those of the call that begins there
pub selection_fault_at_front : (m n : ℕ) (wanted : List ℕ) (room : ℕ) → selection_program_at_fault m n wanted 0 room ≡ selection_program_fault m n wanted room
selection_fault_at_front = selection-fault-at

-- where no check fails the first bit's byte is in the program, or right behind it
pub begins_within : (m n : ℕ) (wanted : List ℕ) (start room : ℕ) → 0 ≡ selection_program_at_fault m n wanted start room → bit_byte start ≤ room
begins_within m n wanted start room e = let fits = (selection-program-passes {m = m} {n = n} {wanted = wanted} (sym e)).fits in omega arith

-- in the part of the program that begins with the first bit's byte
pub passes_in_part : {m n : ℕ} {wanted : List ℕ} (program : List ℕ) {start byte place : ℕ} → SelectionPasses m n wanted start (length program)
    → byte ≡ bit_byte start → place ≡ bit_place start → SelectionPasses m n wanted place (length (mid_of byte (length program - byte) program))
passes_in_part program {byte} P eb ep =
    let size : length (mid_of byte (length program - byte) program) ≡ length program - byte =
    length-take-le (length program - byte) (drop byte program) (omega (arith, length-drop byte program)) in
    record { sizes = P.sizes; selected = P.selected; fits = rw size (omega (arith, P.fits, eb, ep)) }

-- ---- after success

-- the program begins with the packed bits
pub selection_programmed_read : (m n : ℕ) (wanted program : List ℕ) → selection_program_fault m n wanted (length program) ≡ 0
    → take (bytes_for (selection_count m n)) (selection_program_result m n wanted program) ≡ pack (selection_bits m n wanted)
selection_programmed_read m n wanted program e =
    let bits = selection_bits m n wanted in
    rw e (take_at (pack bits) (drop (length (pack bits)) program) (bytes_for (selection_count m n))
    (length-pack bits ∙ ap bytes_for (length-selection_bits m n wanted)))

-- and a program from bit `start` on has the bits there
pub selection_programmed_at : (m n : ℕ) (wanted : List ℕ) (start : ℕ) (program : List ℕ) → selection_program_at_fault m n wanted start (length program) ≡ 0
    → list_of (selection_count m n) (λ i. bit_at (selection_program_at_result m n wanted start program) (start + i)) ≡ selection_bits m n wanted
selection_programmed_at m n wanted start program e =
    let p = selection-program-passes {m = m} {n = n} {wanted = wanted} {start = start} {room = length program} e in
    let bits = selection_bits m n wanted in
    let l = length-selection_bits m n wanted in
    rw (e, ← l)
    (list_of_ext (length bits) _ (λ i. get_or bits i 0) (λ i h. store_bits-at program start bits i (selection_bits-bits m n wanted) (rw l p.fits) h)
    ∙ list_of-get_or bits 0)
