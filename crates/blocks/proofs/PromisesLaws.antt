-- P and S keep the promise of blocks, for all sizes; and what the calls leave in lent buffers is read back as these blocks.
use mathlib.Core.Path.{◌≡◌, refl, sym, ap, ◌∙◌}
use mathlib.Core.List.{List, ◌++◌}
use Prim.Native.Nat.{ℕ, ◌+◌, ◌*◌, ◌^◌, ◌<◌}
use native.Mathlib.Omega.{arith}
use lib.ListN.{length, get_or, take, drop}
use lib.Seq.{take_at}
use Rattle.lists.specs.Lists.{list_of, Below}
use Rattle.lists.proofs.ListsLaws.{list_of_ext, list_of-get_or}
use Rattle.block_elements.specs.Rows.{stride, decode}
use Rattle.block_elements.specs.Bits.{bytes_for, bit_at, pack, unpack}
use Rattle.block_elements.proofs.BitsLaws.{length-pack, store_bits-at}
use Rattle.block_networks.specs.Permutation.{permutation_count}
use Rattle.block_networks.proofs.PermutationLaws.{length-permutation_rows, permutation_totals, length-permutation_outs, permutation_below, permutation_made_before}
use Rattle.block_networks.specs.Wanted.{Wanted, wanted_bits}
use Rattle.block_networks.proofs.WantedLaws.{length-wanted_bits, wanted_bits-bits, wanted-delivers, unpack-wanted}
use Rattle.block_networks.specs.Selection.{Selected, selection_count, selection_wires, selection_bits}
use Rattle.block_networks.proofs.SelectionLaws.{length-selection_rows, selection-totals, length-selection_outs, selection-below, selection-made_before}
use Rattle.block_networks.proofs.SelectionRouting.{length-selection_bits, selection_bits-bits, unpack-selection}
use Rattle.block_networks.proofs.SelectionRun.{selection-delivers}
use Rattle.block_sizes.specs.Sizes.{level_of, SizeIs}
use Rattle.block_program_checks.specs.Checks.{program_fault, program_at_fault}
use Rattle.block_program_checks.proofs.ChecksLaws.{fault-at, program-passes, selection-fault-at, selection-program-passes}
use Rattle.block_permutation_bits.specs.ProgramCalls.{program_result, program_at_result}
use Rattle.block_write_checks.specs.WriteChecks.{write_fault, selection_write_fault}
use Rattle.block_write_checks.proofs.WriteChecksLaws.{write_passes, selection_write_passes, some-wire}
use Rattle.block_permutation_rows.specs.WriteCalls.{written_rows, written_outputs}
use Rattle.block_permutation_rows.proofs.WriteLaws.{written_read}
use Rattle.block_selection_bits.proofs.SelectionProgramLaws.{selection_programmed_read, selection_programmed_at}
use Rattle.block_selection_rows.specs.WriteCalls.{selection_written_rows, selection_written_outputs}
use Rattle.block_selection_rows.proofs.SelectionWriteLaws.{selection-written-read}
use Rattle.blocks.specs.Promises.{Block, BlockShape, BlockDelivers, permutation_block, selection_block, CallsDeliver, PermutationPromise, SelectionPromise}

-- ---- P and S, for all sizes

pub permutation_block-shape : (level : ℕ) → BlockShape (Wanted (2 ^ level)) (permutation_block level)
permutation_block-shape level = record {
  size = length-permutation_rows level;
  totals = permutation_totals level;
  outputs = length-permutation_outs level;
  below = λ ins next z b. permutation_below level ins next b;
  made_before = λ ins next e z b. permutation_made_before level ins next e b;
  program = length-wanted_bits level;
  are_bits = λ W. wanted_bits-bits level W;
}

pub permutation_block-delivers : {A : Type 0} (none : A) (gate : ℕ → List ℕ → List A → A) (level : ℕ)
    → BlockDelivers none gate (Wanted (2 ^ level)) (permutation_block level)
permutation_block-delivers none gate level = record {
  delivers = λ W ins next s rest e z b made bits. wanted-delivers none gate level W ins next s rest e b made bits;
}

pub selection-block-shape : (m n : ℕ) → BlockShape (Selected m n) (selection_block m n)
selection-block-shape m n = record {
  size = length-selection_rows m n;
  totals = selection-totals m n;
  outputs = λ ins next e. length-selection_outs m n ins next;
  below = selection-below m n;
  made_before = λ ins next e. selection-made_before m n ins next;
  program = length-selection_bits m n;
  are_bits = λ {wanted} W. selection_bits-bits m n wanted;
}

pub selection-block-delivers : {A : Type 0} (none : A) (gate : ℕ → List ℕ → List A → A) (m n : ℕ) → BlockDelivers none gate (Selected m n) (selection_block m n)
selection-block-delivers none gate m n = record {
  delivers = λ W ins next s rest e z b made bits. selection-delivers none gate W ins next s rest z b made bits;
}

-- ---- the calls

-- entries, output wires and bits that are read back as a block's deliver as it does
calls_deliver : {A : Type 0} (none : A) (gate : ℕ → List ℕ → List A → A) {m n size : ℕ} {Wants : List ℕ → Type 0} (B : Block m n)
    → BlockShape Wants B → BlockDelivers none gate Wants B → {wanted : List ℕ} → Wants wanted → {ins : List ℕ} {next : ℕ} {entries outs bits : List ℕ}
    → size ≡ n → length ins ≡ m → 0 < next → Below next ins → decode entries ≡ B.rows ins next → outs ≡ B.outs ins next → bits ≡ B.bits wanted
    → CallsDeliver none gate size B.wires wanted ins next entries outs bits
calls_deliver none gate B shape D {wanted} W {ins} {next} size long z made rows outs bits = record {
  rows_read = ap length rows ∙ shape.size ins next ∙ sym (ap length bits ∙ shape.program wanted);
  delivers = λ s rest m e. rw (size, rows, outs) (D.delivers W ins next s rest long z made m (e ∙ ap (λ (l : List ℕ). l ++ rest) bits));
}

-- the wanted list at the block's level
at_level : {N : ℕ} {wanted : List ℕ} → SizeIs N → Wanted N wanted → Wanted (2 ^ level_of N) wanted
at_level {N} {wanted} size W = rw size.power W

-- after success P's program begins with the packed bits
pub permutation_programmed_read : (N : ℕ) (wanted program : List ℕ) → program_fault N wanted (length program) ≡ 0
    → take (bytes_for (permutation_count (level_of N))) (program_result N wanted program) ≡ pack (wanted_bits (level_of N) wanted)
permutation_programmed_read N wanted program e =
    let bits = wanted_bits (level_of N) wanted in
    rw e (take_at (pack bits) (drop (length (pack bits)) program) (bytes_for (permutation_count (level_of N)))
    (length-pack bits ∙ ap bytes_for (length-wanted_bits (level_of N) wanted)))

-- and a program from bit `start` on has the bits there
pub permutation_programmed_at : (N : ℕ) (wanted : List ℕ) (start : ℕ) (program : List ℕ) → program_at_fault N wanted start (length program) ≡ 0
    → list_of (permutation_count (level_of N)) (λ i. bit_at (program_at_result N wanted start program) (start + i)) ≡ wanted_bits (level_of N) wanted
permutation_programmed_at N wanted start program e =
    let p = program-passes {N = N} {wanted = wanted} {start = start} {room = length program} e in
    let bits = wanted_bits (level_of N) wanted in
    let l = length-wanted_bits (level_of N) wanted in
    let are = wanted_bits-bits (level_of N) (at_level p.size p.wanted_once) in
    rw (e, ← l)
    (list_of_ext (length bits) _ (λ i. get_or bits i 0) (λ i h. store_bits-at program start bits i are (rw l p.fits) h) ∙ list_of-get_or bits 0)

-- what writing P left, with bits that are read back as P's
permutation_left : {A : Type 0} (none : A) (gate : ℕ → List ℕ → List A → A) (N : ℕ) (ins : List ℕ) (next : ℕ) (rows outputs : List ℕ) {wanted bits : List ℕ}
    → write_fault N ins next (length rows) (length outputs) ≡ 0 → Wanted N wanted → bits ≡ wanted_bits (level_of N) wanted
    → CallsDeliver none gate N (2 * permutation_count (level_of N)) wanted ins next
    (take (stride * permutation_count (level_of N)) (written_rows N ins next rows outputs)) (take N (written_outputs N ins next rows outputs)) bits
permutation_left none gate N ins next rows outputs {wanted} {bits} written W e =
    let w = write_passes N ins next (length rows) (length outputs) written in
    let r = written_read N ins next rows outputs written in
    let level : ℕ = level_of N in
    let some : 0 < next = omega (arith, w.size.some, w.made.each 0 (omega (arith, w.size.some))) in
    calls_deliver none gate (permutation_block level) (permutation_block-shape level) (permutation_block-delivers none gate level) (at_level w.size W)
    (sym w.size.power) (w.inputs ∙ sym w.size.power) some w.made r.rows_read r.outputs_read e

pub permutation_promise : {A : Type 0} (none : A) (gate : ℕ → List ℕ → List A → A) → PermutationPromise none gate
permutation_promise none gate N ins next rows outputs wanted program start written = (
  λ programmed.
      let p = program-passes {N = N} {wanted = wanted} {start = 0} {room = length program} (fault-at N wanted (length program) ∙ programmed) in
      permutation_left none gate N ins next rows outputs written p.wanted_once
      (ap (unpack (permutation_count (level_of N))) (permutation_programmed_read N wanted program programmed)
      ∙ unpack-wanted (level_of N) (at_level p.size p.wanted_once)),
  λ programmed.
      let p = program-passes {N = N} {wanted = wanted} {start = start} {room = length program} programmed in
      permutation_left none gate N ins next rows outputs written p.wanted_once (permutation_programmed_at N wanted start program programmed),
)

-- what writing S left likewise
selection-left : {A : Type 0} (none : A) (gate : ℕ → List ℕ → List A → A) (m n : ℕ) (ins : List ℕ) (next : ℕ) (rows outputs : List ℕ) {wanted bits : List ℕ}
    → selection_write_fault m n ins next (length rows) (length outputs) ≡ 0 → Selected m n wanted → bits ≡ selection_bits m n wanted
    → CallsDeliver none gate n (selection_wires m n) wanted ins next
    (take (stride * selection_count m n) (selection_written_rows m n ins next rows outputs)) (take n (selection_written_outputs m n ins next rows outputs)) bits
selection-left none gate m n ins next rows outputs written W e =
    let w = selection_write_passes m n ins next (length rows) (length outputs) written in
    let r = selection-written-read m n ins next rows outputs written in
    calls_deliver none gate (selection_block m n) (selection-block-shape m n) (selection-block-delivers none gate m n) W
    refl w.inputs (some-wire w) w.made r.rows_read r.outputs_read e

pub selection_promise : {A : Type 0} (none : A) (gate : ℕ → List ℕ → List A → A) → SelectionPromise none gate
selection_promise none gate m n ins next rows outputs wanted program start written = (
  λ programmed.
      let p = selection-program-passes {m = m} {n = n} {wanted = wanted} {start = 0} {room = length program} (selection-fault-at m n wanted (length program) ∙ programmed) in
      selection-left none gate m n ins next rows outputs written p.selected
      (ap (unpack (selection_count m n)) (selection_programmed_read m n wanted program programmed) ∙ unpack-selection m n wanted),
  λ programmed.
      let p = selection-program-passes {m = m} {n = n} {wanted = wanted} {start = start} {room = length program} programmed in
      selection-left none gate m n ins next rows outputs written p.selected (selection_programmed_at m n wanted start program programmed),
)
