-- What the block library promises, and what fabrics are built on. A block of m inputs and n outputs is its rows and output wires, for input wires and
-- the next unmade wire; how many wires it makes; how many rows and program bits it has; and its program bits for a list of wanted inputs, counted
-- from 1. P and S are two. What holds of every block holds for all sizes; what the calls leave in lent buffers is such a block.
use Rattle.std.specs.Prelude.{ℕ, ◌+◌, ◌*◌, ◌^◌, ◌<◌, ◌≡◌, List, ◌++◌, length, take}
use Rattle.lists.specs.Lists.{list_of, Below}
use Rattle.block_elements.specs.Rows.{Row, stride, MadeBefore, Totals, State, run, decode, Delivered}
use Rattle.block_elements.specs.Bits.{AreBits, bytes_for, bit_at, unpack}
use Rattle.block_networks.specs.Permutation.{permutation_count, permutation_rows, permutation_outs}
use Rattle.block_networks.specs.Wanted.{mapping, wanted_bits}
use Rattle.block_networks.specs.Selection.{selection_rows, selection_outs, selection_wires, selection_count, selection_bits}
use Rattle.block_sizes.specs.Sizes.{level_of}
use Rattle.block_program_checks.specs.Checks.{program_fault, program_at_fault, selection_program_fault, selection_program_at_fault}
use Rattle.block_permutation_bits.specs.ProgramCalls.{program_result, program_at_result}
use Rattle.block_write_checks.specs.WriteChecks.{write_fault, selection_write_fault}
use Rattle.block_permutation_rows.specs.WriteCalls.{written_rows, written_outputs}
use Rattle.block_selection_bits.specs.ProgramCalls.{selection_program_result, selection_program_at_result}
use Rattle.block_selection_rows.specs.WriteCalls.{selection_written_rows, selection_written_outputs}

pub record Block (m n : ℕ) : Type 0 where
  pub rows : List ℕ → ℕ → List Row
  pub outs : List ℕ → ℕ → List ℕ
  pub wires : ℕ
  pub count : ℕ
  pub bits : List ℕ → List ℕ

-- of its rows, wires and bits: their counts, no gates, and each row's wires are made before it
pub record BlockShape {m n : ℕ} (Wants : List ℕ → Type 0) (B : Block m n) : Type 0 where
  pub size : (ins : List ℕ) (next : ℕ) → length (B.rows ins next) ≡ B.count
  pub totals : (ins : List ℕ) (next : ℕ) → Totals (B.rows ins next) B.wires B.count 0
  pub outputs : (ins : List ℕ) (next : ℕ) → length ins ≡ m → length (B.outs ins next) ≡ n
  pub below : (ins : List ℕ) (next : ℕ) → 0 < next → Below next ins → Below (next + B.wires) (B.outs ins next)
  pub made_before : (ins : List ℕ) (next : ℕ) → length ins ≡ m → 0 < next → Below next ins → MadeBefore next (B.rows ins next)
  pub program : (wanted : List ℕ) → length (B.bits wanted) ≡ B.count
  pub are_bits : {wanted : List ℕ} → Wants wanted → AreBits (B.bits wanted)

-- of its run, from any state whose bits begin with its program's: each output carries what the input that it wants carried
pub record BlockDelivers {A : Type 0} (none : A) (gate : ℕ → List ℕ → List A → A) {m n : ℕ} (Wants : List ℕ → Type 0) (B : Block m n) : Type 0 where
  pub delivers : {wanted : List ℕ} → Wants wanted → (ins : List ℕ) (next : ℕ) (s : State A) (rest : List ℕ)
      → length ins ≡ m → 0 < next → Below next ins → length s.wires ≡ next → s.bits ≡ B.bits wanted ++ rest
      → Delivered none n (mapping wanted) ins (B.outs ins next) s (run none gate (B.rows ins next) s) B.wires rest

-- P(2 ^ level)
abbrev pub permutation_block : (level : ℕ) → Block (2 ^ level) (2 ^ level)
permutation_block level = record {
  rows = permutation_rows level;
  outs = permutation_outs level;
  wires = 2 * permutation_count level;
  count = permutation_count level;
  bits = wanted_bits level;
}

-- S(m, n)
abbrev pub selection_block : (m n : ℕ) → Block m n
selection_block m n = record {
  rows = selection_rows m n;
  outs = selection_outs m n;
  wires = selection_wires m n;
  count = selection_count m n;
  bits = selection_bits m n;
}

-- of the calls: the rows of the entries that writing left, on the output wires that it left, run with the bits that programming left, deliver
pub record CallsDeliver {A : Type 0} (none : A) (gate : ℕ → List ℕ → List A → A) (n made : ℕ) (wanted ins : List ℕ) (next : ℕ) (entries outs bits : List ℕ)
    : Type 0 where
  pub rows_read : length (decode entries) ≡ length bits
  pub delivers : (s : State A) (rest : List ℕ) → length s.wires ≡ next → s.bits ≡ bits ++ rest
      → Delivered none n (mapping wanted) ins outs s (run none gate (decode entries) s) made rest

-- P's promise: wherever writing P(N) and programming it succeed, what they left delivers; also where the program begins at a bit
abbrev pub PermutationPromise : {A : Type 0} → A → (ℕ → List ℕ → List A → A) → Type 0
PermutationPromise none gate =
    (N : ℕ) (ins : List ℕ) (next : ℕ) (rows outputs wanted program : List ℕ) (start : ℕ) → write_fault N ins next (length rows) (length outputs) ≡ 0
    → let count : ℕ = permutation_count (level_of N) in
    let left : List ℕ → Type 0 = CallsDeliver none gate N (2 * count) wanted ins next (take (stride * count) (written_rows N ins next rows outputs))
    (take N (written_outputs N ins next rows outputs)) in
    (program_fault N wanted (length program) ≡ 0 → left (unpack count (take (bytes_for count) (program_result N wanted program))))
    × (program_at_fault N wanted start (length program) ≡ 0 → left (list_of count (λ i. bit_at (program_at_result N wanted start program) (start + i))))

-- S's promise likewise
abbrev pub SelectionPromise : {A : Type 0} → A → (ℕ → List ℕ → List A → A) → Type 0
SelectionPromise none gate =
    (m n : ℕ) (ins : List ℕ) (next : ℕ) (rows outputs wanted program : List ℕ) (start : ℕ) → selection_write_fault m n ins next (length rows) (length outputs) ≡ 0
    → let count : ℕ = selection_count m n in
    let left : List ℕ → Type 0 = CallsDeliver none gate n (selection_wires m n) wanted ins next
    (take (stride * count) (selection_written_rows m n ins next rows outputs)) (take n (selection_written_outputs m n ins next rows outputs)) in
    (selection_program_fault m n wanted (length program) ≡ 0 → left (unpack count (take (bytes_for count) (selection_program_result m n wanted program))))
    × (selection_program_at_fault m n wanted start (length program) ≡ 0
    → left (list_of count (λ i. bit_at (selection_program_at_result m n wanted start program) (start + i))))
