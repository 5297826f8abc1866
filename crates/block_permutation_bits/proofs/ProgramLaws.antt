-- The array that the wanted inputs are loaded into begins with their mapping. After success the program holds the bits of that mapping.
use mathlib.Core.Path.{◌≡◌, sym, ap, ◌∙◌}
use mathlib.Core.List.{List}
use Prim.Native.Nat.{ℕ, ◌+◌, ◌^◌, ◌<◌, ◌≤◌}
use native.Mathlib.Omega.{arith}
use lib.ListN.{length, take, drop}
use lib.Seq.{take_at}
use Rattle.lists.specs.Lists.{list_of}
use Rattle.lists.proofs.ListsLaws.{length-list_of}
use Rattle.fault.specs.Buffers.{over}
use Rattle.block_elements.specs.Bits.{store_bits, bits_held}
use Rattle.block_networks.specs.Permutation.{permutation_count}
use Rattle.block_networks.specs.Wanted.{Wanted, mapping, wanted_bits}
use Rattle.block_networks.proofs.WantedLaws.{wanted-perm}
use Rattle.block_sizes.specs.Sizes.{level_of, SizeIs}
use Rattle.block_loops.specs.Mappings.{IsPerm, list_bits}
use Rattle.block_loops.proofs.MappingsLaws.{perm-listed, bits-listed}
use Rattle.block_program_checks.proofs.BitsLaws.{stored-done}
use Rattle.block_program_checks.specs.Checks.{program_fault, program_at_fault}
use Rattle.block_program_checks.proofs.ChecksLaws.{program-passes, fault-at, few_bits_lem}
use Rattle.block_permutation_bits.specs.ProgramCalls.{program_at_result, mapping_bits}

-- the front of an array that the mapping of the wanted inputs is loaded into
module _ {wanted perm : List ℕ} (old : List ℕ) (W : Wanted (length wanted) wanted) (loaded : perm ≡ over (list_of (length wanted) (mapping wanted)) old) where
  front-is : take (length wanted) perm ≡ list_of (length wanted) (mapping wanted)
  front-is =
      let l = length-list_of (length wanted) (mapping wanted) in
      ap (take (length wanted)) loaded ∙ take_at (list_of (length wanted) (mapping wanted)) (drop (length (list_of (length wanted) (mapping wanted))) old) (length wanted) l

  pub front-perm : IsPerm (take (length wanted) perm)
  front-perm = rw front-is (perm-listed (wanted-perm W))

  front-bits : mapping_bits (take (length wanted) perm) ≡ wanted_bits (level_of (length wanted)) wanted
  unfolding wanted_bits
  front-bits =
      ap mapping_bits front-is ∙ ap (λ n. list_bits (level_of n) (list_of (length wanted) (mapping wanted))) (length-list_of (length wanted) (mapping wanted))
      ∙ bits-listed (wanted-perm W) (level_of (length wanted))

  -- the bits that are stored for that front
  pub front-stored : (before : List ℕ) (start : ℕ) {after : List ℕ} → after ≡ store_bits before start (mapping_bits (take (length wanted) perm))
      → after ≡ store_bits before start (wanted_bits (level_of (length wanted)) wanted)
  front-stored before start stored = stored ∙ ap (store_bits before start) front-bits

-- from a bit of the first byte on they keep to bits that 32 bits number
pub bits_fit : {n N : ℕ} (place : ℕ) → SizeIs N → n ≡ N → place < 8 → place + permutation_count (level_of n) < 2 ^ 32
bits_fit place size e first = rw e (omega (arith, few_bits_lem size))

-- what is known of the wanted inputs where no check fails
pub record WantedPasses (N : ℕ) (wanted : List ℕ) (start room : ℕ) : Type 0 where
  pub sized : length wanted ≡ N
  pub size_is : SizeIs (length wanted)
  pub wanted_once : Wanted (length wanted) wanted
  pub fits : start + permutation_count (level_of (length wanted)) ≤ bits_held room

pub wanted-passes : {N : ℕ} {wanted : List ℕ} {start room : ℕ} → 0 ≡ program_at_fault N wanted start room → WantedPasses N wanted start room
wanted-passes z =
    let h = program-passes (sym z) in
    let e = h.wanted_once.size in
    record { sized = e; size_is = rw e h.size; wanted_once = rw e h.wanted_once; fits = rw e h.fits }

-- the checks of a call that is lent a program are those of storing from its front on
pub fault_at_front : (N : ℕ) (wanted : List ℕ) (room : ℕ) → program_fault N wanted room ≡ program_at_fault N wanted 0 room
fault_at_front N wanted room = sym (fault-at N wanted room)

pub program-stored : (N : ℕ) (wanted : List ℕ) (start : ℕ) (program : List ℕ) → program_at_fault N wanted start (length program) ≡ 0
    → (Wanted (2 ^ level_of N) wanted) × (program_at_result N wanted start program ≡ store_bits program start (wanted_bits (level_of N) wanted))
program-stored N wanted start program e =
    let h = program-passes e in
    (rw h.size.power h.wanted_once, sym (stored-done (program_at_fault N wanted start (length program)) start (wanted_bits (level_of N) wanted) program (sym e)))
