-- an entry is that of the output of its side
use mathlib.Core.Path.{◌≡◌, refl, ◌∙◌}
use mathlib.Core.List.{List, append-nil}
use Prim.Native.Nat.{ℕ, ◌/◌, ◌≤◌}
use native.Mathlib.Omega.{arith}
use lib.ListN.{length, drop_of_length-le}
use Rattle.lists.specs.Lists.{list_of}
use Rattle.lists.proofs.ListsLaws.{length-list_of}
use Rattle.fault.specs.Buffers.{over}
use Rattle.fault.proofs.BuffersLaws.{list-step}
use Rattle.block_loops.specs.Mappings.{half_entry}
use Rattle.block_loops.proofs.MappingsLaws.{half-entry}
use Rattle.block_permutation_bits.proofs.level.half_maps.Goals as goal

-- a list that is written over another of at most its length
over_all : {n h : ℕ} (f : ℕ → ℕ) {l : List ℕ} (old : List ℕ) → l ≡ over (list_of n f) old → length old ≤ n → n ≡ h → l ≡ list_of h f
over_all {n} {h} f old e le eq = e ∙ rw (length-list_of n f, drop_of_length-le old le, append-nil (list_of n f), eq) refl

pub loop-i-init : goal.loop-i-init
unfolding list_of
loop-i-init c = (refl, refl)

pub loop-i-preserved : goal.loop-i-preserved
loop-i-preserved c =
    let p = c.args.inputs.now in
    let m = c.args.sides.now in
    let i = c.loop-i.i in
    let bit = c.requires.are_bits.each i in
    let first = c.of_side.ensures in
    let second = c.of_side-in-loop-i.ensures in
    let upper = half-entry 0 p m i (λ e. first.0 (omega arith)) (λ e. first.1 (λ z. absurd (omega arith))) in
    let lower = half-entry 1 p m i (λ e. second.1 (λ z. absurd (omega arith))) (λ e. second.0 (omega arith)) in
    (list-step _ i (half_entry 0 p m) c.loop-i.invariant.0 upper (omega arith), list-step _ i (half_entry 1 p m) c.loop-i.invariant.1 lower (omega arith))

pub returns : goal.returns
returns c =
    let p = c.args.inputs.now in
    let m = c.args.sides.now in
    let upper = over_all {h = length p / 2} (half_entry 0 p m) _ c.loop-i.invariant.0 (omega arith) (omega arith) in
    let lower = over_all {h = length p / 2} (half_entry 1 p m) _ c.loop-i.invariant.1 (omega arith) (omega arith) in
    cc
