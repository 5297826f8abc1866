-- Document 01's selection block S(K/2, K) keeps what the block inside U must promise, by S's own promises; and its counts.
use mathlib.Core.Path.{◌≡◌}
use mathlib.Core.List.{List}
use Prim.Native.Nat.{ℕ, suc, ◌+◌, ◌*◌, ◌^◌}
use native.Mathlib.Nat.{pow-suc}
use native.Mathlib.Omega.{arith}
use Rattle.blocks.specs.Networks.{selection_level}
use Rattle.blocks.proofs.NetworksLaws.{level-power, selection-count, selection-made}
use Rattle.blocks.proofs.PromisesLaws.{selection-block-shape, selection-block-delivers}
use Rattle.fabric_universal.specs.Selector.{pin_count, SelectorShape, SelectorDelivers, selection}

-- twice the gates of a half
pub double : (n : ℕ) → 2 ^ suc n ≡ 2 * 2 ^ n
double n = omega (arith, pow-suc 2 n)

-- by S's own promise
pub selection-shape : SelectorShape selection
selection-shape = record { at = λ n. selection-block-shape (2 ^ n) (pin_count n) }

pub selection_keeps : {A : Type 0} (none : A) (gate : ℕ → List ℕ → List A → A) → SelectorDelivers none gate selection
selection_keeps none gate = record { at = λ n. selection-block-delivers none gate (2 ^ n) (pin_count n) }

-- ---- its counts

-- S(K/2, K) is of K's level
half-level : (n : ℕ) → selection_level (2 ^ n) (pin_count n) ≡ suc n
half-level n = rw (← double n) (level-power (2 ^ n) (suc n) (omega (arith, double n)))

pub half_count : (n : ℕ) → (selection n).count + 2 ^ suc n ≡ 2 * (suc n * 2 ^ suc n) + 1
half_count n = rw (half-level n) at (selection-count (2 ^ n) (pin_count n))

pub half-made : (n : ℕ) → (selection n).wires + 3 * 2 ^ suc n ≡ 4 * (suc n * 2 ^ suc n) + 3
half-made n = rw (half-level n) at (selection-made (2 ^ n) (pin_count n))
