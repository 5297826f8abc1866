-- The selection block inside U, document 01's S(K/2, K), as a parameter: at the level n of the half that feeds it a block with 2 ^ n inputs, and an
-- output for each pin of U(2 ^ n); and what it must promise.
use Rattle.std.specs.Prelude.{ℕ, ◌*◌, ◌^◌, List}
use Rattle.blocks.specs.Elements.{operands}
use Rattle.blocks.specs.Networks.{Selected}
use Rattle.blocks.specs.Promises.{Block, BlockShape, BlockDelivers, selection_block}

-- the pins of U(2 ^ n): 2K, two for each gate
abbrev pub pin_count : ℕ → ℕ
pin_count n = operands * 2 ^ n

-- a selection block for each level
abbrev pub Selector : Type 0
Selector = (n : ℕ) → Block (2 ^ n) (pin_count n)

-- the promise of its rows, wires and bits, and of its run
pub record SelectorShape (S : Selector) : Type 0 where
  pub at : (n : ℕ) → BlockShape (Selected (2 ^ n) (pin_count n)) (S n)

pub record SelectorDelivers {A : Type 0} (none : A) (gate : ℕ → List ℕ → List A → A) (S : Selector) : Type 0 where
  pub at : (n : ℕ) → BlockDelivers none gate (Selected (2 ^ n) (pin_count n)) (S n)

-- document 01's: S(K/2, K)
abbrev pub selection : Selector
selection n = selection_block (2 ^ n) (pin_count n)
