-- Document 01, S's programming: "Input j with c(j) above 0 goes to position 1 + c(1) + .. + c(j - 1), a head. Inputs with none, dummies
-- included, take the other positions in rising order. Y at position i has bit 1 exactly if i is a head. The second network gives output o,
-- wanting input j, the position of j's head plus the number of earlier outputs wanting j. Outputs past n take their own position." Here the
-- rule stands by itself, without the searches by which the positions and the inverses are computed. All count from 0.
use Rattle.std.specs.Prelude.{◌≡◌, List, ◌++◌, ℕ, suc, ◌+◌, ◌-◌, ◌^◌, ◌≤◌, ◌<◌, length, get_or}
use Rattle.block_networks.specs.Permutation.{Perm}
use Rattle.block_networks.specs.SideRule.{RuleBits}
use Rattle.block_networks.specs.Completion.{RisingCompletion}
use Rattle.block_networks.specs.Selection.{wanting, copies, is_wanted, head_of}

-- position p is the head of one of the N inputs
pub record Head (N n : ℕ) (want : ℕ → ℕ) (p : ℕ) : Type 0 where
  pub input : ℕ
  pub low : input < N
  pub wanted : 0 < copies want n input
  pub here : head_of want n input ≡ p

-- ρ takes the wanted inputs to their heads, and the others in rising order onto the other positions
abbrev pub FirstRule : ℕ → ℕ → (ℕ → ℕ) → (ℕ → ℕ) → Type 0
FirstRule N n want ρ = RisingCompletion N (is_wanted want n) (head_of want n) ρ

-- the chain's bits, that of the Y at position 1 first
pub record ChainRule (N n : ℕ) (want : ℕ → ℕ) (bits : List ℕ) : Type 0 where
  pub size : length bits ≡ N - 1
  pub head : (i : ℕ) → suc i < N → Head N n want (suc i) → get_or bits i 0 ≡ 1
  pub other : (i : ℕ) → suc i < N → ¬ (Head N n want (suc i)) → get_or bits i 0 ≡ 0

-- π gives each output its position
pub record SecondRule (n : ℕ) (want π : ℕ → ℕ) : Type 0 where
  pub copy : (o : ℕ) → o < n → π o ≡ head_of want n (want o) + wanting want o (want o)
  pub own : (o : ℕ) → n ≤ o → π o ≡ o

-- the bits of a block of this level that is programmed by the rule, where each P is programmed by its own
pub data SelectionRule (level n : ℕ) (want : ℕ → ℕ) : List ℕ → Type 0 where
  rule-selection : {π ρ π' ρ' : ℕ → ℕ} {first chain second : List ℕ}
      → Perm (2 ^ level) π ρ → FirstRule (2 ^ level) n want ρ → RuleBits level π ρ first
      → ChainRule (2 ^ level) n want chain
      → Perm (2 ^ level) π' ρ' → SecondRule n want π' → RuleBits level π' ρ' second
      → SelectionRule level n want (first ++ (chain ++ second))
