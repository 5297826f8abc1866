-- Document 01, P's programming: "input and output pairs joined by the mapping form loops. In the loop holding the last output pair, that
-- pair is straight. In each other loop its lowest output pair is straight. This fixes every bit." Here the rule stands by itself,
-- without the walks by which `side` is computed. Pair i is the places 2i and 2i + 1, h is the number of output pairs.
use Rattle.std.specs.Prelude.{◌≡◌, ◌≢◌, List, [], ◌++◌, ℕ, suc, ◌+◌, ◌-◌, ◌*◌, ◌/◌, ◌^◌, ◌≤◌, ◌<◌}
use Rattle.lists.specs.Lists.{list_of}
use Rattle.block_networks.specs.Permutation.{Perm, partner, in_half}
use Rattle.block_networks.specs.Wanted.{mapping}

-- an input pair or an output pair, by its number
pub data Pair : Type 0 where
  inputPair outputPair : ℕ → Pair

-- the mapping joins output pair i and input pair j: an output of the one takes an input of the other
pub record Joined (π : ℕ → ℕ) (i j : ℕ) : Type 0 where
  pub output : ℕ
  pub leaves : output / 2 ≡ i
  pub enters : π output / 2 ≡ j

-- the loop of the pair p: p, and every pair that is joined to one of the loop
pub data Loop (π : ℕ → ℕ) (p : Pair) : Pair → Type 0 where
  start : Loop π p p
  to-input : {i j : ℕ} → Loop π p (outputPair i) → Joined π i j → Loop π p (inputPair j)
  to-output : {i j : ℕ} → Loop π p (inputPair j) → Joined π i j → Loop π p (outputPair i)

-- output pair i is the lowest of its loop, and the last output pair is not in it
pub record Lowest (h : ℕ) (π : ℕ → ℕ) (i : ℕ) : Type 0 where
  pub low : (k : ℕ) → Loop π (outputPair i) (outputPair k) → i ≤ k
  pub not_last : (k : ℕ) → Loop π (outputPair i) (outputPair k) → suc k ≢ h

-- s gives each output its half, 0 or 1, as the rule says. An output pair is straight if its first output comes from the upper half
pub record SideRule (h : ℕ) (π ρ s : ℕ → ℕ) : Type 0 where
  pub outputs-apart : (o : ℕ) → o < 2 * h → s o + s (partner o) ≡ 1
  pub inputs_apart : (x : ℕ) → x < 2 * h → s (ρ x) + s (ρ (partner x)) ≡ 1
  pub last-straight : (i : ℕ) → suc i ≡ h → s (2 * i) ≡ 0
  pub lowest-straight : (i : ℕ) → i < h → Lowest h π i → s (2 * i) ≡ 0

-- the bits of a P(2 ^ n) that is programmed by the rule, on each of its levels, for the mapping π with the inverse ρ
pub data RuleBits : ℕ → (ℕ → ℕ) → (ℕ → ℕ) → List ℕ → Type 0 where
  rule-wire : {π ρ : ℕ → ℕ} → RuleBits 0 π ρ []
  rule-level : {n : ℕ} {π ρ : ℕ → ℕ} {upper lower : List ℕ} (s : ℕ → ℕ) → SideRule (2 ^ n) π ρ s
      → RuleBits n (in_half π s 0) (in_half ρ (λ x. s (ρ x)) 0) upper
      → RuleBits n (in_half π s 1) (in_half ρ (λ x. s (ρ x)) 1) lower
      → RuleBits (suc n) π ρ (list_of (2 ^ n) (λ j. s (ρ (2 * j))) ++ (upper ++ (lower ++ list_of (2 ^ n - 1) (λ i. s (2 * i)))))

-- the bits of a P(2 ^ n) that is programmed by the rule for the list of wanted inputs: for the loops of its mapping, ρ being the mapping's inverse
pub data WantedRule (n : ℕ) (wanted : List ℕ) : List ℕ → Type 0 where
  rule-wanted : {ρ : ℕ → ℕ} {bits : List ℕ} → Perm (2 ^ n) (mapping wanted) ρ → RuleBits n (mapping wanted) ρ bits → WantedRule n wanted bits
