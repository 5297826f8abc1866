-- The parts of a fabric of counts of 16 bits are small, and a power of two above 1 has a half of the level below.
use mathlib.Core.Path.{◌≡◌, refl, sym, ap, ◌∙◌}
use Prim.Native.Nat.{ℕ, zero, suc, ◌+◌, ◌-◌, ◌*◌, ◌/◌, ◌^◌, ◌<◌, ◌≤◌}
use native.Mathlib.Nat.{mul-le-mul}
use native.Mathlib.Omega.{arith}
use lib.Pow.{pow_mono, pow_pos}
use Rattle.powers.proofs.PowersLaws.{ceil_log-least, ceil_log-power, not_below}
use Rattle.blocks.specs.Networks.{selection_level, selection_count, selection_wires}
use Rattle.blocks.proofs.NetworksLaws.{level-least, selection-count, selection-made}
use Rattle.plan.specs.declared.record.Plan.{Plan}
use Rattle.plan.specs.Record.{max_gates}
use Rattle.plan.specs.Faults.{Accepted}
use Rattle.plan.proofs.FaultsLaws.{accepted-counts, accepted-tallied}
use Rattle.fabric_universal.specs.Selector.{selection}
use Rattle.fabric_universal.proofs.SelectorLaws.{double}
use Rattle.fabric_universal.specs.Universal.{universal_count, universal_wires, universal_takes}
use Rattle.fabric_universal.proofs.UniversalLaws.{universal_takes_lem, universal_count_lem, universal_made}
use Rattle.fabric_universal.specs.Fabric.{gate_level}
use Rattle.fabric_universal.proofs.FabricLaws.{gate-places}
use Rattle.fabric_sizes.specs.Parts.{top_level, block_limit, PlacesAre, SelectionWithin, UniversalIs}

-- ---- K

pub places_are : {k places : ℕ} → k ≤ 2 ^ top_level → places ≡ 2 ^ gate_level k → PlacesAre k places
places_are {k} h e =
    record { is_places = e; some = rw e (pow_pos (gate_level k)); most = rw e (pow_mono (ceil_log-least k top_level h)) }

-- the limit of k, 2 to the power 8, is one of K too
pub few-places : (k : ℕ) → k ≤ max_gates → 2 ^ gate_level k ≤ max_gates
few-places k h = pow_mono (ceil_log-least k 8 h)

-- K is its own K
pub same-level : (k : ℕ) → gate_level (2 ^ gate_level k) ≡ gate_level k
same-level k = ceil_log-power (gate_level k)

pub places-level : {k places : ℕ} → PlacesAre k places → gate_level places ≡ gate_level k
places-level {k} p = ap gate_level p.is_places ∙ same-level k

pub own-places : {k places : ℕ} → PlacesAre k places → PlacesAre places places
own-places p = record { is_places = p.is_places ∙ ap (λ n. 2 ^ n) (sym (places-level p)); some = p.some; most = p.most }

-- the K that an accepted plan holds
pub plan-places : (p : Plan) → Accepted p → PlacesAre p.gate_count p.gate_places
plan-places p accepted =
    let few = (accepted-counts p accepted).gates in
    places_are (omega arith) ((accepted-tallied p accepted).places ∙ sym (gate-places p.gate_count))

-- it has a place for each gate
pub all-placed : (p : Plan) → Accepted p → p.gate_count ≤ p.gate_places
all-placed p accepted = rw (accepted-tallied p accepted).places (not_below p.gate_count)

-- ---- a power of two and its half

-- U(1) is at level 0
pub one-gate : {gates : ℕ} → gates ≤ 1 → gate_level gates ≡ 0
one-gate {gates} h = omega (arith, ceil_log-least gates 0 h)

-- a number of gates, a power of two above 1, and its half
pub record Halved (gates half : ℕ) : Type 0 where
  pub twice : gates ≡ 2 * half
  pub level : gate_level gates ≡ suc (gate_level half)
  pub power : half ≡ 2 ^ gate_level half
  pub some : 1 ≤ half

halved-at : (gates n : ℕ) → gate_level gates ≡ n → gates ≡ 2 ^ n → 1 < gates → Halved gates (gates / 2)
halved-at gates zero at e l = absurd (omega arith)
halved-at gates (suc n) at e l =
    let half : gates / 2 ≡ 2 ^ n = omega (arith, double n) in
    let level : gate_level (gates / 2) ≡ n = ap gate_level half ∙ ceil_log-power n in
    record {
      twice = omega (arith, double n);
      level = at ∙ ap suc (sym level);
      power = half ∙ ap (λ m. 2 ^ m) (sym level);
      some = omega (arith, pow_pos n);
    }

pub halved : {gates : ℕ} → gates ≡ 2 ^ gate_level gates → 1 < gates → Halved gates (gates / 2)
halved {gates} e l = halved-at gates (gate_level gates) refl e l

-- ---- S

-- S(m, n) is small
pub record FewSelected (m n : ℕ) : Type 0 where
  pub rows : selection_count m n ≤ block_limit
  pub wires : selection_wires m n ≤ block_limit

pub few_selected : {m n : ℕ} → SelectionWithin m n → FewSelected m n
few_selected {m} {n} s =
    let level : ℕ = selection_level m n in
    let low : level ≤ suc top_level = level-least m n (suc top_level) s.inputs s.outputs in
    let most : level * 2 ^ level ≤ suc top_level * 2 ^ suc top_level = mul-le-mul low (pow_mono low) in
    record { rows = omega (arith, selection-count m n); wires = omega (arith, selection-made m n) }

-- ---- U: what the closed forms are computed from

-- the products stay in 32 bits, and the closed forms are the counts
pub record Products (n gates : ℕ) : Type 0 where
  pub low : n ≤ top_level
  pub square : n * n ≤ top_level * top_level
  pub rows : gates * (n * n + n) ≤ 2 ^ top_level * (top_level * top_level + top_level)
  pub wires : gates * (n * n) ≤ 2 ^ top_level * (top_level * top_level)
  pub is_rows : universal_count selection n + 1 ≡ gates * (n * n + n) + 2 * gates
  pub is_wires : universal_wires selection n + 3 ≡ 2 * (gates * (n * n)) + 4 * gates
  pub is_bits : universal_takes selection n ≡ universal_count selection n + 3 * gates

pub products : {gates n : ℕ} → PlacesAre gates gates → n ≡ gate_level gates → Products n gates
products {gates} {n} p at =
    let low : n ≤ top_level = rw at (ceil_log-least gates top_level p.most) in
    let square : n * n ≤ top_level * top_level = mul-le-mul low low in
    let more : n * n + n ≤ top_level * top_level + top_level = omega arith in
    let power : gates ≡ 2 ^ n = p.is_places ∙ ap (λ m. 2 ^ m) (sym at) in
    record {
      low = low;
      square = square;
      rows = mul-le-mul p.most more;
      wires = mul-le-mul p.most square;
      is_rows = rw power (universal_count_lem n);
      is_wires = rw power (universal_made n);
      is_bits = rw power (universal_takes_lem selection n);
    }

pub universal_is : {gates n : ℕ} → Products n gates → n ≡ gate_level gates → PlacesAre gates gates
    → UniversalIs (gate_level gates) (record {
      rows = gates * (n * n + n) + 2 * gates - 1;
      wires = 2 * (gates * (n * n)) + 4 * gates - 3;
      bits = gates * (n * n + n) + 2 * gates - 1 + 3 * gates;
    })
universal_is {gates} {n} p at places =
    let few = places.most in
    let some = places.some in
    rw (← at) (record {
      is_rows = omega (arith, p.is_rows);
      is_wires = omega (arith, p.is_wires);
      is_bits = omega (arith, p.is_rows, p.is_bits);
      few_rows = omega (arith, p.rows);
      few_wires = omega (arith, p.wires);
      few_bits = omega (arith, p.rows);
    })
