-- U's bits by its halves: how many they are, that what the halves and the part between them store is U's, and that they depend on the operands and
-- tables of U's own gates alone, wherever these stand.
use mathlib.Core.Path.{◌≡◌, refl, sym, ap, ap₂, ◌∙◌}
use mathlib.Core.List.{List, ◌++◌, append_assoc}
use Prim.Native.Nat.{ℕ, zero, suc, ◌+◌, ◌*◌, ◌/◌, ◌%◌, ◌^◌, ◌≤◌, ◌<◌}
use native.Mathlib.Omega.{arith}
use lib.ListN.{length, get_or, take, drop, length-append, length-drop, length-take}
use lib.Pow.{pow_pos}
use lib.Seq.{get_or-drop, get_or-take}
use Rattle.lists.proofs.ListsLaws.{list_of_ext}
use Rattle.lists.specs.Counting.{one_if}
use Rattle.blocks.specs.Elements.{operands, gate_bits, choose, store_bits}
use Rattle.blocks.proofs.ElementsLaws.{store_bits-append}
use Rattle.blocks.specs.Networks.{selection_count, selection_bits}
use Rattle.blocks.proofs.NetworksLaws.{length-selection_bits}
use Rattle.blocks.specs.Calls.{selection_program_at_result, SelectionPasses}
use Rattle.blocks.proofs.CallsLaws.{selection-program-at_succeeds, stored-done}
use Rattle.plan.specs.declared.record.Gate.{Gate}
use Rattle.plan.specs.Record.{zero_gate}
use Rattle.fabric_universal.specs.Selector.{pin_count, selection}
use Rattle.fabric_universal.proofs.SelectorLaws.{double, selection-shape}
use Rattle.fabric_universal.specs.Universal.{Gates, universal_takes, table_program, is_of, wanted_gate, wanted_gates, mix_bits, universal_bits}
use Rattle.fabric_universal.proofs.UniversalLaws.{length-universal_bits}
use Rattle.fabric_universal.proofs.UniversalProgram.{wanted-selected, length-mix_bits}
use Rattle.fabric_universal.specs.Fabric.{gate_level, gates_of}
use Rattle.fabric_lists.specs.GateLists.{gates_listed}
use Rattle.fabric_lists.specs.WantedLists.{listed_gates, listed_operands}
use Rattle.fabric_sizes.proofs.PartsLaws.{one-gate, Halved, halved}
use Rattle.fabric_bits.specs.ProgramParts.{between_bits, BetweenRoom, UniversalProgramRoom}

-- ---- U by its halves

-- what its parts are lent
module _ {before gates wanted start room half : ℕ} (R : UniversalProgramRoom before gates wanted start room) (H : Halved gates half) where
  abbrev n : ℕ
  n = gate_level half

  pub takes-half : universal_takes selection (gate_level gates)
      ≡ universal_takes selection n + (selection_count half (operands * half) + (operands * half + universal_takes selection n))
  unfolding universal_takes
  takes-half =
      rw H.level
      (ap (λ h. universal_takes selection n + (selection_count h (operands * h) + (operands * h + universal_takes selection n))) (sym H.power))

  pub upper-program-room : {b g : ℕ} → b ≡ before → g ≡ half → UniversalProgramRoom b g wanted start room
  upper-program-room eb eg = rw (eb, eg) (record {
    power = H.power;
    all = omega (arith, H.twice, R.all);
    wires = omega (arith, H.twice, R.wires);
    wanted_room = omega (arith, H.twice, R.wanted_room);
    few = omega (arith, takes-half, R.few);
    fits = omega (arith, takes-half, R.fits);
  })

  pub between_room : {between w r : ℕ} → between ≡ start + universal_takes selection n → w ≡ wanted → r ≡ room → BetweenRoom half w between r
  between_room eb ew er = record {
    some = H.some;
    gates = omega (arith, H.twice, R.all);
    wanted_room = omega (arith, H.twice, R.wanted_room);
    few = omega (arith, takes-half, R.few);
    fits = omega (arith, takes-half, R.fits);
  }

  pub lower-program-room : {b g lower w r : ℕ} → b ≡ before + half → g ≡ half
      → lower ≡ start + universal_takes selection n + (selection_count half (operands * half) + operands * half) → w ≡ wanted → r ≡ room
      → UniversalProgramRoom b g w lower r
  lower-program-room eb eg el ew er = rw (eb, eg) (record {
    power = H.power;
    all = omega (arith, H.twice, R.all);
    wires = omega (arith, H.twice, R.wires);
    wanted_room = omega (arith, H.twice, R.wanted_room);
    few = omega (arith, takes-half, R.few);
    fits = omega (arith, takes-half, R.fits);
  })

-- ---- S's call, where it has nothing to refuse

pub selection_stored : {m n start : ℕ} {wanted : List ℕ} (program : List ℕ) → SelectionPasses m n wanted start (length program)
    → selection_program_at_result m n wanted start program ≡ store_bits program start (selection_bits m n wanted)
selection_stored {m} {n} {start} {wanted} program P =
    let s = P.sizes in
    let none = selection-program-at_succeeds m n start (length program) s.some_inputs s.inputs s.some_outputs s.outputs P.selected P.fits in
    sym (stored-done _ start (selection_bits m n wanted) program (sym none))

-- ---- between the halves

pub length_between : (G : Gates) (base h : ℕ) → length (between_bits G base h) ≡ selection_count h (operands * h) + operands * h
unfolding between_bits
length_between G base h =
    length-append (selection_bits h (operands * h) (wanted_gates G base h)) _
    ∙ ap₂ (λ a b. a + b) (length-selection_bits h (operands * h) (wanted_gates G base h)) (length-mix_bits G base h)

pub between_passes : {h w start room : ℕ} (G : Gates) (base : ℕ) (wanted : List ℕ) → BetweenRoom h w start room → take (2 * h) wanted ≡ wanted_gates G base h
    → SelectionPasses h (2 * h) (take (2 * h) wanted) start room
between_passes {h} G base wanted R e = record {
  sizes = record { some_inputs = R.some; inputs = omega arith; some_outputs = omega arith; outputs = omega arith };
  selected = rw e (wanted-selected G base h R.some);
  fits = omega (arith, R.fits);
}

pub between_stored : (G : Gates) (base h start : ℕ) (s₀ : List ℕ) {choices : ℕ} {wanted s₁ s₂ : List ℕ} → wanted ≡ wanted_gates G base h
    → s₁ ≡ store_bits s₀ start (selection_bits h (2 * h) wanted) → choices ≡ start + selection_count h (2 * h)
    → s₂ ≡ store_bits s₁ choices (mix_bits G base h) → s₂ ≡ store_bits s₀ start (between_bits G base h)
unfolding between_bits
between_stored G base h start s₀ {choices} {wanted} {s₁} {s₂} ew e₁ ec e₂ =
    let S = selection_bits h (2 * h) (wanted_gates G base h) in
    let first : s₁ ≡ store_bits s₀ start S = e₁ ∙ ap (λ w. store_bits s₀ start (selection_bits h (2 * h) w)) ew in
    let at : choices ≡ start + length S = ec ∙ ap (λ n. start + n) (sym (length-selection_bits h (2 * h) (wanted_gates G base h))) in
    e₂ ∙ ap₂ (λ s p. store_bits s p (mix_bits G base h)) first at ∙ sym (store_bits-append s₀ start S (mix_bits G base h))

-- the tables do not matter there
pub between_listed : (before : ℕ) (operandList tables : List ℕ) (base h : ℕ)
    → between_bits (listed_operands before operandList) base h ≡ between_bits (listed_gates before operandList tables) base h
unfolding between_bits wanted_gates wanted_gate mix_bits is_of
between_listed before operandList tables base h = refl

-- ---- gates past U's own never matter, nor where its own stand

-- the gates of F are those of G from `from` on, below a limit
module _ (from limit : ℕ) (F G : Gates) (before : F.before ≡ G.before + from)
    (pin : (q : ℕ) → q < operands * limit → F.operand q ≡ G.operand (operands * from + q))
    (own : (g : ℕ) → g < limit → F.table g ≡ G.table (from + g)) where
  shifted-pin : (base h j : ℕ) → base + (h + h) ≤ limit → j < operands * h
      → F.operand (operands * (base + h) + j) ≡ G.operand (operands * (from + base + h) + j)
  shifted-pin base h j l m =
      let e : operands * from + (operands * (base + h) + j) ≡ operands * (from + base + h) + j = omega arith in
      pin (operands * (base + h) + j) (omega arith) ∙ ap G.operand e

  shifted-place : (base : ℕ) → F.before + base ≡ G.before + (from + base)
  shifted-place base = omega (arith, before)

  shifted-is : (base h w : ℕ) → is_of F base h w ≡ is_of G (from + base) h w
  unfolding is_of
  shifted-is base h w = rw (shifted-place base) refl

  shifted-wants : (base h w : ℕ) → wanted_gate F base h w ≡ wanted_gate G (from + base) h w
  unfolding wanted_gate is_of
  shifted-wants base h w = rw (shifted-place base) refl

  shifted-wanted : (base h : ℕ) → base + (h + h) ≤ limit → wanted_gates F base h ≡ wanted_gates G (from + base) h
  unfolding wanted_gates
  shifted-wanted base h l =
      list_of_ext (operands * h) _ _ (λ j m. ap (wanted_gate F base h) (shifted-pin base h j l m) ∙ shifted-wants base h _)

  shifted-mix : (base h : ℕ) → base + (h + h) ≤ limit → mix_bits F base h ≡ mix_bits G (from + base) h
  unfolding mix_bits
  shifted-mix base h l =
      list_of_ext (operands * h) _ _ (λ j m. ap one_if (ap (is_of F base h) (shifted-pin base h j l m) ∙ shifted-is base h _))

  shifted-bits : (n base : ℕ) → base + 2 ^ n ≤ limit → universal_bits selection F n base ≡ universal_bits selection G n (from + base)
  unfolding universal_bits
  shifted-bits zero base l = ap table_program (own base (omega arith))
  shifted-bits (suc n) base l =
      let half : base + (2 ^ n + 2 ^ n) ≤ limit = omega (arith, double n) in
      let behind : from + (base + 2 ^ n) ≡ from + base + 2 ^ n = omega arith in
      rw (
        shifted-bits n base (omega arith),
        shifted-bits n (base + 2 ^ n) (omega arith),
        shifted-wanted base (2 ^ n) half,
        shifted-mix base (2 ^ n) half,
        behind,
      )

-- gates that agree on all operands and tables below a limit
pub record SameGates (limit : ℕ) (G H : Gates) : Type 0 where
  pub before : G.before ≡ H.before
  pub operand : (q : ℕ) → q < operands * limit → G.operand q ≡ H.operand q
  pub table : (g : ℕ) → g < limit → G.table g ≡ H.table g

module _ (limit : ℕ) (G H : Gates) (same : SameGates limit G H) where
  pub universal_same : (n base : ℕ) → base + 2 ^ n ≤ limit → universal_bits selection G n base ≡ universal_bits selection H n base
  universal_same n base l =
      let at : (i : ℕ) → 0 + i ≡ i = λ i. omega arith in
      let pin : (q : ℕ) → operands * 0 + q ≡ q = λ q. omega arith in
      shifted-bits 0 limit G H (omega (arith, same.before)) (λ q m. same.operand q m ∙ ap H.operand (sym (pin q)))
      (λ g m. same.table g m ∙ ap H.table (sym (at g))) n base l
      ∙ ap (universal_bits selection H n) (at base)

-- a whole U of gates that are those of g from `from` on, below a limit
module _ (u from limit : ℕ) (f g : ℕ → Gate) (same : (i : ℕ) → i < limit → f i ≡ g (from + i)) where
  shifted-operand : (q : ℕ) → q < operands * limit → (gates_of (u + from) f).operand q ≡ (gates_of u g).operand (operands * from + q)
  unfolding choose
  shifted-operand q l =
      let m : (operands * from + q) % operands ≡ q % operands = omega arith in
      let d : (operands * from + q) / operands ≡ from + q / operands = omega arith in
      rw (m, d) (ap (λ x. choose (q % operands) x.first.0 x.second.0) (same (q / operands) (omega arith)))

  pub moved-bits : (n : ℕ) {b base : ℕ} → b ≡ u + from → base ≡ from → 2 ^ n ≤ limit
      → universal_bits selection (gates_of b f) n 0 ≡ universal_bits selection (gates_of u g) n base
  moved-bits n eb ebase l =
      let at : from + 0 ≡ from = omega arith in
      let moved = shifted-bits from limit (gates_of (u + from) f) (gates_of u g) refl shifted-operand (λ i m. ap (λ x. x.table) (same i m)) in
      rw (eb, ebase) (moved n 0 (omega arith) ∙ ap (universal_bits selection (gates_of u g) n) at)

-- h gates of a list from one on
part-bits : (before from h : ℕ) (list part : List Gate) {b : ℕ} → b ≡ before + from → length part ≡ h → h ≡ 2 ^ gate_level h
    → ((i : ℕ) → i < h → get_or part i zero_gate ≡ get_or list (from + i) zero_gate)
    → universal_bits selection (gates_listed b part) (gate_level (length part)) 0 ≡ universal_bits selection (gates_listed before list) (gate_level h) (0 + from)
part-bits before from h list part {b} eb size power same =
    rw size
    (moved-bits before from h (λ i. get_or part i zero_gate) (λ i. get_or list i zero_gate) same (gate_level h) eb (omega arith) (omega arith))

-- the first half of the gates, and the other
pub length-upper : (list : List Gate) {part : List Gate} {h : ℕ} → Halved (length list) h → part ≡ take h list → length part ≡ h
length-upper list {h = h} H ep = ap length ep ∙ length-take h list ∙ omega (arith, H.twice)

pub length-lower : (list : List Gate) {part : List Gate} {h : ℕ} → Halved (length list) h → part ≡ drop h list → length part ≡ h
length-lower list {h = h} H ep = ap length ep ∙ length-drop h list ∙ omega (arith, H.twice)

module _ (before : ℕ) (list : List Gate) {part : List Gate} {b h : ℕ} (H : Halved (length list) h) where
  pub upper-bits : b ≡ before → part ≡ take h list
      → universal_bits selection (gates_listed b part) (gate_level (length part)) 0 ≡ universal_bits selection (gates_listed before list) (gate_level h) 0
  upper-bits eb ep =
      part-bits before 0 h list part (omega arith) (length-upper list H ep) H.power (λ i l.
      let same : i ≡ 0 + i = omega arith in
      ap (λ p. get_or p i zero_gate) ep ∙ get_or-take h list i zero_gate l ∙ ap (λ k. get_or list k zero_gate) same)

  pub lower-bits : b ≡ before + h → part ≡ drop h list
      → universal_bits selection (gates_listed b part) (gate_level (length part)) 0 ≡ universal_bits selection (gates_listed before list) (gate_level h) (0 + h)
  lower-bits eb ep =
      part-bits before h h list part eb (length-lower list H ep) H.power (λ i l.
      ap (λ p. get_or p i zero_gate) ep ∙ get_or-drop h list i zero_gate)

-- ---- the whole

-- more gates than one
pub more-gates : {gates : ℕ} → gates ≡ 2 ^ gate_level gates → (gates ≡ 1 → ⊥) → Halved gates (gates / 2)
more-gates {gates} power more = halved power (omega (arith, pow_pos (gate_level gates)))

-- U(1)
pub gate-takes : {gates : ℕ} → gates ≤ 1 → universal_takes selection (gate_level gates) ≡ gate_bits
unfolding universal_takes
gate-takes l = rw (one-gate l)

pub gate-stored : (G : Gates) (gates base start : ℕ) (s₀ : List ℕ) → gates ≤ 1
    → store_bits s₀ start (table_program (G.table base)) ≡ store_bits s₀ start (universal_bits selection G (gate_level gates) base)
unfolding universal_bits
gate-stored G gates base start s₀ l = rw (one-gate l)

-- the upper half, the part between, the lower half
halves_at : (G : Gates) (n base start : ℕ) (s₀ : List ℕ) {h between lower : ℕ} {s₁ s₂ s₃ : List ℕ} → h ≡ 2 ^ n
    → s₁ ≡ store_bits s₀ start (universal_bits selection G n base)
    → between ≡ start + universal_takes selection n → s₂ ≡ store_bits s₁ between (between_bits G base h)
    → lower ≡ between + length (between_bits G base h) → s₃ ≡ store_bits s₂ lower (universal_bits selection G n (base + h))
    → s₃ ≡ store_bits s₀ start (universal_bits selection G (suc n) base)
unfolding universal_bits between_bits
halves_at G n base start s₀ {h} {between} {lower} {s₁} {s₂} {s₃} eh e₁ eb e₂ el e₃ =
    let U = universal_bits selection G n base in
    let B = between_bits G base (2 ^ n) in
    let L = universal_bits selection G n (base + 2 ^ n) in
    let first = store_bits s₀ start U in
    let at : between ≡ start + length U = eb ∙ ap (λ k. start + k) (sym (length-universal_bits selection selection-shape G n base)) in
    let second : s₂ ≡ store_bits first between B = e₂ ∙ ap₂ (λ s k. store_bits s between (between_bits G base k)) e₁ eh in
    e₃ ∙ ap (λ k. store_bits s₂ lower (universal_bits selection G n (base + k))) eh
    ∙ ap₂ (λ s p. store_bits s p L) second (el ∙ ap (λ k. between + length (between_bits G base k)) eh)
    ∙ sym (store_bits-append first between B L)
    ∙ ap (λ p. store_bits first p (B ++ L)) at
    ∙ sym (store_bits-append s₀ start U (B ++ L))
    ∙ ap (λ t. store_bits s₀ start (U ++ t)) (append_assoc (selection_bits (2 ^ n) (pin_count n) (wanted_gates G base (2 ^ n))) (mix_bits G base (2 ^ n)) L)

pub halves_stored : (G : Gates) (gates base start : ℕ) (s₀ : List ℕ) {h between lower : ℕ} {s₁ s₂ s₃ : List ℕ} → Halved gates h
    → s₁ ≡ store_bits s₀ start (universal_bits selection G (gate_level h) base)
    → between ≡ start + universal_takes selection (gate_level h) → s₂ ≡ store_bits s₁ between (between_bits G base h)
    → lower ≡ between + length (between_bits G base h) → s₃ ≡ store_bits s₂ lower (universal_bits selection G (gate_level h) (base + h))
    → s₃ ≡ store_bits s₀ start (universal_bits selection G (gate_level gates) base)
halves_stored G gates base start s₀ {h} H e₁ eb e₂ el e₃ =
    halves_at G (gate_level h) base start s₀ H.power e₁ eb e₂ el e₃
    ∙ ap (λ n. store_bits s₀ start (universal_bits selection G n base)) (sym H.level)
