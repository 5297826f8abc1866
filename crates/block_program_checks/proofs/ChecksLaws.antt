-- The checks pass exactly if the sizes are allowed, the list names inputs as it should, and the bits have room.
use mathlib.Core.Path.{◌≡◌, refl, sym, ap, ◌∙◌}
use mathlib.Core.Logic.{◌≢◌, ◌↔◌}
use mathlib.Core.Bool.{Bool, true, false, not, ◌&&◌, and-eq-true_iff}
use mathlib.Core.List.{List}
use Prim.Native.Nat.{ℕ, zero, suc, ◌+◌, ◌*◌, ◌^◌, ◌≤◌, ◌<◌}
use native.Mathlib.Nat.{not-suc-le-zero}
use native.Mathlib.Numerals.{add-one}
use native.Mathlib.Decide.{ℕ_discrete, dec_lt}
use native.Mathlib.Omega.{arith}
use borrow.Author.Tests.{leb-true, eqb-false, le-leb, eq-eqb, ne_eqb, not-true, not-false}
use lib.Dec.{eqb, leb}
use Rattle.std.specs.List.{list_all}
use lib.ListN.{length, get_or, set, replicate, length-set, get_or-replicate, length-replicate}
use lib.Seq.{get_or-set_same, get_or-set_other}
use Rattle.fault.proofs.EntriesLaws.{each-entry}
use Rattle.fault.specs.declared.Fault.{Fault}
use Rattle.fault.specs.Number.{fault_number}
use Rattle.fault.specs.Checks.{unless, and_then}
use Rattle.fault.proofs.ChecksLaws.{unless-zero, and_then-zero, first_of-zero, next-passes, first-fails, number-positive, list-faultless}
use Rattle.block_elements.specs.Bits.{bytes_for, bits_held}
use Rattle.block_networks.specs.Wanted.{Wanted}
use Rattle.block_networks.specs.Selection.{selection_level, whole_count, selection_count, Selected}
use Rattle.block_networks.specs.Permutation.{permutation_count}
use Rattle.block_sizes.specs.Sizes.{max_size, max_level, size_allowed, level_of, SizeIs, SelectionSizes}
use Rattle.block_sizes.proofs.SizesLaws.{size_is, power-allowed, few-rows, selection-sizes-allowed, selection-level-small, power_small}
use Rattle.block_program_checks.specs.Bits.{bits_at_fault}
use Rattle.block_program_checks.specs.Checks.{first_source, selected_fault, not_among, is_new, twice_fault, Marked, source_fault, wanted_fault}
use Rattle.block_program_checks.specs.Checks.{program_fault, program_at_fault, selection_wanted_fault, selection_program_fault, selection_program_at_fault}
use Rattle.block_program_checks.specs.Checks.{SelectionPasses}
use Rattle.block_program_checks.proofs.BitsLaws.{bits-faultless, bits-at-front}

-- ---- check 9, entry by entry

module _ (allowed : ℕ → Bool) where
  -- an entry that is not allowed, after entries that are
  pub source-refused : (k o : ℕ) → o < k → first_source allowed o ≡ 0 → allowed o ≡ false → fault_number Fault.Source ≡ first_source allowed k
  source-refused k o l z e =
      first-fails (λ o. unless (allowed o) Fault.Source) k o (fault_number Fault.Source) l z (ap (λ t. unless t Fault.Source) (sym e)) (number-positive Fault.Source)

  pub source-passed : (o : ℕ) → first_source allowed o ≡ 0 → allowed o ≡ true → first_source allowed (o + 1) ≡ 0
  source-passed o z e = rw (add-one o) (next-passes (λ o. unless (allowed o) Fault.Source) o z (ap (λ t. unless t Fault.Source) e))

-- an entry that is in 1 to m
abbrev pub in_range : ℕ → ℕ → Bool
in_range m x = leb 1 x && leb x m

pub selected_is : (m : ℕ) (wanted : List ℕ) → selected_fault m wanted ≡ unless (list_all (in_range m) wanted) Fault.Source
unfolding selected_fault
selected_is m wanted = each-entry (in_range m) Fault.Source wanted

pub selected-faultless : (m : ℕ) (wanted : List ℕ) → (selected_fault m wanted ≡ 0) ↔ Selected m (length wanted) wanted
unfolding selected_fault
selected-faultless m wanted = (
  λ e.
      let h = simp (first_of-zero, unless-zero, and-eq-true_iff) at e in
      record { size = refl; low = λ o l. leb-true 1 (get_or wanted o 0) (h o l).0; high = λ o l. leb-true (get_or wanted o 0) m (h o l).1 },
  λ W. (first_of-zero _ (length wanted)).1 (λ o l. (unless-zero _ Fault.Source).1
      (rw (le-leb 1 (get_or wanted o 0) (W.low o l), le-leb (get_or wanted o 0) m (W.high o l)))),
)

-- none of the first k wanted inputs is x
not_among_lem : (wanted : List ℕ) (x k : ℕ) → (not_among wanted x k ≡ true) ↔ ((o : ℕ) → o < k → get_or wanted o 0 ≢ x)
unfolding not_among
not_among_lem wanted x zero = (λ e o l. absurd (not-suc-le-zero l), λ h. refl)
not_among_lem wanted x (suc k) =
    let (here, there) = not_among_lem wanted x k in
    let (split, join) = and-eq-true_iff (not (eqb (get_or wanted k 0) x)) (not_among wanted x k) in (
      λ e o l q. elim (ℕ_discrete o k) [
        | yes p ↦ eqb-false (get_or wanted k 0) x (not-true (eqb (get_or wanted k 0) x) (split e).0) (ap (λ i. get_or wanted i 0) (sym p) ∙ q)
        | no d ↦ here (split e).1 o (omega arith) q
      ],
      λ h. join (rw (ne_eqb (get_or wanted k 0) x (h k (omega arith))) refl, there (λ o l. h o (omega arith))),
    )

pub twice-faultless : (wanted : List ℕ)
    → (twice_fault wanted ≡ 0) ↔ ((a b : ℕ) → a < length wanted → b < length wanted → get_or wanted a 0 ≡ get_or wanted b 0 → a ≡ b)
unfolding twice_fault
twice-faultless wanted = (
  λ e a b la lb q.
      let new : (o : ℕ) → o < length wanted → (p : ℕ) → p < o → get_or wanted p 0 ≢ get_or wanted o 0 = λ o l.
      (not_among_lem wanted (get_or wanted o 0) o).0 ((unless-zero (is_new wanted o) Fault.Source).0 ((first_of-zero _ (length wanted)).0 e o l)) in
      elim (ℕ_discrete a b) [
        | yes p ↦ p
        | no n ↦ elim (dec_lt a b) [
          | yes l ↦ absurd (new b lb a l q)
          | no g ↦ absurd (new a la b (omega arith) (sym q))
        ]
      ],
  λ once. (first_of-zero _ (length wanted)).1 (λ o l. (unless-zero (is_new wanted o) Fault.Source).1
      ((not_among_lem wanted (get_or wanted o 0) o).1 (λ p m q. absurd (omega (arith, once p o (omega arith) l q))))),
)

-- inputs of a block are inputs of a larger one
pub selected-within : {m N n : ℕ} {wanted : List ℕ} → m ≤ N → Selected m n wanted → Selected N n wanted
selected-within l W = record { size = W.size; low = W.low; high = λ o k. omega (arith, W.high o k) }

-- ---- the marks of the inputs that the first i outputs want

pub marked-none : (wanted : List ℕ) (places : ℕ) → Marked wanted 0 (replicate places false)
unfolding not_among
marked-none wanted places = record { each = λ y l. get_or-replicate places y false false (rw (length-replicate {A = Bool} places false) at l) }

module _ {wanted : List ℕ} {mark : List Bool} {i x : ℕ} (M : Marked wanted i mark) (here : suc x ≡ get_or wanted i 0) (fits : x < length mark) where
  -- what a mark says of the next input
  mark_is : get_or mark x false ≡ not (is_new wanted i)
  mark_is = rw here at (M.each x fits)

  pub comes_first : get_or mark x false ≡ false → is_new wanted i ≡ true
  comes_first e = not-false (is_new wanted i) (sym mark_is ∙ e)

  pub comes_again : get_or mark x false ≡ true → is_new wanted i ≡ false
  comes_again e = not-true (is_new wanted i) (sym mark_is ∙ e)

  -- one more
  pub marked_more : Marked wanted (i + 1) (set mark x true)
  unfolding not_among
  marked_more = record { each = λ y l. go y (simp length-set at l) (ℕ_discrete y x) }
    where
      go : (y : ℕ) → y < length mark → Dec (y ≡ x) → get_or (set mark x true) y false ≡ not (not_among wanted (suc y) (i + 1))
      go y l (yes e) = rw (add-one i, eq-eqb (get_or wanted i 0) (suc y) (omega arith), e) (get_or-set_same mark x true false fits)
      go y l (no n) = rw (add-one i, ne_eqb (get_or wanted i 0) (suc y) (λ q. n (omega arith))) (get_or-set_other mark x y true false n ∙ M.each y l)

-- ---- P(N)

-- the checks that ask for no room
pub wanted-faultless : (N : ℕ) (wanted : List ℕ) → (wanted_fault N wanted ≡ 0) ↔ ((size_allowed N ≡ true) × Wanted N wanted)
unfolding wanted_fault source_fault
wanted-faultless N wanted = (
  λ e.
      let h = simp (and_then-zero, unless-zero, list-faultless, selected-faultless, twice-faultless) at e in
      let size = h.1.0 in
      let W = h.1.1.0 in (
        h.0,
        record {
          size = size;
          low = λ o l. W.low o (rw size l);
          high = λ o l. W.high o (rw size l);
          once = λ a b la lb. h.1.1.1 a b (rw size la) (rw size lb);
        },
      ),
  λ w.
      let W = w.1 in
      let size = W.size in
      let selected : Selected N (length wanted) wanted = record {
        size = refl;
        low = λ o l. W.low o (rw (← size) l);
        high = λ o l. W.high o (rw (← size) l);
      } in
      simp (and_then-zero, unless-zero, list-faultless, selected-faultless, twice-faultless)
      (w.0, (size, (selected, λ a b la lb. W.once a b (rw (← size) la) (rw (← size) lb)))),
)

-- from bit 0 on, the checks are the same
pub fault-at : (N : ℕ) (wanted : List ℕ) (room : ℕ) → program_at_fault N wanted 0 room ≡ program_fault N wanted room
fault-at N wanted room = ap (and_then (wanted_fault N wanted)) (sym (bits-at-front (permutation_count (level_of N)) room))

-- what is known where all checks pass
pub record ProgramPasses (N : ℕ) (wanted : List ℕ) (start room : ℕ) : Type 0 where
  pub size : SizeIs N
  pub wanted_once : Wanted N wanted
  pub fits : start + permutation_count (level_of N) ≤ bits_held room

pub program-passes : {N : ℕ} {wanted : List ℕ} {start room : ℕ} → program_at_fault N wanted start room ≡ 0 → ProgramPasses N wanted start room
program-passes {N} {wanted} {start} {room} e =
    let h = (and_then-zero (wanted_fault N wanted) (bits_at_fault (permutation_count (level_of N)) start room)).0 e in
    let w = (wanted-faultless N wanted).0 h.0 in
    record { size = size_is N w.0; wanted_once = w.1; fits = (bits-faultless (permutation_count (level_of N)) start room).0 h.1 }

-- success from plain bounds
pub program-at_succeeds : (n : ℕ) {wanted : List ℕ} (start room : ℕ) → n ≤ max_level → Wanted (2 ^ n) wanted → start + permutation_count (level_of (2 ^ n)) ≤ bits_held room
    → program_at_fault (2 ^ n) wanted start room ≡ 0
program-at_succeeds n {wanted} start room l W fits =
    (and_then-zero _ _).1 ((wanted-faultless (2 ^ n) wanted).1 (power-allowed n l, W), (bits-faultless (permutation_count (level_of (2 ^ n))) start room).1 fits)

pub program_succeeds : (n : ℕ) {wanted : List ℕ} (room : ℕ) → n ≤ max_level → Wanted (2 ^ n) wanted → bytes_for (permutation_count (level_of (2 ^ n))) ≤ room
    → program_fault (2 ^ n) wanted room ≡ 0
program_succeeds n {wanted} room l W fits = sym (fault-at (2 ^ n) wanted room) ∙ program-at_succeeds n 0 room l W (omega arith)

pub few_bits_lem : {N : ℕ} → SizeIs N → permutation_count (level_of N) ≤ max_level * max_size
few_bits_lem {N} size = few-rows (level_of N) size.level

-- ---- S(m, n)

-- the checks that ask for no room
pub selection-wanted-faultless : (m n : ℕ) (wanted : List ℕ) → (selection_wanted_fault m n wanted ≡ 0) ↔ ((SelectionSizes m n) × Selected m n wanted)
unfolding selection_wanted_fault
selection-wanted-faultless m n wanted = (
  λ e.
      let h = simp (and_then-zero, selection-sizes-allowed, list-faultless, selected-faultless) at e in
      (h.0, rw h.1.0 at h.1.1),
  λ w.
      let size = w.1.size in
      simp (and_then-zero, selection-sizes-allowed, list-faultless, selected-faultless) (w.0, (size, rw (← size) at w.1)),
)

-- from bit 0 on, the checks are the same
pub selection-fault-at : (m n : ℕ) (wanted : List ℕ) (room : ℕ) → selection_program_at_fault m n wanted 0 room ≡ selection_program_fault m n wanted room
selection-fault-at m n wanted room = ap (and_then (selection_wanted_fault m n wanted)) (sym (bits-at-front (selection_count m n) room))

pub selection-program-passes : {m n : ℕ} {wanted : List ℕ} {start room : ℕ} → selection_program_at_fault m n wanted start room ≡ 0
    → SelectionPasses m n wanted start room
selection-program-passes {m} {n} {wanted} {start} {room} e =
    let h = (and_then-zero (selection_wanted_fault m n wanted) (bits_at_fault (selection_count m n) start room)).0 e in
    let w = (selection-wanted-faultless m n wanted).0 h.0 in
    record { sizes = w.0; selected = w.1; fits = (bits-faultless (selection_count m n) start room).0 h.1 }

-- success from plain bounds
pub selection-program-at_succeeds : (m n : ℕ) {wanted : List ℕ} (start room : ℕ) → 1 ≤ m → m ≤ max_size → 1 ≤ n → n ≤ max_size
    → Selected m n wanted → start + selection_count m n ≤ bits_held room → selection_program_at_fault m n wanted start room ≡ 0
selection-program-at_succeeds m n {wanted} start room m1 mm n1 nm W fits =
    let s : SelectionSizes m n = record { some_inputs = m1; inputs = mm; some_outputs = n1; outputs = nm } in
    (and_then-zero _ _).1 ((selection-wanted-faultless m n wanted).1 (s, W), (bits-faultless (selection_count m n) start room).1 fits)

pub selection-program_succeeds : (m n : ℕ) {wanted : List ℕ} (room : ℕ) → 1 ≤ m → m ≤ max_size → 1 ≤ n → n ≤ max_size
    → Selected m n wanted → bytes_for (selection_count m n) ≤ room → selection_program_fault m n wanted room ≡ 0
selection-program_succeeds m n {wanted} room m1 mm n1 nm W fits =
    sym (selection-fault-at m n wanted room) ∙ selection-program-at_succeeds m n 0 room m1 mm n1 nm W (omega arith)

pub few-selection-bits : {m n : ℕ} → SelectionSizes m n → selection_count m n ≤ 2 * (max_level * max_size) + max_size
unfolding selection_count whole_count
few-selection-bits {m} {n} s =
    let level : ℕ = selection_level m n in
    omega (arith, few-rows level (selection-level-small s), power_small level (selection-level-small s))

-- ---- where the checks that ask for no room pass: what the next check needs

pub selected_of : (m : ℕ) (wanted : List ℕ) → selected_fault m wanted ≡ 0 → Selected m (length wanted) wanted
selected_of m wanted = (selected-faultless m wanted).0

pub bits_of_wanted : (N : ℕ) (wanted : List ℕ) → wanted_fault N wanted ≡ 0 → permutation_count (level_of N) ≤ max_level * max_size
bits_of_wanted N wanted e = few_bits_lem (size_is N ((wanted-faultless N wanted).0 e).0)

pub bits_of_selection_wanted : (m n : ℕ) (wanted : List ℕ) → selection_wanted_fault m n wanted ≡ 0 → selection_count m n ≤ 2 * (max_level * max_size) + max_size
bits_of_selection_wanted m n wanted e = few-selection-bits ((selection-wanted-faultless m n wanted).0 e).0
