-- Laws of searching from a number on, and of the numbers that wires get while gates are taken.
use mathlib.Core.Path.{◌≡◌, refl, sym, ap, ap₂, ◌∙◌}
use mathlib.Core.Logic.{inl, inr}
use mathlib.Core.Bool.{Bool, true, false, not, ◌&&◌}
use mathlib.Core.List.{List, [], ◌∷◌, ◌++◌}
use Prim.Native.Nat.{ℕ, zero-le, suc, ◌+◌, ◌-◌, ◌≤◌, ◌<◌}
use native.Mathlib.Nat.{le_refl, le_of_lt}
use Rattle.std.specs.Prelude.{Option, Some, None, unwrap_or, MatchOption}
use native.Mathlib.Decide.{ℕ_discrete, dec_le, dec_lt}
use native.Mathlib.Numerals.{add-one}
use native.Mathlib.Omega.{arith}
use borrow.Author.Tests.{eq-eqb, ne_eqb, le-leb, lt-leb}
use lib.Dec.{eqb}
use lib.ListN.{length, get_or, set, length-set, length-append, get_or-append}
use lib.Seq.{get_or_at, get_or-set_same, get_or-set_other}
use Rattle.lists.specs.Lists.{list_of}
use Rattle.lists.proofs.ListsLaws.{length-list_of, list_of_ext}
use Rattle.lists.proofs.CountingLaws.{passed, both_ways, not_fails}
use Rattle.plan.specs.declared.record.Plan.{Plan}
use Rattle.plan.specs.Record.{max_gates, gate_wire, places}
use Rattle.plan.proofs.RecordLaws.{places-more}
use Rattle.plan_order.specs.Order.{has, supplied, ready, taken}
use Rattle.plan_order.specs.Drawing.{place_in, drawn_first, drawn_second, drawn_order, DrawingWithin}
use Rattle.plan_order.proofs.OrderLaws.{has_more, ready-parts, next-taken, none-taken, taken-stays, taken-within, taken-all, all-taken}
use Rattle.plan_drawn.specs.Taking.{number_among, WiresHeld, Numbered, unnumbered, can_take, can_take_gate, NoneFrom, LowestFrom, LowestFound, numbers_of, OrderTaken}

-- ---- searching from a number on

-- where the lowest number that passes is, or n where there is none: no number below it passes
pub record SearchedTo (test : ℕ → Bool) (from n l : ℕ) : Type 0 where
  pub up_to : l ≤ n
  pub none : NoneFrom test from l
  pub passes : l < n → test l ≡ true

pub searched-to : {test : ℕ → Bool} {from n : ℕ} (r : Option ℕ) → LowestFound test from n r → SearchedTo test from n (unwrap_or r n)
searched-to {n = n} None h = record { up_to = le_refl n; none = h; passes = λ l. absurd (omega arith) }
searched-to (Some r) h = record { up_to = le_of_lt h.low; none = h.none; passes = λ _. h.passes }

-- what a search of the numbers from `from` on found
pub lowest-found : (test : ℕ → Bool) (from n m : ℕ) (r : Option ℕ) → m ≡ n
    → MatchOption r ((i : ℕ) → from ≤ i → i < m → test i ≡ false)
    (λ x. (from ≤ x) × (x < m) × (test x ≡ true) × ((i : ℕ) → from ≤ i → i < x → test i ≡ false)) → LowestFound test from n r
lowest-found test from n m None e h = record { each = rw e at h }
lowest-found test from n m (Some r) e h = record { low = omega (arith, h.1); none = record { each = h.3 }; passes = h.2 }

-- ---- places of gates

place-old : (L : List ℕ) (y g : ℕ) → has L g ≡ true → place_in (L ++ (y ∷ [])) g ≡ place_in L g
unfolding has place_in
place-old [] y g e = absurd (both_ways e refl)
place-old (x ∷ xs) y g e = elim (passed (eqb x g)) [
  | inl t ↦ rw t
  | inr f ↦ rw f (ap suc (place-old xs y g (rw f at e)))
]

place-new : (L : List ℕ) (y : ℕ) → has L y ≡ false → place_in (L ++ (y ∷ [])) y ≡ length L
unfolding has place_in
place-new [] y e = rw (eq-eqb y y refl)
place-new (x ∷ xs) y e = elim (passed (eqb x y)) [
  | inl t ↦ absurd (both_ways (rw t) e)
  | inr f ↦ rw f (ap suc (place-new xs y (rw f at e)))
]

-- ---- the numbers of wires

pub number-input : (u : ℕ) (L : List ℕ) (w : ℕ) → w ≤ u → number_among u L w ≡ w
unfolding number_among
number-input u L w l = rw (le-leb w u l)

pub number-taken : (u : ℕ) (L : List ℕ) (w : ℕ) → u < w → has L (w - suc u) ≡ true → number_among u L w ≡ gate_wire u (place_in L (w - suc u))
unfolding number_among
number-taken u L w l t = rw (lt-leb w u l, t)

number-left : (u : ℕ) (L : List ℕ) (w : ℕ) → u < w → has L (w - suc u) ≡ false → number_among u L w ≡ 0
unfolding number_among
number-left u L w l f = rw (lt-leb w u l, f)

-- the numbers of inputs, before any gate is taken
pub number-none : (u w : ℕ) → u < w → number_among u [] w ≡ 0
unfolding has
number-none u w l = number-left u [] w l refl

-- once y is taken too: its own wire's number, and those of the other wires
number-new : (u : ℕ) (L : List ℕ) (y : ℕ) → has L y ≡ false → number_among u (L ++ (y ∷ [])) (gate_wire u y) ≡ gate_wire u (length L)
number-new u L y fresh =
    let own : gate_wire u y - suc u ≡ y = omega arith in
    let stands : has (L ++ (y ∷ [])) y ≡ true = rw (has_more L y y, fresh) (eq-eqb y y refl) in
    number-taken u (L ++ (y ∷ [])) (gate_wire u y) (omega arith) (rw own stands) ∙ rw (own, place-new L y fresh)

number-other : (u : ℕ) (L : List ℕ) (y w : ℕ) → (w ≡ gate_wire u y → ⊥) → number_among u L w ≡ number_among u (L ++ (y ∷ [])) w
number-other u L y w d = elim (dec_le w u) [
  | yes l ↦ number-input u L w l ∙ sym (number-input u (L ++ (y ∷ [])) w l)
  | no f ↦
      let above : u < w = omega arith in
      let apart : eqb y (w - suc u) ≡ false = ne_eqb y (w - suc u) (λ e. d (omega arith)) in
      elim (passed (has L (w - suc u))) [
        | inl t ↦
            number-taken u L w above t ∙ ap (gate_wire u) (sym (place-old L y (w - suc u) t))
            ∙ sym (number-taken u (L ++ (y ∷ [])) w above (rw (has_more L y (w - suc u), t)))
        | inr f ↦ number-left u L w above f ∙ sym (number-left u (L ++ (y ∷ [])) w above (rw (has_more L y (w - suc u), f) apart))
      ]
]

-- ---- the drawn numbers in the order of taking

-- one gate more
list-more : (L : List ℕ) (y : ℕ) → list_of (length (L ++ (y ∷ []))) (λ p. suc (get_or (L ++ (y ∷ [])) p 0)) ≡ list_of (length L) (λ p. suc (get_or L p 0)) ++ (suc y ∷ [])
unfolding list_of
list-more L y =
    rw (length-append L (y ∷ []), add-one (length L), get_or_at L y [] 0 (length L) refl)
    (ap (λ l. l ++ (suc y ∷ [])) (list_of_ext (length L) _ _ (λ i h. ap suc (get_or-append L (y ∷ []) 0 i h))))

numbers_more : (L : List ℕ) (y n : ℕ) → length L ≡ n → n < max_gates → set (numbers_of L) n (suc y) ≡ numbers_of (L ++ (y ∷ []))
numbers_more L y n size room =
    places-more max_gates 0 (list_of (length L) (λ p. suc (get_or L p 0))) (suc y) n (length-list_of (length L) _ ∙ size) room
    ∙ ap (places max_gates 0) (sym (list-more L y))

-- ---- tests

pub not_not : {b : Bool} → not b ≡ false → b ≡ true
not_not {b} e = elim (passed b) [ inl t ↦ t | inr f ↦ absurd (both_ways (ap not f) e) ]

-- a test by numbers and the same test by gates
two_tests : (a b h : Bool) → (not (not a) && (not (not b) && not h)) ≡ (not h && (a && b))
two_tests true true true = refl
two_tests true true false = refl
two_tests true false true = refl
two_tests true false false = refl
two_tests false b true = refl
two_tests false b false = refl

-- a store keeps the places
pub held-set : {u k : ℕ} {numbers : List ℕ} (w v : ℕ) → WiresHeld u k numbers → WiresHeld u k (set numbers w v)
held-set {numbers = numbers} w v held = record { inputs = held.inputs; gates = held.gates; wires = rw (length-set numbers w v) held.wires }

module _ {u k : ℕ} {L numbers : List ℕ} (numbered : Numbered u k L numbers) where
  -- gate y is taken next: its wire gets its number, the others keep theirs
  number_more : (y n : ℕ) {w v : ℕ} → y < k → has L y ≡ false → length L ≡ n → w ≡ gate_wire u y → v ≡ gate_wire u n
      → Numbered u k (L ++ (y ∷ [])) (set numbers w v)
  number_more y n {w} {v} low fresh size isOwn is_number = record {
    held = held-set w v numbered.held;
    each = λ x l. elim (ℕ_discrete x w) [
      | yes e ↦
          rw (e, isOwn, is_number, ← size)
          (get_or-set_same numbers (gate_wire u y) (gate_wire u (length L)) 0 (omega (arith, numbered.held.wires)) ∙ sym (number-new u L y fresh))
      | no d ↦ get_or-set_other numbers w x v 0 d ∙ numbered.each x l ∙ number-other u L y x (λ e. d (e ∙ sym isOwn))
    ];
  }

  module _ (first second : ℕ → ℕ) where
    -- a wire has a number exactly if it is supplied
    unnumbered-wire : (w : ℕ) → 1 ≤ w → w ≤ u + k → unnumbered numbers w ≡ not (supplied u k first second L w)
    unfolding unnumbered supplied
    unnumbered-wire w some l = ap (λ x. eqb x 0) (numbered.each w l) ∙ elim (dec_le w u) [
      | yes h ↦ rw (number-input u L w h, le-leb w u h) (ne_eqb w 0 (λ e. omega arith))
      | no f ↦
          let above : u < w = omega arith in
          rw (lt-leb w u above) (elim (passed (has L (w - suc u))) [
            | inl t ↦ rw (number-taken u L w above t, t) (ne_eqb (gate_wire u (place_in L (w - suc u))) 0 (λ e. omega arith))
            | inr f ↦ rw (number-left u L w above f, f)
          ])
    ]

    -- a gate's wire exactly if the gate is taken
    unnumbered-gate : (g : ℕ) → g < k → unnumbered numbers (gate_wire u g) ≡ not (has L g)
    unfolding supplied
    unnumbered-gate g l =
        let own : gate_wire u g - suc u ≡ g = omega arith in
        unnumbered-wire (gate_wire u g) (omega arith) (omega arith) ∙ rw (lt-leb (gate_wire u g) u (omega arith), own)

-- ---- a turn

module _ (d : Plan) where
  abbrev u : ℕ
  u = d.inputs

  abbrev k : ℕ
  k = d.gate_count

  abbrev Taken : ℕ → List ℕ
  Taken = taken u k (drawn_first d) (drawn_second d)

  abbrev Ready : List ℕ → ℕ → Bool
  Ready = ready u k (drawn_first d) (drawn_second d)

  module _ {L numbers : List ℕ} (numbered : Numbered u k L numbers) where
    can-take-ready : DrawingWithin d → (g : ℕ) → g < k → can_take_gate d numbers g ≡ Ready L g
    unfolding can_take ready
    can-take-ready within g l =
        let w = within.gate g l in
        let a = unnumbered-wire numbered (drawn_first d) (drawn_second d) (drawn_first d g) w.some_first (omega (arith, w.first)) in
        let b = unnumbered-wire numbered (drawn_first d) (drawn_second d) (drawn_second d g) w.some_second (omega (arith, w.second)) in
        rw (a, b, unnumbered-gate numbered (drawn_first d) (drawn_second d) g l)
        (two_tests (supplied u k (drawn_first d) (drawn_second d) L (drawn_first d g)) (supplied u k (drawn_first d) (drawn_second d) L (drawn_second d g)) (has L g))

    left-unnumbered : (g : ℕ) → g < k → unnumbered numbers (gate_wire u g) ≡ not (has L g)
    left-unnumbered = unnumbered-gate numbered (drawn_first d) (drawn_second d)

    taken_unready : (g : ℕ) → has L g ≡ true → Ready L g ≡ false
    unfolding ready
    taken_unready g t = rw t

  -- n gates are taken, and stand in the lists; below `low` all are, and `low` is not where it is a gate
  pub record Turns (numbers drawn : List ℕ) (n low : ℕ) : Type 0 where
    pub within : DrawingWithin d
    pub full : length (Taken n) ≡ n
    pub numbered : Numbered u k (Taken n) numbers
    pub listed : drawn ≡ numbers_of (Taken n)
    pub up_to : low ≤ k
    pub below : (i : ℕ) → i < low → has (Taken n) i ≡ true
    pub left : low < k → has (Taken n) low ≡ false

  -- before the first turn
  pub turns-start : {numbers drawn : List ℕ} → DrawingWithin d → Numbered u k [] numbers → drawn ≡ numbers_of [] → Turns numbers drawn 0 0
  unfolding taken has
  turns-start within numbered listed = record {
    within = within;
    full = refl;
    numbered = numbered;
    listed = listed;
    up_to = zero-le;
    below = λ i l. absurd (omega arith);
    left = λ _. refl;
  }

  module _ {numbers drawn : List ℕ} {n low : ℕ} (turns : Turns numbers drawn n low) where
    -- after k turns all gates are taken
    pub turns-all : k ≤ n → OrderTaken d None numbers drawn
    turns-all l =
        let same : n ≡ k = omega (arith, turns.full, taken-within u k (drawn_first d) (drawn_second d) n) in
        let all = all-taken u k (drawn_first d) (drawn_second d) n (turns.full ∙ same) in
        let order : Taken n ≡ drawn_order d = ap Taken same in
        record {
          left = record { each = λ i _ b. rw (← order, all i b) };
          numbered = rw order at turns.numbered;
          listed = turns.listed ∙ ap numbers_of order;
        }

    -- after fewer, where no gate can be taken, `low` is left over
    pub turns-stop : n < k → NoneFrom (can_take_gate d numbers) low k → OrderTaken d (Some low) numbers drawn
    turns-stop l none =
        let unready : (i : ℕ) → i < k → Ready (Taken n) i ≡ false = λ i b. elim (dec_lt i low) [
          | yes t ↦ taken_unready turns.numbered i (turns.below i t)
          | no f ↦ sym (can-take-ready turns.numbered turns.within i b) ∙ none.each i (omega arith) b
        ] in
        let order : Taken n ≡ drawn_order d =
        sym (taken-stays u k (drawn_first d) (drawn_second d) n k (le_of_lt l) (none-taken u k (drawn_first d) (drawn_second d) (Taken n) unready)) in
        let some : low < k = elim (dec_lt low k) [
          | yes t ↦ t
          | no f ↦ absurd (omega (arith, turns.full, taken-all u k (drawn_first d) (drawn_second d) n (λ g b. turns.below g (omega arith))))
        ] in
        record {
          left = record { low = some; none = record { each = λ i _ b. rw (← order, turns.below i b) }; passes = rw (← order, turns.left some) };
          numbered = rw order at turns.numbered;
          listed = turns.listed ∙ ap numbers_of order;
        }

    -- where the next gate can be taken, one turn more
    module _ {next : ℕ} (found : LowestFrom (can_take_gate d numbers) low k next) where
      is_ready : Ready (Taken n) next ≡ true
      is_ready = sym (can-take-ready turns.numbered turns.within next found.low) ∙ found.passes

      next-turn : Taken (n + 1) ≡ Taken n ++ (next ∷ [])
      unfolding taken
      next-turn = rw (add-one n) (next-taken u k (drawn_first d) (drawn_second d) (Taken n) next found.low is_ready λ i l. elim (dec_lt i low) [
        | yes b ↦ taken_unready turns.numbered i (turns.below i b)
        | no f ↦ sym (can-take-ready turns.numbered turns.within i (omega (arith, found.low))) ∙ found.none.each i (omega arith) l
      ])

      fresh : has (Taken n) next ≡ false
      fresh = (ready-parts u k (drawn_first d) (drawn_second d) (Taken n) next is_ready).0

      pub turns-fewer : n < k
      turns-fewer =
          omega (arith, turns.full, taken-within u k (drawn_first d) (drawn_second d) (n + 1), ap length next-turn, length-append (Taken n) (next ∷ []))

      pub turns_more : {w v x low' : ℕ} → w ≡ gate_wire u next → v ≡ gate_wire u n → x ≡ suc next
          → SearchedTo (λ g. unnumbered (set numbers w v) (gate_wire u g)) low k low' → Turns (set numbers w v) (set drawn n x) (n + 1) low'
      turns_more {w} {v} {x} {low'} e f g searched =
          let numbered : Numbered u k (Taken (n + 1)) (set numbers w v) =
          rw next-turn (number_more turns.numbered next n found.low fresh turns.full e f) in
          record {
            within = turns.within;
            full = ap length next-turn ∙ length-append (Taken n) (next ∷ []) ∙ ap (λ m. m + 1) turns.full;
            numbered = numbered;
            listed =
                ap₂ (λ (d : List ℕ) y. set d n y) turns.listed g
                ∙ numbers_more (Taken n) next n turns.full (omega (arith, turns-fewer, turns.numbered.held.gates))
                ∙ ap numbers_of (sym next-turn);
            up_to = searched.up_to;
            below = λ i l. elim (dec_lt i low) [
              | yes b ↦ rw (next-turn, has_more (Taken n) next i, turns.below i b)
              | no s ↦ not_not (sym (left-unnumbered numbered i (omega (arith, searched.up_to))) ∙ searched.none.each i (omega arith) l)
            ];
            left = λ l. not_fails (sym (left-unnumbered numbered low' l) ∙ searched.passes l);
          }
