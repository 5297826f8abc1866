-- A gate of a ring is never ready: the gate of the ring that feeds it would have to be taken before it. A turn takes one gate more until none is
-- ready; after k turns none is, so that each gate that is left over draws from one that is.
use mathlib.Core.Path.{◌≡◌, refl, sym, ap, ◌∙◌}
use mathlib.Core.Logic.{◌⊎◌, inl, inr}
use mathlib.Core.Bool.{Bool, true, false, ◌&&◌, ◌||◌, and-eq-true_iff, or-false}
use mathlib.Core.List.{List, [], ◌∷◌, ◌++◌}
use Prim.Native.Nat.{ℕ, zero, suc, ◌+◌, ◌-◌, ◌≤◌, ◌<◌}
use native.Mathlib.Decide.{ℕ_discrete, dec_le, dec_lt}
use native.Mathlib.Omega.{arith}
use borrow.Author.Tests.{eq-eqb, ne_eqb, lt-leb, le-leb, lt-ltb, ltb-true, eqb-true}
use lib.Dec.{eqb, ltb}
use lib.ListN.{length, get_or, take, length-append}
use lib.Seq.{take_all, take-append-le, get_or-take, get_or_at}
use Rattle.lists.specs.Counting.{one_if, count_of, nth_of}
use Rattle.lists.proofs.CountingLaws.{passed, both_ways, not_fails, count_le, count_none, count-rest, count-before, count_ext, nth_ext, nth_lowest, each-passes, all_pass, none_before, count-single, count-sum, NthOf, nth_at}
use Rattle.plan_order.specs.Order.{has, supplied, ready, with_next, taken, is_left, lowest_left, From, Cyclic, OperandsWithin, CycleExactly, TakenInOrder, CycleTheorem, FedByItselfTheorem, OrderTheorem}

-- ---- what stands in a list

-- one entry more
pub has_more : (L : List ℕ) (y g : ℕ) → has (L ++ (y ∷ [])) g ≡ (has L g || eqb y g)
unfolding has
has_more [] y g = or-false (eqb y g)
has_more (x ∷ xs) y g = elim (passed (eqb x g)) [ inl t ↦ rw t | inr f ↦ rw f (has_more xs y g) ]

-- an entry stands among those up to it
has-at : (L : List ℕ) (p q : ℕ) → p < q → q ≤ length L → has (take q L) (get_or L p 0) ≡ true
unfolding has
has-at [] p q l m = absurd (omega arith)
has-at (x ∷ xs) p zero l m = absurd (omega arith)
has-at (x ∷ xs) zero (suc q) l m = rw (eq-eqb x x refl)
has-at (x ∷ xs) (suc p) (suc q) l m = elim (passed (eqb x (get_or xs p 0))) [
  | inl t ↦ rw t
  | inr f ↦ rw f (has-at xs p q (omega arith) (omega arith))
]

module _ (u k : ℕ) (first second : ℕ → ℕ) where
  abbrev Ready : List ℕ → ℕ → Bool
  Ready = ready u k first second

  abbrev Taken : ℕ → List ℕ
  Taken = taken u k first second

  abbrev Next : List ℕ → List ℕ
  Next = with_next u k first second

  -- ---- one turn

  -- what is ready
  pub ready-parts : (L : List ℕ) (g : ℕ) → Ready L g ≡ true
      → (has L g ≡ false) × (supplied u k first second L (first g) ≡ true) × (supplied u k first second L (second g) ≡ true)
  unfolding ready
  ready-parts L g e =
      let (a, b) = (and-eq-true_iff _ _).0 e in
      let (c, d) = (and-eq-true_iff _ _).0 b in
      (not_fails a, c, d)

  -- none is ready, and nothing is taken; or the lowest that is ready is
  abbrev Stuck : List ℕ → Type 0
  Stuck L = count_of (Ready L) k ≡ 0

  record Takes (L : List ℕ) : Type 0 where
    gate : ℕ
    lowest : NthOf (Ready L) k 0 gate
    makes : Next L ≡ L ++ (gate ∷ [])

  turn : (L : List ℕ) → (Stuck L × (Next L ≡ L)) ⊎ Takes L
  unfolding with_next
  turn L = go (ℕ_discrete (count_of (Ready L) k) 0)
    where
      go : Dec (count_of (Ready L) k ≡ 0) → (Stuck L × (Next L ≡ L)) ⊎ Takes L
      go (yes e) = inl (e, rw (eq-eqb (count_of (Ready L) k) 0 e))
      go (no f) = inr (record {
        gate = nth_of (Ready L) k 0;
        lowest = nth_at (Ready L) k 0 (omega arith);
        makes = rw (ne_eqb (count_of (Ready L) k) 0 f);
      })

  -- a gate that is ready, where none before it is, is taken
  pub next-taken : (L : List ℕ) (g : ℕ) → g < k → Ready L g ≡ true → ((i : ℕ) → i < g → Ready L i ≡ false) → Next L ≡ L ++ (g ∷ [])
  unfolding with_next
  next-taken L g l e lower =
      let some : count_of (Ready L) k ≡ 0 → ⊥ = λ z. absurd (omega (arith, count-before (Ready L) g k l e)) in
      rw (ne_eqb (count_of (Ready L) k) 0 some, nth_lowest (Ready L) k g l e lower)

  -- where none is ready, none is taken
  pub none-taken : (L : List ℕ) → ((i : ℕ) → i < k → Ready L i ≡ false) → Next L ≡ L
  none-taken L none = go (turn L)
    where
      go : (Stuck L × (Next L ≡ L)) ⊎ Takes L → Next L ≡ L
      go (inl (_, same)) = same
      go (inr t) = absurd (both_ways t.lowest.passes (none t.gate t.lowest.low))

  -- and none in any later turn
  pub taken-stays : (n m : ℕ) → n ≤ m → Next (Taken n) ≡ Taken n → Taken m ≡ Taken n
  unfolding taken
  taken-stays n zero l same = let z : n ≡ 0 = omega arith in rw z
  taken-stays n (suc m) l same = elim (ℕ_discrete n (suc m)) [
    | yes e ↦ rw e
    | no f ↦ ap Next (taken-stays n m (omega arith) same) ∙ same
  ]

  -- ---- no gate of a ring is ever taken

  module _ (set : ℕ → Bool) (cyclic : Cyclic u k first second set) where
    unsupplied : (L : List ℕ) (w : ℕ) → ((g : ℕ) → set g ≡ true → has L g ≡ false) → From u k first second set w → supplied u k first second L w ≡ false
    unfolding supplied
    unsupplied L w none (l, s) = rw (lt-leb w u l, none (w - suc u) s)

    never-taken : (n g : ℕ) → set g ≡ true → has (Taken n) g ≡ false
    unfolding taken has
    never-taken zero g s = refl
    never-taken (suc n) g s = step (never-taken n) (turn (Taken n))
      where
        step : ((g : ℕ) → set g ≡ true → has (Taken n) g ≡ false) → (Stuck (Taken n) × (Next (Taken n) ≡ Taken n)) ⊎ Takes (Taken n)
            → has (Next (Taken n)) g ≡ false
        step none (inl (e, same)) = rw same (none g s)
        step none (inr t) =
            let L = Taken n in
            let parts = ready-parts L t.gate t.lowest.passes in
            let other : t.gate ≡ g → ⊥ = λ e. elim (cyclic.fed g s) [
              | inl a ↦ both_ways parts.1 (rw e (unsupplied L (first g) none a))
              | inr b ↦ both_ways parts.2 (rw e (unsupplied L (second g) none b))
            ] in
            rw (t.makes, has_more L t.gate g, none g s) (ne_eqb t.gate g other)

  -- ---- after k turns none is ready

  either : (a b : Bool) → (a ≡ true → b ≡ false) → one_if (a || b) ≡ one_if a + one_if b
  either true b h = rw (h refl)
  either false b h = omega arith

  -- a gate that was not taken before counts for one
  one-taken : (L : List ℕ) (y : ℕ) → y < k → has L y ≡ false → count_of (has (L ++ (y ∷ []))) k ≡ count_of (has L) k + 1
  one-taken L y l f =
      let apart : (i : ℕ) → has L i ≡ true → eqb y i ≡ false = λ i t. ne_eqb y i (λ e. both_ways t (rw (← e) f)) in
      let each : (i : ℕ) → one_if (has (L ++ (y ∷ [])) i) ≡ one_if (has L i) + one_if (eqb y i) =
      λ i. rw (has_more L y i) (either (has L i) (eqb y i) (apart i)) in
      rw (count-sum (has (L ++ (y ∷ []))) (has L) (eqb y) each k, count-single y k, lt-ltb y k l)

  -- each gate that was taken stands once in the list
  counted : (n : ℕ) → count_of (has (Taken n)) k ≡ length (Taken n)
  unfolding taken has
  counted zero = count_none (λ _. false) (λ _. refl) k
  counted (suc n) = step (counted n) (turn (Taken n))
    where
      step : count_of (has (Taken n)) k ≡ length (Taken n) → (Stuck (Taken n) × (Next (Taken n) ≡ Taken n)) ⊎ Takes (Taken n)
          → count_of (has (Next (Taken n))) k ≡ length (Next (Taken n))
      step e (inl (_, same)) = rw same e
      step e (inr t) =
          let L = Taken n in
          rw t.makes
          (one-taken L t.gate t.lowest.low (ready-parts L t.gate t.lowest.passes).0 ∙ ap (λ c. c + 1) e
          ∙ sym (length-append L (t.gate ∷ [])))

  -- no more gates are taken than there are
  pub taken-within : (n : ℕ) → length (Taken n) ≤ k
  taken-within n = omega (arith, counted n, count_le (has (Taken n)) k)

  -- after n turns n gates are taken, or none is ready any more
  grown : (n : ℕ) → Stuck (Taken n) ⊎ (length (Taken n) ≡ n)
  unfolding taken
  grown zero = inr refl
  grown (suc n) = step (grown n) (turn (Taken n))
    where
      step : Stuck (Taken n) ⊎ (length (Taken n) ≡ n) → (Stuck (Taken n) × (Next (Taken n) ≡ Taken n)) ⊎ Takes (Taken n)
          → Stuck (Next (Taken n)) ⊎ (length (Next (Taken n)) ≡ suc n)
      step h (inl (e, same)) = rw same (inl e)
      step (inl e) (inr t) = absurd (omega (arith, count-before (Ready (Taken n)) t.gate k t.lowest.low t.lowest.passes))
      step (inr e) (inr t) = rw t.makes (inr (length-append (Taken n) (t.gate ∷ []) ∙ omega arith))

  -- where k gates are taken, each of the k is, and where each is, k are
  pub taken-all : (n : ℕ) → ((g : ℕ) → g < k → has (Taken n) g ≡ true) → length (Taken n) ≡ k
  taken-all n each = sym (counted n) ∙ each-passes (has (Taken n)) k each

  pub all-taken : (n : ℕ) → length (Taken n) ≡ k → (g : ℕ) → g < k → has (Taken n) g ≡ true
  all-taken n e = all_pass (has (Taken n)) k (counted n ∙ e)

  stuck_end : Stuck (Taken k)
  stuck_end = elim (grown k) [
    | inl e ↦ e
    | inr e ↦ elim (turn (Taken k)) [
      | inl (s, _) ↦ s
      | inr t ↦ absurd (both_ways (all-taken k e t.gate t.lowest.low) (ready-parts (Taken k) t.gate t.lowest.passes).0)
    ]
  ]

  -- ---- what is left over is a ring

  abbrev Left : ℕ → Bool
  Left = is_left u k first second

  -- the gates that are left over, as a set
  abbrev left_set : ℕ → Bool
  left_set g = ltb g k && Left g

  left-low : (g : ℕ) → left_set g ≡ true → g < k
  left-low g e = ltb-true g k ((and-eq-true_iff (ltb g k) (Left g)).0 e).0

  left-never : (g : ℕ) → left_set g ≡ true → has (Taken k) g ≡ false
  left-never g e = not_fails ((and-eq-true_iff (ltb g k) (Left g)).0 e).1

  in_left : (g : ℕ) → g < k → has (Taken k) g ≡ false → left_set g ≡ true
  in_left g l f = rw (lt-ltb g k l, f)

  module _ (within : OperandsWithin u k first second) where
    -- a wire that is not supplied at the end is a gate that is left over
    unsupplied-left : (w : ℕ) → w ≤ u + k → supplied u k first second (Taken k) w ≡ false → From u k first second left_set w
    unfolding supplied
    unsupplied-left w h f = elim (dec_le w u) [
      | yes l ↦ absurd (both_ways (rw (le-leb w u l)) f)
      | no n ↦ (omega arith, in_left (w - suc u) (omega arith) (rw (lt-leb w u (omega arith)) at f))
    ]

    left_cycle : (g : ℕ) → left_set g ≡ true → Cyclic u k first second left_set
    unfolding ready
    left_cycle g m = record {
      gate = g;
      member = m;
      below = left-low;
      fed = λ h l.
          let unready : Ready (Taken k) h ≡ false = none_before (Ready (Taken k)) k h stuck_end (left-low h l) in
          elim (passed (supplied u k first second (Taken k) (first h))) [
            | inr f ↦ inl (unsupplied-left (first h) (within h (left-low h l)).0 f)
            | inl t ↦ elim (passed (supplied u k first second (Taken k) (second h))) [
              | inr f ↦ inr (unsupplied-left (second h) (within h (left-low h l)).1 f)
              | inl s ↦ absurd (both_ways (rw (left-never h l, t, s)) unready)
            ]
          ];
    }

    -- where not all are taken, the lowest that is left over is one
    some_left : (length (Taken k) ≡ k → ⊥) → NthOf Left k 0 (lowest_left u k first second)
    some_left f =
        nth_at Left k 0 (omega (arith, count-rest (has (Taken k)) k, counted k, count_le (has (Taken k)) k))

    lowest-left : (length (Taken k) ≡ k → ⊥) → left_set (lowest_left u k first second) ≡ true
    lowest-left f = let y = some_left f in in_left _ y.low (not_fails y.passes)

    cycle_exactly : CycleExactly u k first second
    cycle_exactly = record {
      exactly = (
        λ f. record { set = left_set; cyclic = left_cycle _ (lowest-left f) },
        λ r e.
            let cyclic = r.cyclic in
            both_ways (all-taken k e cyclic.gate (cyclic.below _ cyclic.member)) (never-taken r.set cyclic k cyclic.gate cyclic.member),
      );
      least = λ f.
          let y = some_left f in record {
            low = y.low;
            never = λ n. never-taken left_set (left_cycle _ (lowest-left f)) n _ (lowest-left f);
            least = λ h l. elim (passed (has (Taken k) h)) [
              | inl t ↦ t
              | inr n ↦ absurd (both_ways (rw n) (none_before Left _ h y.rank l))
            ];
          };
    }

  -- ---- the order, where all gates are taken

  -- no more gates than turns
  few-taken : (n : ℕ) → length (Taken n) ≤ n
  unfolding taken
  few-taken zero = omega arith
  few-taken (suc n) = step (few-taken n) (turn (Taken n))
    where
      step : length (Taken n) ≤ n → (Stuck (Taken n) × (Next (Taken n) ≡ Taken n)) ⊎ Takes (Taken n) → length (Next (Taken n)) ≤ suc n
      step l (inl (_, same)) = rw same (omega arith)
      step l (inr t) = rw t.makes (omega (arith, length-append (Taken n) (t.gate ∷ [])))

  -- where each of n + 1 turns took a gate, so did each of n
  record Turn (n : ℕ) : Type 0 where
    full : length (Taken n) ≡ n
    takes : Takes (Taken n)

  last_turn : (n : ℕ) → length (Taken (suc n)) ≡ suc n → Turn n
  unfolding taken
  last_turn n e = step (turn (Taken n)) e
    where
      step : (Stuck (Taken n) × (Next (Taken n) ≡ Taken n)) ⊎ Takes (Taken n) → length (Next (Taken n)) ≡ suc n → Turn n
      step (inl (_, same)) e = absurd (omega (arith, few-taken n, ap length same))
      step (inr t) e = record { full = omega (arith, ap length t.makes, length-append (Taken n) (t.gate ∷ [])); takes = t }

  -- the first p gates are those of p turns
  first_taken : (p n : ℕ) → p ≤ n → length (Taken n) ≡ n → (take p (Taken n) ≡ Taken p) × (length (Taken p) ≡ p)
  unfolding taken
  first_taken p zero l e = let z : p ≡ 0 = omega arith in rw z (refl, e)
  first_taken p (suc n) l e = elim (ℕ_discrete p (suc n)) [
    | yes q ↦ rw q (take_all (suc n) (Next (Taken n)) (omega arith), e)
    | no f ↦
        let t = last_turn n e in
        let before = first_taken p n (omega arith) t.full in
        (ap (take p) t.takes.makes ∙ take-append-le p (Taken n) _ (omega (arith, t.full)) ∙ before.0, before.1)
  ]

  module _ (e : length (Taken k) ≡ k) where
    -- turn p takes the gate at place p
    record Place (p : ℕ) : Type 0 where
      before : take p (Taken k) ≡ Taken p
      takes : Takes (Taken p)
      here : get_or (Taken k) p 0 ≡ takes.gate

    place_of : (p : ℕ) → p < k → Place p
    unfolding taken
    place_of p l =
        let through = first_taken (suc p) k l e in
        let t = last_turn p through.1 in record {
          before = (first_taken p k (omega arith) e).0;
          takes = t.takes;
          here =
              sym (get_or-take (suc p) (Taken k) p 0 (omega arith)) ∙ ap (λ (L : List ℕ). get_or L p 0) (through.0 ∙ t.takes.makes)
              ∙ get_or_at (Taken p) t.takes.gate [] 0 p t.full;
        }

    -- a gate at an earlier place is another one
    later_other : (p q : ℕ) → p < q → q < k → get_or (Taken k) p 0 ≡ get_or (Taken k) q 0 → ⊥
    later_other p q l m same =
        let t = place_of q m in
        let fresh : has (Taken q) t.takes.gate ≡ false = (ready-parts (Taken q) t.takes.gate t.takes.lowest.passes).0 in
        let old : has (take q (Taken k)) (get_or (Taken k) p 0) ≡ true = has-at (Taken k) p q l (omega arith) in
        both_ways old (rw (t.before, same, t.here) fresh)

    taken_in_order : TakenInOrder u k first second
    taken_in_order = record {
      below = λ p l. let t = place_of p l in rw t.here t.takes.lowest.low;
      once = λ p q l m same. elim (dec_lt p q) [
        | yes h ↦ absurd (later_other p q h m same)
        | no f ↦ elim (dec_lt q p) [
          | yes h ↦ absurd (later_other q p h l (sym same))
          | no g ↦ omega arith
        ]
      ];
      every = all-taken k e;
      fed = λ p l. let t = place_of p l in rw (t.before, t.here) t.takes.lowest.passes;
      lowest = λ p g l h. let t = place_of p l in
          rw t.before (none_before (Ready (Taken p)) t.takes.gate g t.takes.lowest.rank (rw t.here at h));
    }

-- operands that agree below k give the same order
module _ (u k : ℕ) (first second first' second' : ℕ → ℕ) (same₁ : (g : ℕ) → g < k → first g ≡ first' g) (same₂ : (g : ℕ) → g < k → second g ≡ second' g) where
  ready_ext : (L : List ℕ) (g : ℕ) → g < k → ready u k first second L g ≡ ready u k first' second' L g
  unfolding ready supplied
  ready_ext L g l = rw (same₁ g l, same₂ g l)

  pub taken_ext : (n : ℕ) → taken u k first second n ≡ taken u k first' second' n
  unfolding taken with_next
  taken_ext zero = refl
  taken_ext (suc n) =
      let L = taken u k first' second' n in
      ap (with_next u k first second) (taken_ext n)
      ∙ rw (count_ext (ready u k first second L) (ready u k first' second' L) k (ready_ext L), nth_ext (ready u k first second L) (ready u k first' second' L) k 0 (ready_ext L))

-- a ring exactly, or an order
pub cycle_theorem : CycleTheorem
cycle_theorem = cycle_exactly

-- a gate on its own wire is a ring by itself
pub fed_by_itself_theorem : FedByItselfTheorem
fed_by_itself_theorem u k first second g l own = record {
  set = eqb g;
  cyclic = record {
    gate = g;
    member = eq-eqb g g refl;
    below = λ h e. omega (arith, eqb-true g h e);
    fed = λ h e. elim own [
      | inl f ↦ inl (itself h e (first h) (ap first (sym (eqb-true g h e)) ∙ f))
      | inr f ↦ inr (itself h e (second h) (ap second (sym (eqb-true g h e)) ∙ f))
    ];
  };
}
  where
    itself : (h : ℕ) → eqb g h ≡ true → (w : ℕ) → w ≡ u + suc g → (u < w) × (eqb g (w - suc u) ≡ true)
    itself h e w f = (omega arith, eq-eqb g (w - suc u) (omega arith))

pub order_theorem : OrderTheorem
order_theorem u k first second e = taken_in_order u k first second e
