-- U's promise, over values of any type and any gate action, by one induction over the levels: where the pins whose operand is not one of U's
-- gates carry that operand's value, the programmed U's output g carries gate g's value, and its g-th gate row sees gate g's operands and table.
-- A lower pin takes an operand of the upper half from the selection block, and any other from the pin.
use mathlib.Core.Path.{◌≡◌, refl, sym, ap, ap₂, ◌∙◌}
use mathlib.Core.Bool.{Bool, true, false}
use mathlib.Core.List.{List, [], ◌∷◌, ◌++◌, map}
use Prim.Native.Nat.{ℕ, zero, suc, ◌+◌, ◌-◌, ◌*◌, ◌/◌, ◌^◌, ◌≤◌, ◌<◌}
use native.Mathlib.Nat.{add-zero, add_assoc}
use native.Mathlib.Decide.{dec_lt}
use native.Mathlib.Omega.{arith}
use lib.ListN.{length, get_or, take, get_or-append}
use lib.Pow.{pow_pos}
use lib.Seq.{get_or-append-add, get_or-take, take_at, drop_at}
use Rattle.lists.specs.Lists.{list_of}
use Rattle.lists.proofs.ListsLaws.{list_of-append, list_of_ext}
use Rattle.lists.specs.Counting.{one_if}
use Rattle.blocks.specs.Elements.{Row, Gate, table_bits, operands, gate_bits, choose, State, on, outputs, step, run, Delivered}
use Rattle.blocks.proofs.ElementsLaws.{run-append, run_keeps, run-wires, run-bits, run-gates, y-list, run_y-made, run_y-left, run_y-at}
use Rattle.blocks.specs.Networks.{mapping}
use Rattle.fabric_universal.specs.Selector.{pin_count, Selector, SelectorShape, SelectorDelivers}
use Rattle.fabric_universal.specs.Universal.{mix_rows, universal_wires, select_next, mix_next, lower_half_next, universal_outs, selected_outs, lower_pins}
use Rattle.fabric_universal.specs.Universal.{universal_rows, Gates, wire_of, table_program, is_of, wanted_gates, mix_bits, universal_bits}
use Rattle.fabric_universal.proofs.Views.{View, view_of, views}
use Rattle.fabric_universal.proofs.ViewsLaws.{views-append, views-none}
use Rattle.fabric_universal.proofs.SelectorLaws.{double}
use Rattle.fabric_universal.proofs.UniversalProgram.{not_of, wanted-selected, wants, mix_bits-at, length-mix_bits, program-parts, length-table}
use Rattle.fabric_universal.proofs.UniversalLaws.{length-universal_outs, universal_below, universal_totals, length-universal_bits}
use Rattle.fabric_universal.proofs.UniversalLaws.{Fed, upper-pins-fed, mixed-fed, get_or-lower_pins, lower-pins-fed, selected-fed}

-- ---- the statement

-- gate g as its row sees it, where the wires have these values
abbrev pub gate_view : {A : Type 0} → Gates → (ℕ → A) → ℕ → View A
gate_view G value g = record {
  number = g;
  table = table_program (G.table g);
  operands = value (G.operand (operands * g)) ∷ value (G.operand (operands * g + 1)) ∷ [];
}

-- values of the wires that are as the gates say: operands come before their gate, and its value is made of what it sees
pub record Values {A : Type 0} (gate : ℕ → List ℕ → List A → A) (G : Gates) (value : ℕ → A) : Type 0 where
  pub order : (q : ℕ) → G.operand q < wire_of G (q / operands)
  pub equation : (g : ℕ) → let view : View A = gate_view G value g in value (wire_of G g) ≡ gate view.number view.table view.operands

module _ {A : Type 0} (none : A) (gate : ℕ → List ℕ → List A → A) (S : Selector) (G : Gates) (value : ℕ → A) where
  -- U(2 ^ n) for the gates from `base` on can start: its pins are made, its program comes next, and a pin whose operand is not one of its
  -- gates, that is, comes before them, carries its operand's value. The other pins may carry anything
  pub record Starts (n base : ℕ) (pins : List ℕ) (next : ℕ) (s : State A) (rest : List ℕ) : Type 0 where
    pub some : 0 < next
    pub fed : Fed n next pins
    pub made : length s.wires ≡ next
    pub number : s.gates ≡ base
    pub bits : s.bits ≡ universal_bits S G n base ++ rest
    pub carried : (i : ℕ) → i < pin_count n → G.operand (operands * base + i) ≤ G.before + base
        → on none s (get_or pins i 0) ≡ value (G.operand (operands * base + i))

  -- its run from s to t, which sees these views: the outputs carry the gates' values, the g-th gate row sees gate g
  pub record Computes (n base next : ℕ) (s t : State A) (seen : List (View A)) (rest : List ℕ) : Type 0 where
    pub carried : (i : ℕ) → i < 2 ^ n → on none t (get_or (universal_outs S n next) i 0) ≡ value (wire_of G (base + i))
    pub sees : seen ≡ list_of (2 ^ n) (λ i. gate_view G value (base + i))
    pub kept : (w : ℕ) → w < length s.wires → on none t w ≡ on none s w
    pub wires : length t.wires ≡ length s.wires + universal_wires S n
    pub bits : t.bits ≡ rest
    pub gates : t.gates ≡ base + 2 ^ n

-- ---- the induction

-- what a gate row on the wires ws sees
abbrev row_view : {A : Type 0} → A → List ℕ → State A → View A
row_view none ws s = record { number = s.gates; table = take (table_bits ws) s.bits; operands = map (on none s) ws }

last-gate : {A : Type 0} (none : A) (gate : ℕ → List ℕ → List A → A) (ws : List ℕ) (s : State A)
    → let view : View A = row_view none ws s in
    on none (run none gate (Gate ws ∷ []) s) (length s.wires + 0) ≡ gate view.number view.table view.operands
unfolding run step outputs
last-gate none gate ws s = get_or-append-add s.wires _ 0 none

module _ {A : Type 0} (none : A) (gate : ℕ → List ℕ → List A → A) (S : Selector) where
  -- the states after U's parts: the upper half, the selection block, the Y rows
  module _ (n : ℕ) (pins : List ℕ) (next : ℕ) (s : State A) where
    abbrev upper_done : State A
    upper_done = run none gate (universal_rows S n (take (pin_count n) pins) next) s

    abbrev select_done : State A
    select_done = run none gate ((S n).rows (universal_outs S n next) (select_next S n next)) upper_done

    abbrev mix_done : State A
    mix_done = run none gate (mix_rows (pin_count n) pins (selected_outs S n next)) select_done

    abbrev lower_done : State A
    lower_done = run none gate (universal_rows S n (lower_pins S n next) (lower_half_next S n next)) mix_done

    run-parts : run none gate (universal_rows S (suc n) pins next) s ≡ lower_done
    unfolding universal_rows
    run-parts = run-append none gate _ _ s ∙ run-append none gate _ _ upper_done ∙ run-append none gate _ _ select_done

    -- what the upper half leaves is kept
    parts_keep : (w : ℕ) → w < length upper_done.wires → on none (run none gate (universal_rows S (suc n) pins next) s) w ≡ on none upper_done w
    unfolding universal_rows
    parts_keep w l =
        ap (λ (t : State A). on none t w) (run-append none gate (universal_rows S n (take (pin_count n) pins) next) _ s)
        ∙ run_keeps none gate _ upper_done w none l

    -- the gates are those of the halves
    views-parts : SelectorShape S → views none gate (universal_rows S (suc n) pins next) s
        ≡ views none gate (universal_rows S n (take (pin_count n) pins) next) s
        ++ views none gate (universal_rows S n (lower_pins S n next) (lower_half_next S n next)) mix_done
    unfolding universal_rows mix_rows
    views-parts shape =
        views-append none gate _ _ s
        ∙ ap (λ (vs : List (View A)). views none gate (universal_rows S n (take (pin_count n) pins) next) s ++ vs)
        (views-append none gate ((S n).rows (universal_outs S n next) (select_next S n next)) _ upper_done
        ∙ rw (views-none none gate ((S n).rows (universal_outs S n next) (select_next S n next)) upper_done ((shape.at n).totals _ _).gates)
        (views-append none gate (mix_rows (pin_count n) pins (selected_outs S n next)) _ select_done
        ∙ rw (views-none none gate (mix_rows (pin_count n) pins (selected_outs S n next)) select_done (y-list (pin_count n) _ _).gates)))

module _ {A : Type 0} (none : A) (gate : ℕ → List ℕ → List A → A) (S : Selector) (shape : SelectorShape S) (D : SelectorDelivers none gate S) where
  module _ (G : Gates) (value : ℕ → A) (law : Values gate G value) where
    -- U(1): the gate's row sees the gate
    one_view : (base next : ℕ) (pins : List ℕ) (s : State A) (rest : List ℕ) → Starts none gate S G value zero base pins next s rest
        → row_view none (get_or pins 0 0 ∷ get_or pins 1 0 ∷ []) s ≡ gate_view G value base
    unfolding universal_bits
    one_view base next pins s rest H =
        let table = ap (take gate_bits) H.bits ∙ take_at (table_program (G.table base)) rest gate_bits (length-table (G.table base)) in
        let first = H.carried 0 (omega arith) (omega (arith, law.order (operands * base + 0))) in
        let second = H.carried 1 (omega arith) (omega (arith, law.order (operands * base + 1))) in
        rw (H.number, table, first, second, add-zero (operands * base))

    -- what holds of any run of U's rows
    finish : {n base : ℕ} {pins : List ℕ} {next : ℕ} {s : State A} {rest : List ℕ} → Starts none gate S G value n base pins next s rest
        → let t : State A = run none gate (universal_rows S n pins next) s in
        let seen : List (View A) = views none gate (universal_rows S n pins next) s in
        ((i : ℕ) → i < 2 ^ n → on none t (get_or (universal_outs S n next) i 0) ≡ value (wire_of G (base + i)))
        → seen ≡ list_of (2 ^ n) (λ i. gate_view G value (base + i)) → Computes none gate S G value n base next s t seen rest
    finish {n} {base} {pins} {next} {s} {rest} H carried sees =
        let t = universal_totals S shape n pins next in
        record {
          carried = carried;
          sees = sees;
          kept = λ w l. run_keeps none gate _ s w none l;
          wires = run-wires none gate _ s ∙ ap (λ k. length s.wires + k) t.wires;
          bits = run-bits none gate _ s ∙ rw (t.bits, H.bits) (drop_at (universal_bits S G n base) rest _ (length-universal_bits S shape G n base));
          gates = run-gates none gate _ s ∙ rw (t.gates, H.number);
        }

    one_carries : (base next : ℕ) (pins : List ℕ) (s : State A) (rest : List ℕ) → Starts none gate S G value zero base pins next s rest
        → (i : ℕ) → i < 1 → on none (run none gate (universal_rows S zero pins next) s) (get_or (universal_outs S zero next) i 0) ≡ value (wire_of G (base + i))
    unfolding universal_rows universal_outs
    one_carries base next pins s rest H zero l =
        let seen = ap (λ (v : View A). gate v.number v.table v.operands) (one_view base next pins s rest H) in
        ap (on none (run none gate _ s)) (sym H.made ∙ sym (add-zero _)) ∙ last-gate none gate _ s ∙ seen ∙ sym (law.equation base)
        ∙ ap (λ g. value (wire_of G g)) (sym (add-zero base))
    one_carries base next pins s rest H (suc i) l = absurd (omega arith)

    one-sees : (base next : ℕ) (pins : List ℕ) (s : State A) (rest : List ℕ) → Starts none gate S G value zero base pins next s rest
        → views none gate (universal_rows S zero pins next) s ≡ list_of 1 (λ i. gate_view G value (base + i))
    unfolding universal_rows views view_of list_of
    one-sees base next pins s rest H = rw (add-zero base) (ap (λ (v : View A). v ∷ []) (one_view base next pins s rest H))

    module _ (n base : ℕ) (pins : List ℕ) (next : ℕ) (s : State A) (rest : List ℕ) (H : Starts none gate S G value (suc n) base pins next s rest) where
      -- the program of the lower half, and what comes after the selection block's
      abbrev lower_program : List ℕ
      lower_program = universal_bits S G n (base + 2 ^ n) ++ rest

      abbrev mix_program : List ℕ
      mix_program = mix_bits G base (2 ^ n) ++ lower_program

      abbrev select_program : List ℕ
      select_program = (S n).bits (wanted_gates G base (2 ^ n)) ++ mix_program

      upper-starts : Starts none gate S G value n base (take (pin_count n) pins) next s select_program
      upper-starts = record {
        some = H.some;
        fed = upper-pins-fed H.fed;
        made = H.made;
        number = H.number;
        bits = H.bits ∙ program-parts S G n base rest;
        carried = λ i l e. ap (on none s) (get_or-take (pin_count n) pins i 0 l) ∙ H.carried i (omega (arith, double n)) e;
      }

      module _ (seen : List (View A)) (U : Computes none gate S G value n base next s (upper_done none gate S n pins next s) seen select_program) where
        made-upper : length (upper_done none gate S n pins next s).wires ≡ select_next S n next
        made-upper = U.wires ∙ ap (λ w. w + universal_wires S n) H.made

        selected : Delivered none (pin_count n) (mapping (wanted_gates G base (2 ^ n))) (universal_outs S n next) (selected_outs S n next)
            (upper_done none gate S n pins next s) (select_done none gate S n pins next s) (S n).wires mix_program
        selected =
            (D.at n).delivers (wanted-selected G base (2 ^ n) (pow_pos n)) (universal_outs S n next) (select_next S n next) _ mix_program
            (length-universal_outs S n next)
            (omega (arith, H.some)) (universal_below S n next) made-upper U.bits

        made-selected : length (select_done none gate S n pins next s).wires ≡ mix_next S n next
        made-selected = selected.wires ∙ ap (λ w. w + (S n).wires) made-upper

        -- pin j of the lower half, by its Y row's bit
        mixed : (j : ℕ) → j < pin_count n → on none (mix_done none gate S n pins next s) (get_or (lower_pins S n next) j 0)
            ≡ choose (one_if (is_of G base (2 ^ n) (G.operand (operands * (base + 2 ^ n) + j)))) (on none s (get_or pins (pin_count n + j) 0))
            (on none (upper_done none gate S n pins next s) (get_or (universal_outs S n next) (mapping (wanted_gates G base (2 ^ n)) j) 0))
        unfolding mix_rows
        mixed j l =
            let selectState = select_done none gate S n pins next s in
            let pin : ℕ = get_or pins (pin_count n + j) 0 in
            let left = selected.kept pin (omega (arith, made-upper, mixed-fed H.fed j l)) ∙ U.kept pin (rw H.made (mixed-fed H.fed j l)) in
            let bit = ap (λ (b : List ℕ). get_or b j 0) selected.bits ∙ mix_bits-at G base (2 ^ n) j lower_program l in
            ap (on none (mix_done none gate S n pins next s)) (get_or-lower_pins S n next j l ∙ ap (λ w. w + j) (sym made-selected))
            ∙ run_y-at none gate (pin_count n) (λ i. get_or pins (pin_count n + i) 0) (λ i. get_or (selected_outs S n next) i 0) selectState j l
            ∙ ap₂ (choose (get_or selectState.bits j 0)) (run_keeps none gate _ selectState pin none (omega (arith, made-selected, mixed-fed H.fed j l)))
            (run_keeps none gate _ selectState _ none (rw made-selected (selected-fed S shape n next j H.some l)))
            ∙ rw (bit, left, selected.carried j l)

        -- a pin of the lower half whose operand is not one of the lower half's gates carries its operand's value
        lower_carries : (j : ℕ) → j < pin_count n → G.operand (operands * (base + 2 ^ n) + j) ≤ G.before + (base + 2 ^ n)
            → on none (mix_done none gate S n pins next s) (get_or (lower_pins S n next) j 0) ≡ value (G.operand (operands * (base + 2 ^ n) + j))
        unfolding choose
        lower_carries j l e = mixed j l ∙ go (is_of G base (2 ^ n) w) refl
          where
            w : ℕ
            w = G.operand (operands * (base + 2 ^ n) + j)

            go : (b : Bool) → is_of G base (2 ^ n) w ≡ b → choose (one_if (is_of G base (2 ^ n) w)) (on none s (get_or pins (pin_count n + j) 0))
                (on none (upper_done none gate S n pins next s) (get_or (universal_outs S n next) (mapping (wanted_gates G base (2 ^ n)) j) 0)) ≡ value w
            go true e' =
                let at = wants G base (2 ^ n) j (pow_pos n) l e' in
                rw e' (U.carried _ at.0 ∙ ap value at.1)
            go false e' =
                let same : operands * base + (pin_count n + j) ≡ operands * (base + 2 ^ n) + j = omega arith in
                let own = ap (λ q. G.operand q) same in
                let early = not_of G base (2 ^ n) w e' (omega arith) in
                rw e' (H.carried (pin_count n + j) (omega (arith, double n)) (omega arith) ∙ ap value own)

        lower-starts : Starts none gate S G value n (base + 2 ^ n) (lower_pins S n next) (lower_half_next S n next) (mix_done none gate S n pins next s) rest
        unfolding mix_rows
        lower-starts =
            let left : ℕ → ℕ = λ i. get_or pins (pin_count n + i) 0 in
            let right : ℕ → ℕ = λ i. get_or (selected_outs S n next) i 0 in
            let state = select_done none gate S n pins next s in
            record {
              some = omega (arith, H.some);
              fed = lower-pins-fed S n next;
              made = run_y-made none gate (pin_count n) left right state ∙ ap (λ w. w + pin_count n) made-selected;
              number = run-gates none gate _ state ∙ rw ((y-list (pin_count n) left right).gates, add-zero) (selected.gates ∙ U.gates);
              bits = run_y-left none gate (pin_count n) left right state
                  ∙ rw selected.bits (drop_at (mix_bits G base (2 ^ n)) lower_program (pin_count n) (length-mix_bits G base (2 ^ n)));
              carried = lower_carries;
            }

        module _ (seenLower : List (View A)) (L : Computes none gate S G value n (base + 2 ^ n) (lower_half_next S n next)
            (mix_done none gate S n pins next s) (lower_done none gate S n pins next s) seenLower rest) where
          both_carry : (i : ℕ) → i < 2 ^ suc n
              → on none (run none gate (universal_rows S (suc n) pins next) s) (get_or (universal_outs S (suc n) next) i 0) ≡ value (wire_of G (base + i))
          unfolding universal_outs
          both_carry i l = go (dec_lt i (2 ^ n))
            where
              t : State A
              t = run none gate (universal_rows S (suc n) pins next) s

              upper : List ℕ
              upper = universal_outs S n next

              lower : List ℕ
              lower = universal_outs S n (lower_half_next S n next)

              go : Dec (i < 2 ^ n) → on none t (get_or (upper ++ lower) i 0) ≡ value (wire_of G (base + i))
              go (yes m) =
                  let at : i < length upper = rw (length-universal_outs S n next) m in
                  ap (on none t) (get_or-append upper lower 0 i at)
                  ∙ parts_keep none gate S n pins next s (get_or upper i 0) (rw made-upper ((universal_below S n next).each i at)) ∙ U.carried i m
              go (no m) =
                  let e : i ≡ length upper + (i - 2 ^ n) = omega (arith, length-universal_outs S n next) in
                  let g : base + 2 ^ n + (i - 2 ^ n) ≡ base + i = omega arith in
                  ap (λ k. on none t (get_or (upper ++ lower) k 0)) e ∙ ap (on none t) (get_or-append-add upper lower (i - 2 ^ n) 0)
                  ∙ ap (λ (st : State A). on none st (get_or lower (i - 2 ^ n) 0)) (run-parts none gate S n pins next s)
                  ∙ L.carried (i - 2 ^ n) (omega (arith, double n)) ∙ ap (λ k. value (wire_of G k)) g

          both_see : seen ++ seenLower ≡ list_of (2 ^ suc n) (λ i. gate_view G value (base + i))
          both_see =
              let view : ℕ → View A = λ i. gate_view G value (base + i) in
              let e : 2 ^ suc n ≡ 2 ^ n + 2 ^ n = omega (arith, double n) in
              rw (e, list_of-append (2 ^ n) (2 ^ n) view, U.sees, L.sees)
              (ap (λ (vs : List (View A)). list_of (2 ^ n) view ++ vs)
              (list_of_ext (2 ^ n) _ _ (λ i l. ap (gate_view G value) (add_assoc base (2 ^ n) i))))

    -- where U can start, it computes the gates' values
    pub universal_computes : (n base : ℕ) (pins : List ℕ) (next : ℕ) (s : State A) (rest : List ℕ)
        → Starts none gate S G value n base pins next s rest
        → let rows : List Row = universal_rows S n pins next in
        Computes none gate S G value n base next s (run none gate rows s) (views none gate rows s) rest
    universal_computes zero base pins next s rest H = finish H (one_carries base next pins s rest H) (one-sees base next pins s rest H)
    universal_computes (suc n) base pins next s rest H =
        let seenUpper : List (View A) = views none gate (universal_rows S n (take (pin_count n) pins) next) s in
        let upper = universal_computes n base (take (pin_count n) pins) next s _ (upper-starts n base pins next s rest H) in
        let start = lower-starts n base pins next s rest H seenUpper upper in
        let lower = universal_computes n (base + 2 ^ n) (lower_pins S n next) (lower_half_next S n next) (mix_done none gate S n pins next s) rest start in
        finish H (both_carry n base pins next s rest H seenUpper upper _ lower)
        (views-parts none gate S n pins next s shape ∙ both_see n base pins next s rest H seenUpper upper _ lower)
