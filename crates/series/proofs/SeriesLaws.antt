-- Laws of a series over any step: composition, equal steps, how long states and output rows are, and an interval more on lent buffers.
use mathlib.Core.Path.{◌≡◌, refl, sym, ap, ap₂, subst, ◌∙◌}
use mathlib.Core.List.{List, [], ◌++◌, append_assoc, append-nil}
use Prim.Native.Nat.{ℕ, zero, suc, ◌+◌, ◌-◌, ◌*◌, ◌≤◌, ◌<◌}
use native.Mathlib.Nat.{add-zero, add-suc}
use native.Mathlib.Numerals.{add-one}
use native.Mathlib.Omega.{arith}
use native.Mathlib.Decide.{dec_lt}
use lib.ListN.{length, get_or, take, drop, length-append, length-take, length-drop, drop_of_length-le, get_or-append, get_or-eq_default}
use lib.Seq.{sets, take-append-le, drop-append-le, drop-append-add, take_all, take_at, drop_at, get_or-append-add, get_or-take, get_or-drop, length-take-le}
use Rattle.fault.specs.Buffers.{over}
use Rattle.fault.proofs.PartsLaws.{length_over, over-again}
use Rattle.series.specs.Series.{last_of, fresh_row, state_after, interval_row, series_rows, of_last}
use Rattle.series.specs.Composition.{Composes}
use Rattle.series.proofs.CopyingLaws.{sets_over}

-- ---- rows of f entries, one after another

-- row t ends within n rows
pub row_ends : (t n f : ℕ) → t < n → t * f + f ≤ n * f
row_ends t n f l = go (n - suc t) (omega arith)
  where
    go : (k : ℕ) → n ≡ suc t + k → t * f + f ≤ n * f
    go k e = rw e (omega arith)

module _ {A : Type 0} (f : ℕ) (a b : List A) (n : ℕ) (size : length a ≡ n * f) where
  fresh-front : (t : ℕ) → t < n → fresh_row f (a ++ b) t ≡ fresh_row f a t
  fresh-front t l =
      let e = row_ends t n f l in
      ap (take f) (drop-append-le (t * f) a b (omega arith)) ∙ take-append-le f (drop (t * f) a) b (omega (arith, length-drop (t * f) a))

  fresh-behind : (t : ℕ) → fresh_row f (a ++ b) (n + t) ≡ fresh_row f b t
  fresh-behind t =
      let e : (n + t) * f ≡ length a + t * f = omega arith in
      ap (λ m. take f (drop m (a ++ b))) e ∙ ap (take f) (drop-append-add a b (t * f))

-- ---- composition: n intervals on the fresh rows a, then more on the rows b that follow, from the state left

module _ {A : Type 0} (step : List A → List A) (f h : ℕ) (a b start : List A) (n : ℕ) (size : length a ≡ n * f) where
  abbrev all : List A
  all = a ++ b

  -- the state left
  abbrev left : List A
  left = state_after step f h a start n

  state-front : (t : ℕ) → t ≤ n → state_after step f h all start t ≡ state_after step f h a start t
  unfolding state_after
  state-front zero l = refl
  state-front (suc t) l = ap₂ (λ r s. last_of h (step (r ++ s))) (fresh-front f a b n size t l) (state-front t (omega arith))

  row-front : (t : ℕ) → t < n → interval_row step f h all start t ≡ interval_row step f h a start t
  row-front t l = ap₂ (λ r s. r ++ s) (fresh-front f a b n size t l) (state-front t (omega arith))

  rows-front : (t : ℕ) → t ≤ n → series_rows step f h all start t ≡ series_rows step f h a start t
  unfolding series_rows
  rows-front zero l = refl
  rows-front (suc t) l = ap₂ (λ rows r. rows ++ step r) (rows-front t (omega arith)) (row-front t l)

  state-behind : (t : ℕ) → state_after step f h all start (n + t) ≡ state_after step f h b left t
  unfolding state_after
  state-behind zero = ap (state_after step f h all start) (add-zero n) ∙ state-front n (omega arith)
  state-behind (suc t) =
      ap (state_after step f h all start) (add-suc n t)
      ∙ ap₂ (λ r s. last_of h (step (r ++ s))) (fresh-behind f a b n size t) (state-behind t)

  row-behind : (t : ℕ) → interval_row step f h all start (n + t) ≡ interval_row step f h b left t
  row-behind t = ap₂ (λ r s. r ++ s) (fresh-behind f a b n size t) (state-behind t)

  rows_behind : (t : ℕ) → series_rows step f h all start (n + t) ≡ series_rows step f h a start n ++ series_rows step f h b left t
  unfolding series_rows
  rows_behind zero = ap (series_rows step f h all start) (add-zero n) ∙ rows-front n (omega arith) ∙ sym (append-nil _)
  rows_behind (suc t) =
      ap (series_rows step f h all start) (add-suc n t)
      ∙ ap₂ (λ rows r. rows ++ step r) (rows_behind t) (row-behind t)
      ∙ append_assoc (series_rows step f h a start n) (series_rows step f h b left t) (step (interval_row step f h b left t))

-- ---- steps that agree on the rows of the series give the same series

module _ {A : Type 0} (step other : List A → List A) (f h : ℕ) (fresh start : List A) (n : ℕ)
    (agree : (t : ℕ) → t < n → step (interval_row step f h fresh start t) ≡ other (interval_row step f h fresh start t)) where
  pub same-state : (t : ℕ) → t ≤ n → state_after step f h fresh start t ≡ state_after other f h fresh start t
  unfolding state_after
  same-state zero l = refl
  same-state (suc t) l =
      ap (last_of h) (agree t l) ∙ ap (λ s. last_of h (other (fresh_row f fresh t ++ s))) (same-state t (omega arith))

  pub same_rows : (t : ℕ) → t ≤ n → series_rows step f h fresh start t ≡ series_rows other f h fresh start t
  unfolding series_rows
  same_rows zero l = refl
  same_rows (suc t) l =
      ap₂ (λ rows out. rows ++ out) (same_rows t (omega arith)) (agree t l ∙ ap (λ s. other (fresh_row f fresh t ++ s)) (same-state t (omega arith)))

-- ---- one interval with nothing held is the step itself

module _ {A : Type 0} (step : List A → List A) (f : ℕ) (row : List A) (size : length row ≡ f) where
  whole_row : interval_row step f 0 row [] 0 ≡ row
  unfolding state_after
  whole_row =
      let none : 0 * f ≡ 0 = omega arith in
      append-nil _ ∙ ap (λ n. take f (drop n row)) none ∙ take_all f row (omega arith)

  pub single-row : series_rows step f 0 row [] 1 ≡ step row
  unfolding series_rows
  single-row = ap step whole_row

  pub single-state : state_after step f 0 row [] 1 ≡ []
  unfolding state_after
  single-state = let out = step (interval_row step f 0 row [] 0) in drop_of_length-le out {i = length out - 0} (omega arith)

  pub single-last : (show : List A → List A) → of_last step f 0 row [] show 1 ≡ show row
  single-last show = ap show whole_row

-- ---- rows of contacts: m entries, each 0 or 1

pub record Contacts (m : ℕ) (row : List ℕ) : Type 0 where
  pub size : length row ≡ m
  pub bit : (i : ℕ) → get_or row i 0 ≤ 1

contacts-append : {m n : ℕ} {a b : List ℕ} → Contacts m a → Contacts n b → Contacts (m + n) (a ++ b)
contacts-append {m} {n} {a} {b} ca cb = record { size = omega (arith, length-append a b); bit = λ i. go i (dec_lt i (length a)) }
  where
    go : (i : ℕ) → Dec (i < length a) → get_or (a ++ b) i 0 ≤ 1
    go i (yes l) = rw (get_or-append a b 0 i l) (ca.bit i)
    go i (no l) = let e : i ≡ length a + (i - length a) = omega arith in rw (e, get_or-append-add a b (i - length a) 0) (cb.bit (i - length a))

-- k entries of a row from a place on
pub contacts-part : {m : ℕ} {row : List ℕ} (at k : ℕ) → Contacts m row → at + k ≤ m → Contacts k (take k (drop at row))
contacts-part {m} {row} at k c l = record {
  size = length-take-le k (drop at row) (omega (arith, length-drop at row));
  bit = λ i. go i (dec_lt i k);
}
  where
    go : (i : ℕ) → Dec (i < k) → get_or (take k (drop at row)) i 0 ≤ 1
    go i (yes y) = rw (get_or-take k (drop at row) i 0 y, get_or-drop at row i 0) (c.bit (at + i))
    go i (no y) = rw (get_or-eq_default (take k (drop at row)) 0 {n = i} (omega (arith, length-take k (drop at row)))) (omega arith)

contacts-last : {m : ℕ} {row : List ℕ} (h : ℕ) → Contacts m row → h ≤ m → Contacts h (last_of h row)
contacts-last {m} {row} h c l = record {
  size = omega (arith, length-drop (length row - h) row);
  bit = λ i. rw (get_or-drop (length row - h) row i 0) (c.bit (length row - h + i));
}

-- n rows of f fresh contacts, a state of h, and a step that gives v contacts, h of them to be held, for a row of both
pub record ContactSeries (step : List ℕ → List ℕ) (f h v n : ℕ) (fresh start : List ℕ) : Type 0 where
  pub gives : (row : List ℕ) → Contacts (f + h) row → Contacts v (step row)
  pub held : h ≤ v
  pub rows : Contacts (n * f) fresh
  pub state : Contacts h start

module _ {step : List ℕ → List ℕ} {f h v n : ℕ} {fresh start : List ℕ} (series : ContactSeries step f h v n fresh start) where
  pub state-contacts : (t : ℕ) → t ≤ n → Contacts h (state_after step f h fresh start t)
  unfolding state_after
  state-contacts zero l = series.state
  state-contacts (suc t) l =
      let row = contacts-append (contacts-part (t * f) f series.rows (row_ends t n f l)) (state-contacts t (omega arith)) in
      contacts-last h (series.gives _ row) series.held

  pub row-contacts : (t : ℕ) → t < n → Contacts (f + h) (interval_row step f h fresh start t)
  row-contacts t l = contacts-append (contacts-part (t * f) f series.rows (row_ends t n f l)) (state-contacts t (omega arith))

  pub rows-length : (t : ℕ) → t ≤ n → length (series_rows step f h fresh start t) ≡ t * v
  unfolding series_rows
  rows-length zero l = omega arith
  rows-length (suc t) l =
      length-append (series_rows step f h fresh start t) _ ∙ omega (arith, rows-length t (omega arith), (series.gives _ (row-contacts t l)).size)

-- ---- the series on lent buffers

-- behind t intervals the output rows and the state stand in front of what the buffers held
pub record SeriesStands (step : List ℕ → List ℕ) (f h : ℕ) (fresh start results₀ end₀ : List ℕ) (t : ℕ) (results end : List ℕ) : Type 0 where
  pub rows : results ≡ over (series_rows step f h fresh start t) results₀
  pub state : end ≡ over (state_after step f h fresh start t) end₀

module _ {step : List ℕ → List ℕ} {f h v n : ℕ} {fresh start results₀ end₀ : List ℕ} (series : ContactSeries step f h v n fresh start) where
  -- the state that an interval is lent
  pub state-lent : {t : ℕ} {results end : List ℕ} → SeriesStands step f h fresh start results₀ end₀ t results end → t ≤ n
      → take h end ≡ state_after step f h fresh start t
  state-lent {t} now l = ap (take h) now.state ∙ take_at _ _ h (state-contacts series t l).size

  module _ {t : ℕ} {results end : List ℕ} (now : SeriesStands step f h fresh start results₀ end₀ t results end) (l : t < n)
      (room : n * v ≤ length results₀) (place : h ≤ length end₀) where
    abbrev out : List ℕ
    out = step (interval_row step f h fresh start t)

    abbrev rows : List ℕ
    rows = series_rows step f h fresh start t

    size : length out ≡ v
    size = (series.gives _ (row-contacts series t l)).size

    before : length rows ≡ t * v
    before = rows-length series t (omega arith)

    rows_more : sets results (t * v) out ≡ over (rows ++ out) results₀
    rows_more =
        ap (λ b. sets b (t * v) out) now.rows ∙ ap (λ m. sets (over rows results₀) m out) (sym before)
        ∙ sets_over rows results₀ out (omega (arith, row_ends t n v l, size, before))

    -- one interval more: its outputs behind the rows, the last of them in the state's place
    pub series-more : {results' end' : List ℕ} → results' ≡ sets results (t * v) out → end' ≡ sets end 0 (last_of h out)
        → SeriesStands step f h fresh start results₀ end₀ (t + 1) results' end'
    unfolding state_after series_rows
    series-more er ee =
        let held = state-contacts series t (omega arith) in
        let again = state-contacts series (suc t) l in
        let whole = ap length now.state ∙ length_over (state_after step f h fresh start t) end₀ (omega (arith, held.size)) in
        rw (add-one t) (record {
          rows = er ∙ rows_more;
          state =
              ee ∙ sets_over [] end (last_of h out) (omega (arith, again.size, whole)) ∙ ap (over (last_of h out)) now.state
              ∙ over-again (last_of h out) (state_after step f h fresh start t) end₀ (again.size ∙ sym held.size);
        })

-- before the first interval the start state stands, and behind the last one nothing of it is left
module _ {step : List ℕ → List ℕ} {f h v n : ℕ} {fresh start end₀ : List ℕ} (series : ContactSeries step f h v n fresh start) (older : List ℕ)
    (place : h ≤ length older) (e : end₀ ≡ sets older 0 start) where
  started : end₀ ≡ over start older
  started = e ∙ sets_over [] older start (omega (arith, series.state.size))

  pub series-first : (results₀ : List ℕ) → SeriesStands step f h fresh start results₀ end₀ 0 results₀ end₀
  unfolding state_after series_rows
  series-first results₀ = record { rows = refl; state = started ∙ sym (over-again start start older refl) ∙ ap (over start) (sym started) }

  pub series-last : {results₀ results end : List ℕ} → SeriesStands step f h fresh start results₀ end₀ n results end
      → end ≡ over (state_after step f h fresh start n) older
  series-last now =
      now.state ∙ ap (over (state_after step f h fresh start n)) started
      ∙ over-again (state_after step f h fresh start n) start older ((state-contacts series n (omega arith)).size ∙ sym series.state.size)

-- ---- a series in two parts: both are series of contacts, the second from the state that the first leaves

module _ {step : List ℕ → List ℕ} {f h v : ℕ} (n m : ℕ) (first next start : List ℕ) (both : ContactSeries step f h v (n + m) (first ++ next) start)
    (size : length first ≡ n * f) where
  long : length next ≡ m * f
  long = let all = both.rows.size in omega (arith, length-append first next)

  pub first_part_lem : ContactSeries step f h v n first start
  first_part_lem = record {
    gives = both.gives;
    held = both.held;
    rows = subst (Contacts (n * f)) (take_at first next (n * f) size) (contacts-part 0 (n * f) both.rows (omega arith));
    state = both.state;
  }

  pub next-part : ContactSeries step f h v m next (state_after step f h first start n)
  next-part = record {
    gives = both.gives;
    held = both.held;
    rows = subst (Contacts (m * f)) (ap (take (m * f)) (drop_at first next (n * f) size) ∙ take_all (m * f) next (omega (arith, long)))
        (contacts-part (n * f) (m * f) both.rows (omega arith));
    state = state-contacts first_part_lem n (omega arith);
  }

-- ---- composition on lent buffers: the first call's end state is the second's start state

module _ {step : List ℕ → List ℕ} {f h v n m : ℕ} {first next start left : List ℕ} (one : ContactSeries step f h v n first start)
    (two : ContactSeries step f h v m next left) (both : ContactSeries step f h v (n + m) (first ++ next) start)
    (is-left : left ≡ state_after step f h first start n) where
  pub composed : (r₁ r₂ e₂ r₃ e₃ : List ℕ) → Composes v h n m (over (series_rows step f h first start n) r₁)
      (over (series_rows step f h next left m) r₂) (over (state_after step f h next left m) e₂)
      (over (series_rows step f h (first ++ next) start (n + m)) r₃) (over (state_after step f h (first ++ next) start (n + m)) e₃)
  composed r₁ r₂ e₂ r₃ e₃ =
      let whole = rows-length both (n + m) (omega arith) in
      let behind = rows_behind step f h first next start n one.rows.size m in
      let stays = state-behind step f h first next start n one.rows.size m in
      record {
        rows =
            ap₂ (λ (a b : List ℕ). a ++ b) (take_at (series_rows step f h first start n) _ (n * v) (rows-length one n (omega arith)))
            (take_at (series_rows step f h next left m) _ (m * v) (rows-length two m (omega arith)) ∙ ap (λ s. series_rows step f h next s m) is-left)
            ∙ sym behind ∙ sym (take_at (series_rows step f h (first ++ next) start (n + m)) _ ((n + m) * v) whole);
        state =
            take_at (state_after step f h next left m) _ h (state-contacts two m (omega arith)).size ∙ ap (λ s. state_after step f h next s m) is-left
            ∙ sym stays ∙ sym (take_at (state_after step f h (first ++ next) start (n + m)) _ h (state-contacts both (n + m) (omega arith)).size);
      }
