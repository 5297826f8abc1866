-- The intervals of an accepted plan's series on lent buffers: where an interval finds its row, and what stands when its outputs are written and the last
-- of them are held.
use mathlib.Core.Path.{◌≡◌, sym, ap, subst, ◌∙◌}
use mathlib.Core.List.{List, [], ◌++◌, append_assoc}
use Prim.Native.Nat.{ℕ, ◌+◌, ◌-◌, ◌*◌, ◌≤◌, ◌<◌}
use native.Mathlib.Nat.{mul-le-mul_right}
use native.Mathlib.Omega.{arith}
use borrow.Rule.Slice.PartMut.{put_mid}
use lib.ListN.{length, take, drop, length-take, length-drop}
use lib.Seq.{sets, sets-eq, drop-drop}
use Rattle.fault.proofs.PartsLaws.{length_over}
use Rattle.series.specs.Series.{last_of, fresh_row, series_rows, interval_row}
use Rattle.series.proofs.CopyingLaws.{sets_over, last_stored}
use Rattle.series.proofs.SeriesLaws.{ContactSeries, SeriesStands, contacts-part, row_ends, state-contacts, state-lent, rows-length, series-more}
use Rattle.plan.specs.declared.record.Plan.{Plan}
use Rattle.plan.specs.Faults.{Accepted}
use Rattle.plan.proofs.FaultsLaws.{accepted-counts}
use Rattle.plan_evaluation_checks.specs.EvaluationChecks.{Evaluable}
use Rattle.plan_series_checks.specs.SeriesChecks.{SeriesWithin}
use Rattle.plan_evaluation.specs.Evaluation.{plan_outputs, gate_bit}
use Rattle.plan_evaluation.specs.IntervalRow.{IntervalRow}
use Rattle.plan_evaluation.proofs.EvaluationLaws.{length-plan_outputs}
use Rattle.plan_evaluation.proofs.PlanSeriesLaws.{plan-contacts, interval_evaluable}

-- a part that is written over is a list that is stored there
part-stored : {A : Type 0} (l xs : List A) (at e : ℕ) → e ≡ at + length xs → e ≤ length l → put_mid at (e - at) l xs ≡ sets l at xs
part-stored l xs at e is room =
    let size : e - at ≡ length xs = omega arith in
    rw (size, drop-drop (length xs) at l) (sym (sets-eq xs l at (omega arith) ∙ append_assoc (take at l) xs (drop (at + length xs) l)))

module _ (p : Plan) {h n : ℕ} {fresh start : List ℕ} (results₀ end₀ : List ℕ) (accepted : Accepted p)
    (within : SeriesWithin p.inputs p.output_count h n fresh start (length results₀) (length end₀)) where
  -- an interval's step, and how many fresh entries and outputs it has
  abbrev step : List ℕ → List ℕ
  step = plan_outputs 0 gate_bit p

  abbrev f : ℕ
  f = p.inputs - h

  abbrev v : ℕ
  v = p.output_count

  series : ContactSeries step f h v n fresh start
  series = plan-contacts p within

  -- the start state is as long as what is held
  pub start-size : length start ≡ h
  start-size = series.state.size

  module _ {t : ℕ} {results end : List ℕ} (now : SeriesStands step f h fresh start results₀ end₀ t results end) where
    -- the buffers are as long as they were
    pub results-long : t ≤ n → length results ≡ length results₀
    results-long l =
        let fewer = mul-le-mul_right v l in
        ap length now.rows ∙ length_over (series_rows step f h fresh start t) results₀ (omega (arith, rows-length series t l, within.rows_room))

    module _ (l : t < n) where
      -- its fresh entries and its results lie in the buffers
      pub fresh-end : t * f + f ≤ length fresh
      fresh-end = omega (arith, row_ends t n f l, series.rows.size)

      pub rows-end : t * v + v ≤ length results
      rows-end = omega (arith, row_ends t n v l, within.rows_room, results-long (omega arith))

      row_is : fresh_row f fresh t ++ take h end ≡ interval_row step f h fresh start t
      row_is = ap (λ (held : List ℕ). fresh_row f fresh t ++ held) (state-lent series now (omega arith))

      -- its row
      pub row-within : IntervalRow p (take (t * f + f - t * f) (drop (t * f) fresh)) (take h end)
      row-within =
          let one : t * f + f - t * f ≡ f = omega arith in
          let rows = contacts-part (t * f) f series.rows (row_ends t n f l) in
          let state = ap length (state-lent series now (omega arith)) ∙ (state-contacts series t (omega arith)).size in
          rw one (record {
            evaluable = subst (Evaluable p) (sym row_is) (interval_evaluable p within accepted t l);
            size = omega (arith, rows.size, state, within.hold.inputs);
            counts = accepted-counts p accepted;
          })

      -- its outputs and the last of them
      pub interval-more : {out last : List ℕ} → out ≡ step (take (t * f + f - t * f) (drop (t * f) fresh) ++ take h end)
          → last ≡ take (t * v + v - (t * v + v - h)) (drop (t * v + v - h) (put_mid (t * v) (t * v + v - t * v) results out))
          → SeriesStands step f h fresh start results₀ end₀ (t + 1) (put_mid (t * v) (t * v + v - t * v) results out) (last ++ drop h end)
      interval-more {out} {last} is held =
          let one : t * f + f - t * f ≡ f = omega arith in
          let outputs : out ≡ step (interval_row step f h fresh start t) = is ∙ ap (λ k. step (take k (drop (t * f) fresh) ++ take h end)) one ∙ ap step row_is in
          let size : length out ≡ v = ap length outputs ∙ length-plan_outputs p _ in
          let stored = part-stored results out (t * v) (t * v + v) (omega arith) rows-end in
          let few : t * v + v - (t * v + v - h) ≡ h = omega (arith, within.hold.outputs) in
          let kept : last ≡ last_of h out =
          held ∙ ap (λ k. take k (drop (t * v + v - h) (put_mid (t * v) (t * v + v - t * v) results out))) few
          ∙ ap (λ r. take h (drop (t * v + v - h) r)) stored ∙ last_stored results out (t * v) h v size within.hold.outputs rows-end in
          let state = ap length (state-lent series now (omega arith)) ∙ (state-contacts series t (omega arith)).size in
          let given = step (interval_row step f h fresh start t) in
          let long : length (last_of h given) ≡ h = omega (arith, length-drop (length given - h) given, length-plan_outputs p (interval_row step f h fresh start t), within.hold.outputs) in
          series-more series now l within.rows_room within.state_room (stored ∙ ap (sets results (t * v)) outputs)
          (ap (λ x. x ++ drop h end) (kept ∙ ap (last_of h) outputs) ∙ ap (λ k. last_of h given ++ drop k end) (sym long)
          ∙ sym (sets_over [] end (last_of h given) (omega (arith, length-take h end))))
