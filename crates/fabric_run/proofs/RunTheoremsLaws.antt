-- The theorems of a fabric's series.
use mathlib.Core.Path.{◌≡◌, sym, ap, ◌∙◌}
use mathlib.Core.List.{List, [], ◌++◌}
use Prim.Native.Nat.{ℕ, ◌+◌, ◌-◌, ◌*◌, ◌≤◌}
use native.Mathlib.Omega.{arith}
use borrow.Author.Tests.{le-leb}
use lib.ListN.{length, take}
use lib.Seq.{take_at}
use Rattle.fault.specs.Buffers.{filled}
use Rattle.fault.specs.Checks.{room_fault}
use Rattle.fault.proofs.BuffersLaws.{filled-same, filled_none}
use Rattle.series.specs.Series.{state_after}
use Rattle.series.proofs.SeriesLaws.{ContactSeries, state-contacts, first_part_lem, next-part, composed, single-row, single-state, single-last}
use Rattle.plan_evaluation_checks.proofs.EvaluationChecksLaws.{row-length}
use Rattle.plan_series_checks.specs.SeriesChecks.{HoldWithin}
use Rattle.plan_series_checks.proofs.SeriesChecksLaws.{hold-fewer, series-passes}
use Rattle.fabric_sizes.specs.Layout.{inputs_in, outputs_in, wires_in}
use Rattle.fabric_run_checks.specs.RunFault.{given_fault, run_fault, run_series_fault}
use Rattle.fabric_run.specs.Running.{run_wires, run_outputs}
use Rattle.fabric_run.specs.RunSeriesTheorems.{RunSeriesComposes, RunSeriesSplits, RunSeriesSingle}
use Rattle.fabric_run.proofs.RunCallsLaws.{run-series-passes, run-single}
use Rattle.fabric_run.proofs.RunSeriesLaws.{run-contacts}

-- a series that is not refused is one of contacts
series_of : (table program : List ℕ) (h n : ℕ) (fresh start : List ℕ) (work results end : ℕ) → run_series_fault table program h n fresh start work results end ≡ 0
    → ContactSeries (run_outputs table program) (inputs_in table - h) h (outputs_in table) n fresh start
series_of table program h n fresh start work results end e = run-contacts table program (run-series-passes program {end = end} e).within

pub run-series_composes : RunSeriesComposes
run-series_composes table program h n m first next start w₁ r₁ e₁ w₂ r₂ e₂ w₃ r₃ e₃ left is z₁ z₂ z₃ =
    let one = series_of table program h n first start (length w₁) (length r₁) (length e₁) z₁ in
    let two = series_of table program h m next left (length w₂) (length r₂) (length e₂) z₂ in
    let both = series_of table program h (n + m) (first ++ next) start (length w₃) (length r₃) (length e₃) z₃ in
    let state = state_after (run_outputs table program) (inputs_in table - h) h first start n in
    let is-left = is ∙ ap (λ z. take h (filled z state e₁)) z₁ ∙ take_at state _ h (state-contacts one n (omega arith)).size in
    rw (z₁, z₂, z₃) (composed one two both is-left r₁ r₂ e₂ r₃ e₃)

-- a series of contacts in buffers that have room is not refused where table and program pass
unrefused : (table program : List ℕ) {h n : ℕ} {fresh start : List ℕ} (work results end : ℕ) → given_fault table program ≡ 0
    → HoldWithin (inputs_in table) (outputs_in table) h n → ContactSeries (run_outputs table program) (inputs_in table - h) h (outputs_in table) n fresh start
    → wires_in table ≤ work → n * outputs_in table ≤ results → h ≤ end → run_series_fault table program h n fresh start work results end ≡ 0
unfolding run_series_fault room_fault
unrefused table program work results end given hold series wires rows state =
    rw (given, series-passes results end hold series.rows series.state rows state, le-leb (wires_in table) work wires)

pub run-series_splits : RunSeriesSplits
run-series_splits table program h n m first next start w₁ r₁ e₁ w₂ r₂ e₂ w₃ r₃ e₃ size wires₁ room₁ place₁ wires₂ room₂ place₂ z =
    let passes = run-series-passes program {end = e₃} z in
    let hold = passes.within.hold in
    let both = series_of table program h (n + m) (first ++ next) start w₃ r₃ e₃ z in
    let one = first_part_lem n m first next start both size in
    let two = next-part n m first next start both size in
    let state = state_after (run_outputs table program) (inputs_in table - h) h first start n in
    let z₁ = unrefused table program (length w₁) (length r₁) (length e₁) passes.given (hold-fewer n hold (omega arith)) one wires₁ room₁ place₁ in
    let left = ap (λ k. take h (filled k state e₁)) z₁ ∙ take_at state _ h (state-contacts one n (omega arith)).size in
    let z₂ = unrefused table program w₂ r₂ e₂ passes.given (hold-fewer m hold (omega arith)) two wires₂ room₂ place₂ in
    (z₁, ap (λ s. run_series_fault table program h m next s w₂ r₂ e₂) left ∙ z₂)

module _ (table program row work result end : List ℕ) where
  abbrev fault : ℕ
  fault = run_fault table program row (length work) (length result)

  same : run_series_fault table program 0 1 row [] (length work) (length result) (length end) ≡ fault
  same = sym (run-single table program row (length work) (length result) (length end))

  size : fault ≡ 0 → length row ≡ inputs_in table - 0
  size z = let e = row-length _ row (run-series-passes program {end = length end} (same ∙ z)).within.fresh_rows in omega arith

  pub run-series-single : RunSeriesSingle table program row work result end
  run-series-single = record {
    answered = same;
    worked = rw same (filled-same fault work (λ z. single-last (run_outputs table program) (inputs_in table - 0) row (size z) (run_wires table program)));
    written = rw same (filled-same fault result (λ z. single-row (run_outputs table program) (inputs_in table - 0) row (size z)));
    kept = rw same (filled-same fault end (λ z. single-state (run_outputs table program) (inputs_in table - 0) row (size z)) ∙ filled_none fault end);
  }
