-- What the checks of a series give where none fails; the run's checks are those of one interval; what the outputs are on the work buffer.
use mathlib.Core.Path.{◌≡◌, refl, sym, ap, ◌∙◌}
use mathlib.Core.Bool.{Bool, true, false}
use mathlib.Core.List.{List, []}
use Prim.Native.Nat.{ℕ, zero, suc, ◌≤◌}
use native.Mathlib.Omega.{arith}
use borrow.Author.Tests.{leb-true}
use lib.Dec.{leb}
use lib.ListN.{length, get_or, get_or-append}
use Rattle.lists.proofs.ListsLaws.{list_of_ext}
use Rattle.fault.specs.declared.Fault.{Fault}
use Rattle.fault.specs.Checks.{unless, and_then, room_fault}
use Rattle.fault.proofs.ChecksLaws.{and_then-zero, unless-zero}
use Rattle.fault.specs.Buffers.{over}
use Rattle.plan_evaluation_checks.specs.EvaluationChecks.{contact_fault}
use Rattle.plan_series_checks.specs.SeriesChecks.{SeriesWithin}
use Rattle.plan_series_checks.proofs.SeriesChecksLaws.{series-faultless, single-fault}
use Rattle.fabric_sizes.specs.Layout.{inputs_in, outputs_in, output_wire_at, wires_in}
use Rattle.fabric_table_checks.specs.TableFault.{WellFormed}
use Rattle.fabric_run_checks.specs.RunFault.{given_fault, run_fault, run_series_fault}
use Rattle.fabric_run_checks.proofs.RunFaultLaws.{given_well_formed}
use Rattle.fabric_run.specs.Running.{run_wires, run_outputs}
use Rattle.fabric_run.specs.RunRows.{outputs_on}
use Rattle.fabric_run.proofs.RunningLaws.{length-run_wires}

-- the outputs' bits, read from the work buffer
pub outputs-read : (table program row work : List ℕ) {after : List ℕ} → WellFormed table → length row ≡ inputs_in table
    → after ≡ over (run_wires table program row) work → outputs_on table after ≡ run_outputs table program row
unfolding run_outputs
outputs-read table program row work w contacts e =
    let l = length-run_wires table program row contacts in
    list_of_ext (outputs_in table) _ _ (λ j h.
    ap (λ b. get_or b (output_wire_at table j) 0) e ∙ get_or-append (run_wires table program row) _ 0 (output_wire_at table j) (omega (arith, w.output j h)))

-- what the checks of a series give where none fails
pub record RunSeriesPasses (table program : List ℕ) (h n : ℕ) (fresh start : List ℕ) (work results end : ℕ) : Type 0 where
  pub given : given_fault table program ≡ 0
  pub well_formed : WellFormed table
  pub within : SeriesWithin (inputs_in table) (outputs_in table) h n fresh start results end
  pub wires : wires_in table ≤ work

pub run-series-passes : {table : List ℕ} (program : List ℕ) {h n : ℕ} {fresh start : List ℕ} {work results end : ℕ}
    → run_series_fault table program h n fresh start work results end ≡ 0 → RunSeriesPasses table program h n fresh start work results end
unfolding run_series_fault room_fault
run-series-passes {table} program {work = work} e =
    let given = (and_then-zero (given_fault table program) _).0 e in
    let series = (and_then-zero _ _).0 given.1 in
    record {
      given = given.0;
      well_formed = given_well_formed table program given.0;
      within = (series-faultless _ _ _ _ _ _ _ _).0 series.0;
      wires = leb-true (wires_in table) work ((unless-zero (leb (wires_in table) work) Fault.Short).0 series.1);
    }

-- two checks of one number can be asked in either order
either_room : (a x b y : ℕ) → and_then (room_fault a x) (room_fault b y) ≡ and_then (room_fault b y) (room_fault a x)
unfolding room_fault
either_room a x b y = go (leb a x) (leb b y)
  where
    go : (s t : Bool) → and_then (unless s Fault.Short) (unless t Fault.Short) ≡ and_then (unless t Fault.Short) (unless s Fault.Short)
    go true true = refl
    go true false = refl
    go false true = refl
    go false false = refl

then_assoc : (a b c : ℕ) → and_then a (and_then b c) ≡ and_then (and_then a b) c
then_assoc zero b c = refl
then_assoc (suc a) b c = refl

-- the checks of the run are those of one interval with nothing held, whatever is lent for the end state
pub run-single : (table program row : List ℕ) (work result end : ℕ) → run_fault table program row work result ≡ run_series_fault table program 0 1 row [] work result end
unfolding run_fault run_series_fault
run-single table program row work result end =
    ap (and_then (given_fault table program))
    (ap (and_then (contact_fault (inputs_in table) row)) (either_room (wires_in table) work (outputs_in table) result)
    ∙ then_assoc (contact_fault (inputs_in table) row) (room_fault (outputs_in table) result) (room_fault (wires_in table) work)
    ∙ ap (λ n. and_then n (room_fault (wires_in table) work)) (sym (single-fault (inputs_in table) (outputs_in table) row result end)))
