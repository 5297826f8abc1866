-- Both readings hand back the record of counts, gates and outputs: its figures are the counted ones, and nothing names a wire past its own.
use Prim.Native.Nat.{ℕ, suc}
use native.Mathlib.Decide.{dec_lt}
use native.Mathlib.Omega.{arith}
use mathlib.Core.Path.{◌≡◌, sym, subst, ◌∙◌}
use mathlib.Core.List.{List}
use mathlib.Core.Bool.{false}
use lib.ListN.{get_or-eq_default}
use Rattle.lists.specs.Lists.{list_of}
use Rattle.lists.proofs.ListsLaws.{length-list_of, get_or-list_of}
use Rattle.plan.specs.declared.record.Gate.{Gate}
use Rattle.plan.specs.declared.record.PlanWire.{PlanWire}
use Rattle.plan.specs.Record.{max_gates, max_outputs, max_plan_wires, wire, zero_gate, uses_of, plan_of}
use Rattle.plan.specs.Faults.{Accepted}
use Rattle.plan.proofs.RecordLaws.{get_or-places}
use Rattle.plan.proofs.UsesLaws.{uses-same}
use Rattle.plan.proofs.FaultsLaws.{accepted_bounds, accepted-tallied, held-tallied}
use Rattle.plan.proofs.TallyLaws.{unnamed, uses-add_up}
use Rattle.plan_reading.specs.PlanFile.{plan_read}
use Rattle.plan_drawn.proofs.DrawingFileLaws.{file-held, plan-got}
use Rattle.plan_drawn.proofs.DrawnTheoremsLaws.{drawn-right_theorem}
use Rattle.plan_files.specs.ReadFigures.{FiguresRead, PlainFiguresTheorem, DrawnFiguresTheorem}

-- the record of counts, gates and outputs, where it is accepted
figures_of : (u k v : ℕ) (gs : List Gate) (os : List PlanWire) → Accepted (plan_of u k v gs os) → FiguresRead (plan_of u k v gs os)
figures_of u k v gs os ok =
    let p = plan_of u k v gs os in
    let uses : ℕ → ℕ = λ i. uses_of k v gs os (suc i) in record {
      accepted = ok;
      tallied = accepted-tallied p ok;
      sum = uses-add_up p ok;
      unused = λ i l. elim (dec_lt i max_plan_wires) [
        | yes h ↦
            get_or-list_of max_plan_wires uses i 0 h
            ∙ sym (uses-same k v _ gs _ os (suc i) (λ j _. get_or-places max_gates zero_gate gs j) (λ j _. get_or-places max_outputs (wire 0) os j))
            ∙ unnamed p ok i l
        | no h ↦ get_or-eq_default (list_of max_plan_wires uses) 0 (rw (length-list_of max_plan_wires uses) (omega arith))
      ];
    }

-- what the plain reading hands back is accepted
pub read-accepted : (s : List ℕ) → (plan_read s).number ≡ 0 → Accepted (plan_read s).plan
read-accepted s e =
    let file = file-held false s (plan-got s e).1 in
    (accepted_bounds (plan_read s).plan).1 (
      record { counts = file.counts; gate = λ i l. (file.gate i l).within; output = file.output },
      held-tallied file.gates file.outputs file.held file.counts,
    )

pub plain_figures : PlainFiguresTheorem
plain_figures s e =
    let file = file-held false s (plan-got s e).1 in
    subst FiguresRead (sym file.held) (figures_of _ _ _ file.gates file.outputs (subst Accepted file.held (read-accepted s e)))

pub drawn_figures_lem : DrawnFiguresTheorem
drawn_figures_lem s e =
    let right = drawn-right_theorem s e in
    subst FiguresRead (sym right.plan) (figures_of _ _ _ _ _ right.right.accepted)
