-- A turn keeps what holds of the lists; where no gate can be taken, and after as many turns as there are gates, they have the order.
use Rattle.std.proofs.Common.{refl, ◌∙◌, arith}
use Rattle.plan.proofs.RecordLaws.{wire-fits}
use Rattle.plan_drawn.proofs.TakingLaws.{searched-to, turns-start, turns_more, turns-stop, turns-all}
use Rattle.plan_drawn.proofs.taking.Taking.take_gates.Goals as goal

pub loop-taken-init : goal.loop-taken-init
loop-taken-init c = record { same = refl; turns = turns-start _ c.args.self.now.within c.requires.numbered c.requires.listed }

pub returns-in_default-clause-taken : goal.returns-in_default-clause-taken
returns-in_default-clause-taken c =
    turns-stop _ c.loop-taken.invariant.turns (omega arith) (rw c.loop-taken.invariant.same at c.in_default.ensures)

pub loop-taken-preserved : goal.loop-taken-preserved
loop-taken-preserved c =
    let same = c.loop-taken.invariant.same in
    let turns = c.loop-taken.invariant.turns in
    let held = turns.numbered.held in
    let low = searched-to _ c.lowest_left.ensures in
    record {
      same = same;
      turns =
          turns_more _ turns (rw same at c.in-Some.ensures) c.own_place.ensures (c.gate_wire.ensures ∙ wire-fits held.inputs (omega (arith, held.gates)))
          c.drawn_number.ensures (rw (c.unwrap_or-low.ensures, c.from-count.ensures) (rw same at low));
    }

pub returns-clause-taken : goal.returns-clause-taken
returns-clause-taken c = turns-all _ c.loop-taken.invariant.turns (omega arith)
