use Rattle.std.proofs.Common.{◌≡◌, suc, ◌-◌, ◌<◌, length, get_or, refl, sym, false, arith}
use lib.ListN.{length-set, length-replicate}
use Rattle.fault.specs.Checks.{first_of}
use Rattle.block_program_checks.specs.Checks.{is_new, twice_fault}
use Rattle.block_program_checks.proofs.ChecksLaws.{marked-none, marked_more, comes_first, comes_again, source-refused, source-passed}
use Rattle.block_program_checks.proofs.permutation.check_once_in.Goals as goal

pub loop-input-init : goal.loop-input-init
unfolding first_of
loop-input-init g c = (refl, marked-none c.args.wanted.now g.row.N, length-replicate g.row.N false)

pub returns-then-came-x : goal.returns-then-came-x
unfolding twice_fault
returns-then-came-x g c =
    let wanted = c.args.wanted.now in
    let i = c.loop-input.input-index in
    let x = c.from-x.result - 1 in
    let low = c.requires.selected.low i (omega arith) in
    let here : suc x ≡ get_or wanted i 0 = omega (arith, c.from-x.ensures) in
    let fits : x < length c.loop-input.came = omega (arith, c.requires.selected.high i (omega arith)) in
    source-refused (is_new wanted) _ i (omega arith) c.loop-input.invariant.0 (comes_again c.loop-input.invariant.1 here fits c.if-came-x.true)

pub loop-input-preserved : goal.loop-input-preserved
loop-input-preserved g c =
    let wanted = c.args.wanted.now in
    let i = c.loop-input.input-index in
    let x = c.from-x.result - 1 in
    let low = c.requires.selected.low i (omega arith) in
    let here : suc x ≡ get_or wanted i 0 = omega (arith, c.from-x.ensures) in
    let fits : x < length c.loop-input.came = omega (arith, c.requires.selected.high i (omega arith)) in (
      source-passed (is_new wanted) i c.loop-input.invariant.0 (comes_first c.loop-input.invariant.1 here fits c.if-came-x.false),
      marked_more c.loop-input.invariant.1 here fits,
      simp length-set c.loop-input.invariant.2,
    )

pub returns : goal.returns
unfolding twice_fault
returns g c =
    let e : length c.args.wanted.now ≡ c.loop-input.input-index = omega arith in
    rw e (sym c.loop-input.invariant.0)
