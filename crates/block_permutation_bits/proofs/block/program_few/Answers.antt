-- P(2)'s one bit is the first entry of its mapping, P(1) has none
use mathlib.Core.Path.{sym, ◌∙◌}
use native.Mathlib.Omega.{arith}
use lib.ListN.{length}
use Rattle.block_loops.proofs.LevelsLaws.{no_bits, pair-first, pair-stored}
use Rattle.block_permutation_bits.proofs.HalvesLaws.{is_pair, is_one}
use Rattle.block_permutation_bits.proofs.block.program_few.Goals as goal

pub overflow_cast-mapping : goal.overflow_cast-mapping
overflow_cast-mapping c =
    let m = c.args.mapping.now in
    let level = is_pair c.in-2.is in
    omega (arith, pair-first m.inputs.now m.one_to_one (sym c.requires.0.power) (omega arith) (omega arith))

pub returns-in-2 : goal.returns-in-2
returns-in-2 c =
    let m = c.args.mapping.now in
    let level = is_pair c.in-2.is in
    c.store_bit.ensures ∙ pair-stored m.inputs.now m.one_to_one (sym c.requires.0.power) (omega arith) (omega arith) c.args.program.now c.args.start

pub returns-in_default : goal.returns-in_default
returns-in_default c =
    let p = c.args.mapping.now.inputs.now in
    let level = is_one {N = length p} c.requires.0 c.requires.1 (omega arith) (omega arith) in
    no_bits _ c.args.start p c.args.program.now (omega arith)
