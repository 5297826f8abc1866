-- Every place is 0.
use Rattle.std.proofs.Common.{refl}
use Rattle.plan.specs.Record.{places}
use Rattle.capi.proofs.no_numbers.Goals as goal

pub returns : goal.returns
unfolding places
returns c = refl
