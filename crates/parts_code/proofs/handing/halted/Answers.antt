-- `halted`: the state of a check that has refused.
use mathlib.Core.Path.{refl}
use Rattle.parts.specs.States.{walk_in}
use Rattle.parts_code.proofs.handing.halted.Goals as goal

pub returns : goal.returns
unfolding walk_in
returns c = (refl, refl)
