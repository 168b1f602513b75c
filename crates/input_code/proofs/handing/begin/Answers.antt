-- `begin`: an input before its first byte.
use mathlib.Core.Path.{refl}
use Rattle.input.specs.Input.{held_of, input_in}
use Rattle.input_code.proofs.handing.begin.Goals as goal

pub returns : goal.returns
unfolding input_in held_of
returns c = refl
