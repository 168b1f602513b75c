-- `turn`: x alone is turned, and on port alone.
use Prim.Native.Nat.{◌<◌}
use native.Mathlib.Omega.{arith}
use borrow.Author.Tests.{lt-leb}
use Rattle.mounts.specs.Signs.{vector_on}
use Rattle.mounts_code.proofs.signs.turn.Goals as goal

pub returns-in-0 : goal.returns-in-0
unfolding vector_on
returns-in-0 c = simp c.in-0.is

pub returns-in-1 : goal.returns-in-1
unfolding vector_on
returns-in-1 c = simp c.in-1.is c.on_port.ensures

pub returns-in_default : goal.returns-in_default
unfolding vector_on
returns-in_default c = let above : 1 < c.args.side = omega arith in simp (lt-leb _ _ above)
