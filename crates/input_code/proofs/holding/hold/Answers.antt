-- `hold`: after whole words, some bytes of the next.
use mathlib.Core.Path.{◌≡◌, refl, ◌∙◌, ap}
use native.Mathlib.Nat.{zero-add}
use native.Mathlib.Omega.{arith}
use lib.ListN.{length, take}
use Rattle.parts.specs.States.{walk_in}
use Rattle.input.specs.Input.{body}
use Rattle.input_code.proofs.HeldBytes.{held_some, in_body}
use Rattle.input_code.proofs.holding.hold.Goals as goal

pub returns : goal.returns
returns c =
    let a = c.args in
    let few = c.requires in
    let stored : take (length a.rest.now) c.append.result ≡ a.rest.now = rw zero-add at (c.append.ensures.front (omega arith)) in
    in_body _ a.state refl ∙ ap (body a.state.lengths (walk_in a.state)) (held_some 4 _ few ∙ stored)
