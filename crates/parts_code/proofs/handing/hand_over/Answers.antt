-- `hand_over`: the next part.
use mathlib.Core.Path.{◌≡◌, refl, sym, ◌∙◌}
use native.Mathlib.Omega.{arith}
use lib.ListN.{length}
use Rattle.lists.proofs.Slices.{no_length}
use Rattle.parts.specs.States.{gathered}
use Rattle.parts.proofs.Parts.{stopped_stays}
use Rattle.parts_code.proofs.HeldLaws.{no_fault, from_none}
use Rattle.parts_code.proofs.handing.hand_over.Goals as goal

pub returns-then-is_some : goal.returns-then-is_some
returns-then-is_some c = (stopped_stays c.args.state c.args.part.now (sym c.is_some.ensures ∙ c.if-is_some.true), refl)

pub returns-then-held-eq0 : goal.returns-then-held-eq0
returns-then-held-eq0 c =
    let a = c.args in
    let none : length (gathered a.state) ≡ 0 = omega (arith, c.held_words-held.ensures.0, c.if-held-eq0.true) in
    (c.walk_on.ensures.0 ∙ from_none a.state a.part.now (no_fault a.state (sym c.is_some.ensures ∙ c.if-is_some.false)) (no_length (gathered a.state) none), c.walk_on.ensures.1)

pub complete-requires : goal.complete-requires
complete-requires c =
    let s = c.args.state in
    (no_fault s (sym c.is_some.ensures ∙ c.if-is_some.false), (c.held_words-held.ensures.0, omega (arith, c.if-held-eq0.false)))
