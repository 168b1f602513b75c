-- `begin`: a check with four buffers of these lengths, before its first word.
use mathlib.Core.List.{[]}
use mathlib.Core.Path.{refl, ap, ◌∙◌}
use lib.ListN.{replicate}
use Rattle.progress.specs.declared.Progress.{Progress}
use Rattle.batch.specs.Walk.{going}
use Rattle.parts.specs.States.{gathered, walk_in}
use Rattle.parts_code.proofs.HeldLaws.{held_none}
use Rattle.parts_code.proofs.handing.begin.Goals as goal

pub returns : goal.returns
unfolding gathered walk_in
returns c = let p = c.fresh-progress.result in
    (ap (going 0 p) (held_none p.stage.ended 0 (replicate 61 0)) ∙ ap (λ (x : Progress). going 0 x []) c.fresh-progress.ensures, refl)
