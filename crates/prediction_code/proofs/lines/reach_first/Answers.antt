-- `reach_first`: the first byte of the block that the vector of a word displaces.
use Rattle.std.proofs.Common.{true, false, ap, ◌∙◌}
use Rattle.prediction.specs.declared.Extent.{Extent}
use Rattle.prediction.specs.Extents.{empty_extent}
use Rattle.prediction.proofs.LineCode.{reach_is}
use Rattle.prediction_code.proofs.lines.reach_first.Goals as goal

pub returns-in-Some : goal.returns-in-Some
returns-in-Some c =
    let a = c.args in
    let reach = reach_is a.structure a.surface a.position a.word c.vector_of.result true c.vector_of.ensures c.in-Some.ensures.starts in
    c.first.ensures ∙ ap (λ (e : Extent). e.first) (c.in-Some.ensures.is a.surface ∙ reach)

pub returns-in-None : goal.returns-in-None
unfolding empty_extent
returns-in-None c =
    let a = c.args in
    ap (λ (e : Extent). e.first)
    (reach_is a.structure a.surface a.position a.word c.vector_of.result false c.vector_of.ensures c.in-None.ensures.starts)
