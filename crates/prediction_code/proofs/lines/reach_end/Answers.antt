-- `reach_end`: the end of the block that the vector of a word displaces.
use Rattle.std.proofs.Common.{true, false, ap, ◌∙◌}
use Rattle.prediction.specs.declared.Extent.{Extent}
use Rattle.prediction.specs.Extents.{empty_extent}
use Rattle.prediction.proofs.LineCode.{reach_is}
use Rattle.prediction_code.proofs.lines.reach_end.Goals as goal

pub returns : goal.returns
returns c =
    let a = c.args in
    let reach = reach_is a.structure a.surface a.position a.word c.vector_of.result true c.vector_of.ensures c.in-Some.ensures.starts in
    c.end.ensures ∙ ap (λ (e : Extent). e.end) (c.in-Some.ensures.is a.surface ∙ reach)

pub returns-in_default : goal.returns-in_default
unfolding empty_extent
returns-in_default c =
    let a = c.args in
    ap (λ (e : Extent). e.end)
    (reach_is a.structure a.surface a.position a.word c.vector_of.result false c.vector_of.ensures c.in_default.ensures.starts)
