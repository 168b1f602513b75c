-- `hromulice_report_of`: the answer to all words so far, taken as a whole batch.
use mathlib.Core.Path.{ap, ◌∙◌}
use Rattle.batch.specs.Reports.{finish}
use Rattle.parts.specs.States.{walk_in}
use Rattle.parts.specs.declared.State.{State}
use Rattle.interface.specs.Handing.{summary_in}
use Rattle.interface.specs.Summaries.{summary_of}
use Rattle.hromulice.proofs.handing.hromulice_report_of.Goals as goal

pub returns : goal.returns
unfolding summary_in
returns c = let is = ap (λ (s : State). finish s.lengths (walk_in s)) c.state_in-state.ensures in
    c.summary_of.ensures ∙ ap summary_of (c.answer.ensures ∙ is)
