-- `hromulice_hand_over`: the next part.
use mathlib.Core.Path.{sym, ap, ◌∙◌}
use Rattle.parts.specs.States.{has_stopped}
use Rattle.interface.proofs.InParts.{stopped_handed}
use Rattle.hromulice.proofs.handing.hromulice_hand_over.Goals as goal

pub returns-then-is_some : goal.returns-then-is_some
returns-then-is_some c = let a = c.args in
    stopped_handed a.memory.now a.part.now (ap has_stopped (sym c.state_in-state.ensures) ∙ sym c.is_some.ensures ∙ c.if-is_some.true)
