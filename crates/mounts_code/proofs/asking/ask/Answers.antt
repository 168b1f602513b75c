-- `ask`: the fault of the stored sheets, or the sheet that was found.
use mathlib.Core.Path.{refl, sym, ◌∙◌}
use native.Mathlib.Omega.{arith}
use Rattle.std.proofs.lemmas.Result.{err_from_is_err_and}
use Rattle.mounts_code.proofs.Judged.{fault_stored, found_sound}
use Rattle.mounts.specs.Mounts.{asked}
use Rattle.mounts_code.proofs.asking.ask.Goals as goal

pub returns-in_err-newest : goal.returns-in_err-newest
unfolding asked
returns-in_err-newest c =
    let p = err_from_is_err_and c.from_residual.result c.from_residual.ensures.1 in
    let bad = fault_stored _ _ _ (sym c.judge.ensures ∙ c.in_err-newest.was) in
    rw (p.1, p.2, bad) refl

pub returns : goal.returns
unfolding asked
returns c =
    let sound = found_sound _ _ _ (sym c.judge.ensures ∙ c.in_ok-newest.was) in
    rw (sound.0, ← sound.1) (grind arith)
