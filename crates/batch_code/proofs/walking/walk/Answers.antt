-- `walk`: a run of words, the first of them at word base of the batch, from a progress.
use mathlib.Core.Path.{◌≡◌, sym, ap, ◌∙◌}
use mathlib.Core.List.{[]}
use Prim.Native.Nat.{◌+◌}
use native.Mathlib.Omega.{arith}
use lib.ListN.{take}
use Rattle.std.proofs.lemmas.Result.{err_from_is_err_and}
use Rattle.batch.specs.Walk.{going, limit, walk_of}
use Rattle.batch_code.proofs.Turns.{capped_stopped, capped_full}
use Rattle.batch_code.proofs.walking.walk.Goals as goal

pub returns-in_err-walk_within : goal.returns-in_err-walk_within
returns-in_err-walk_within c =
    let a = c.args in
    let m = c.room_from-room.result in
    let p = err_from_is_err_and c.from_residual.result c.from_residual.ensures.1 in
    rw (p.1, p.2)
    (capped_stopped (going a.base a.progress []) m a.words.now _ _
    (ap (walk_of a.base (take m a.words.now)) (sym c.in_err-walk_within.was) ∙ c.walk_within-2.ensures))

pub returns : goal.returns
returns c =
    let a = c.args in
    let m = c.room_from-room.result in
    let room = c.room_from-room.ensures in
    let reach : a.base + m ≡ limit = omega arith in
    capped_full a.base a.progress m a.words.now _ _ reach c.if-words-room.false
    (ap (walk_of a.base (take m a.words.now)) (sym c.in_ok-walk_within.was) ∙ c.walk_within-2.ensures)
