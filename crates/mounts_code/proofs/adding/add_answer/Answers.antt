-- `add_answer`: the rules in their order.
use mathlib.Core.Path.{refl, sym, ◌∙◌}
use Rattle.std.proofs.lemmas.Result.{err_from_is_err_and}
use Rattle.mounts.specs.Sheets.{sheet}
use Rattle.mounts.proofs.AddLaws.{first_refused, side_refused, edition_refused, room_refused, addable_added, next_after, stored_sound}
use Rattle.mounts_code.proofs.Judged.{fault_stored, found_sound}
use Rattle.mounts_code.proofs.adding.add_answer.Goals as goal

pub returns-in_err-newest : goal.returns-in_err-newest
returns-in_err-newest c =
    let a = c.args in
    let p = err_from_is_err_and c.from_residual.result c.from_residual.ensures.1 in
    let bad = fault_stored _ _ _ (sym c.judge.ensures ∙ c.in_err-newest.was) in
    rw (p.1, p.2, first_refused a.sheets.now a.count (sheet a.boat a.edition a.side) _ _ bad) refl

pub returns-then-side-gt1 : goal.returns-then-side-gt1
returns-then-side-gt1 c =
    let a = c.args in
    let sound = found_sound _ _ _ (sym c.judge.ensures ∙ c.in_ok-newest.was) in
    sym (side_refused a.sheets.now a.count (sheet a.boat a.edition a.side) sound.0 c.if-side-gt1.true)

pub returns-then-edition-edition_after : goal.returns-then-edition-edition_after
returns-then-edition-edition_after c =
    let a = c.args in
    let sound = found_sound _ _ _ (sym c.judge.ensures ∙ c.in_ok-newest.was) in
    let next = next_after a.boat a.sheets.now a.count _ _ sound.1 c.edition_after.ensures in
    sym
    (edition_refused a.sheets.now a.count (sheet a.boat a.edition a.side) sound.0
    c.if-side-gt1.false
    (λ e. c.if-edition-edition_after.true (e ∙ sym next)))

pub returns-then-sheets-count : goal.returns-then-sheets-count
returns-then-sheets-count c =
    let a = c.args in
    let sound = found_sound _ _ _ (sym c.judge.ensures ∙ c.in_ok-newest.was) in
    let next = next_after a.boat a.sheets.now a.count _ _ sound.1 c.edition_after.ensures in
    sym
    (room_refused a.sheets.now a.count (sheet a.boat a.edition a.side) sound.0
    c.if-side-gt1.false
    (c.if-edition-edition_after.false ∙ next)
    c.if-sheets-count.true)

pub returns : goal.returns
returns c =
    let a = c.args in
    let sound = found_sound _ _ _ (sym c.judge.ensures ∙ c.in_ok-newest.was) in
    let next = next_after a.boat a.sheets.now a.count _ _ sound.1 c.edition_after.ensures in
    sym
    (addable_added a.sheets.now a.count (sheet a.boat a.edition a.side)
    record {
      sound = stored_sound a.sheets.now a.count sound.0;
      side = c.if-side-gt1.false;
      edition = c.if-edition-edition_after.false ∙ next;
      room = c.if-sheets-count.false;
    })
