-- `add`: a refusal leaves all as it was, else the record is written behind the last.
use mathlib.Core.List.{List, ◌++◌}
use mathlib.Core.Bool.{true, false}
use mathlib.Core.Path.{◌≡◌, refl, sym, ap, ◌∙◌}
use Prim.Native.Nat.{ℕ, ◌+◌, ◌*◌, ◌≤◌}
use native.Mathlib.Omega.{arith}
use lib.ListN.{length, drop, length-drop}
use Rattle.std.proofs.Common.{rules}
use Rattle.std.specs.Prelude.{Err}
use Rattle.std.specs.Result.{is_err}
use Rattle.answers.specs.Answers.{Accepted, Answer}
use Rattle.answers.specs.declared.Fault.{Fault}
use Rattle.lists.proofs.Slices.{part_back, part_rest}
use Rattle.mounts.specs.Mounts.{add_answer}
use Rattle.mounts.specs.Sheets.{sheet, sheet_record}
use Rattle.mounts.proofs.AddLaws.{add_addable, add_refused, add_accepted}
use Rattle.mounts_code.proofs.adding.add.Goals as goal

is_accepted : (a : Answer) → is_err a ≡ false → a ≡ Accepted
is_accepted Accepted e = refl
is_accepted (Err f) e = cc

is_refused : (a : Answer) → is_err a ≡ true → (f : Fault) × (a ≡ Err f)
is_refused Accepted e = cc
is_refused (Err f) e = (f, refl)

-- an accepted sheet has room behind the last, and one of the two sides
fits : (bytes : List ℕ) (count boat edition side : ℕ) (answer : Answer) → answer ≡ add_answer bytes count (sheet boat edition side) → answer ≡ Accepted
    → (16 * (count + 1) ≤ length bytes) × (side ≤ 1)
fits bytes count boat edition side answer given e =
    let ok = add_addable bytes count (sheet boat edition side) (sym given ∙ e) in
    let room = ok.room in
    (omega arith, ok.side)

pub returns-then-is_err : goal.returns-then-is_err
returns-then-is_err c =
    let a = c.args in
    let bad = is_refused c.add_answer-answer.result (sym c.is_err.ensures.value ∙ c.if-is_err.true) in
    add_refused a.sheets.now a.count (sheet a.boat a.edition a.side) _ _ _ c.add_answer-answer.ensures bad.1

pub overflow_mul-at : goal.overflow_mul-at
overflow_mul-at c = let a = c.args in let f = fits _ _ _ _ _ _ c.add_answer-answer.ensures (is_accepted _ (sym c.is_err.ensures.value ∙ c.if-is_err.false)) in omega (arith, f.0, c.ranges.count.fits)

pub overflow_cast-sheet : goal.overflow_cast-sheet
overflow_cast-sheet c = let f = fits _ _ _ _ _ _ c.add_answer-answer.ensures (is_accepted _ (sym c.is_err.ensures.value ∙ c.if-is_err.false)) in omega (arith, f.1)

pub slice_bounds-write_sheet-count : goal.slice_bounds-write_sheet-count
slice_bounds-write_sheet-count c = let f = fits _ _ _ _ _ _ c.add_answer-answer.ensures (is_accepted _ (sym c.is_err.ensures.value ∙ c.if-is_err.false)) in omega (arith, f.0)

pub slice_bounds-write_sheet-start : goal.slice_bounds-write_sheet-start
slice_bounds-write_sheet-start c =
    let f = fits _ _ _ _ _ _ c.add_answer-answer.ensures (is_accepted _ (sym c.is_err.ensures.value ∙ c.if-is_err.false)) in
    let start : 16 * c.args.count ≤ length c.args.sheets.now = omega (arith, f.0) in
    search (rules, start)

pub write_sheet-requires : goal.write_sheet-requires
write_sheet-requires c =
    let f = fits _ _ _ _ _ _ c.add_answer-answer.ensures (is_accepted _ (sym c.is_err.ensures.value ∙ c.if-is_err.false)) in
    let left = length-drop (16 * c.args.count) c.args.sheets.now in
    let all = ap (λ (z : List ℕ). length z) (part_rest (16 * c.args.count) c.args.sheets.now) in
    omega (arith, f.0)

pub overflow_add-result : goal.overflow_add-result
overflow_add-result c = let f = fits _ _ _ _ _ _ c.add_answer-answer.ensures (is_accepted _ (sym c.is_err.ensures.value ∙ c.if-is_err.false)) in omega (arith, f.0)

pub returns : goal.returns
returns c =
    let a = c.args in
    let accepted = is_accepted _ (sym c.is_err.ensures.value ∙ c.if-is_err.false) in
    let f = fits _ _ _ _ _ _ c.add_answer-answer.ensures accepted in
    let s = sheet a.boat a.edition a.side in
    let done =
    add_accepted a.sheets.now a.count s _ (sym c.add_answer-answer.ensures ∙ accepted)
    (c.write_sheet.ensures ∙ ap (λ (z : List ℕ). sheet_record s ++ drop 16 z) (part_rest (16 * a.count) a.sheets.now)) in
    (ap (λ (x : Answer). record { answer = x; count = a.count + 1 }) accepted ∙ done.0, part_back (16 * a.count) a.sheets.now _ (omega (arith, f.0)) ∙ done.1)
