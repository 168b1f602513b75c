-- `judge_records`: the first k records are good, and it is known how many reach to each remainder's last.
use mathlib.Core.Bool.{true, false, ◌&&◌}
use mathlib.Core.Path.{◌≡◌, refl, sym, ap, ◌∙◌}
use Prim.Native.Nat.{ℕ, suc, ◌+◌}
use native.Mathlib.Omega.{arith}
use lib.Dec.{eqb, leb}
use Rattle.std.proofs.lemmas.Bool.Decides.{nat_tests}
use Rattle.std.specs.Prelude.{Ok}
use Rattle.mounts.proofs.StoredLaws.{next_judged, bad_stays}
use Rattle.answers.specs.Answers.{Accepted}
use Rattle.mounts.specs.Editions.{newest}
use Rattle.fields.specs.Parts.{value_at}
use Rattle.mounts.specs.Layout.{sheet_filler_part}
use Rattle.mounts.specs.Mounts.{first_bad}
use Rattle.mounts.specs.Sheets.{stored, sheets_in}
use Rattle.mounts.specs.declared.Sheet.{Sheet}
use Rattle.mounts_code.proofs.Remainders.{ends_begin, ends_next, ends_newest, good_here}
use Rattle.mounts_code.proofs.asking.judge_records.Goals as goal
use Rattle.mounts_code.proofs.asking.judge_records.Goals.{then-sheet-gt1-via-then-sheet-gt1, then-sheet-gt1-via-else-sheet-gt1+then-not-zero_filler, then-sheet-gt1-via-else-sheet-gt1+else-not-zero_filler+then-sheet-next}

pub loop-k-init : goal.loop-k-init
loop-k-init c = record { good = refl; ends = ends_begin _ }

pub loop-k-preserved : goal.loop-k-preserved
loop-k-preserved c =
    let a = c.args in
    let l = c.loop-k in
    let s = c.sheet_at-sheet.result in
    let good = good_here a.sheets.now l.k l.ends s true c.newest_before.result c.edition_after-next.result
    l.invariant.ends
    c.sheet_at-sheet.ensures
    (sym c.if-not-zero_filler.false ∙ c.zero_filler.ensures)
    c.newest_before.ensures
    c.edition_after-next.ensures in
    let test : (leb s.side 1 && (true && eqb s.edition c.edition_after-next.result)) ≡ true = grind (arith, nat_tests) in
    let more : l.k + 1 ≡ suc l.k = omega arith in
    record {
      good = ap (λ (i : ℕ). first_bad i a.sheets.now) more ∙ next_judged a.sheets.now l.k true l.invariant.good (sym good ∙ test);
      ends = ends_next a.sheets.now l.k l.ends _ (ap (λ (s : Sheet). s.boat) c.sheet_at-sheet.ensures) l.invariant.ends;
    }

pub returns-then-sheet-gt1 : goal.returns-then-sheet-gt1
returns-then-sheet-gt1 c =
    let a = c.args in
    let l = c.loop-k in
    let s = c.sheet_at-sheet.result in
    let next = c.edition_after-next.result in
    let filler = eqb (value_at sheet_filler_part (stored a.sheets.now l.k)) 0 in
    let good = good_here a.sheets.now l.k l.ends s filler c.newest_before.result next
    l.invariant.ends
    c.sheet_at-sheet.ensures
    refl
    c.newest_before.ensures
    c.edition_after-next.ensures in
    let test : (leb s.side 1 && (filler && eqb s.edition next)) ≡ false =
    elim c.then-sheet-gt1.branch [
      | then-sheet-gt1-via-then-sheet-gt1 w ↦ grind (arith, nat_tests)
      | then-sheet-gt1-via-else-sheet-gt1+then-not-zero_filler w ↦ rw (sym w.zero_filler.ensures ∙ w.if-not-zero_filler.true) (grind (arith, nat_tests))
      | then-sheet-gt1-via-else-sheet-gt1+else-not-zero_filler+then-sheet-next w ↦ grind (arith, nat_tests)
    ] in
    let bad = next_judged a.sheets.now l.k false l.invariant.good (sym good ∙ test) in
    rw (bad_stays a.sheets.now (suc l.k) 20 l.k bad a.count (omega arith)) refl

pub returns : goal.returns
returns c =
    let a = c.args in
    let l = c.loop-k in
    let whole : l.k ≡ a.count = omega arith in
    let good : first_bad a.count a.sheets.now ≡ Accepted = ap (λ (i : ℕ). first_bad i a.sheets.now) (sym whole) ∙ l.invariant.good in
    rw good
    (ap Ok
    (c.newest_before-2.ensures
    ∙ ends_newest a.sheets.now l.k l.ends l.invariant.ends a.boat a.edition
    ∙ ap (λ (i : ℕ). newest a.boat a.edition (sheets_in i a.sheets.now)) whole))
