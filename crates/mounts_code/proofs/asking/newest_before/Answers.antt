-- `newest_before`: the records from `k` on have no such sheet.
use mathlib.Core.Bool.{true, false, ◌&&◌}
use mathlib.Core.Path.{◌≡◌, sym, ap, ◌∙◌}
use Prim.Native.Nat.{ℕ, ◌-◌}
use native.Mathlib.Omega.{arith}
use lib.Dec.{eqb, leb}
use Rattle.std.proofs.lemmas.Bool.Decides.{nat_tests}
use Rattle.mounts.proofs.EditionLaws.{newest_here, newest_none}
use Rattle.mounts.specs.Editions.{newest}
use Rattle.mounts.specs.Sheets.{sheets_in}
use Rattle.mounts_code.proofs.asking.newest_before.Goals as goal

pub returns-then-sheet-edition : goal.returns-then-sheet-edition
returns-then-sheet-edition c =
    let a = c.args in
    let k = c.loop-k.k in
    let s = c.sheet_at-sheet.result in
    let here : (eqb s.boat a.boat && leb s.edition a.edition) ≡ true = grind (arith, nat_tests) in
    sym (c.loop-k.invariant ∙ newest_here a.boat a.edition a.sheets.now k (k - 1) s true (omega arith) c.sheet_at-sheet.ensures here)

pub loop-k-preserved : goal.loop-k-preserved
loop-k-preserved c =
    let a = c.args in
    let k = c.loop-k.k in
    let s = c.sheet_at-sheet.result in
    let passed : (eqb s.boat a.boat && leb s.edition a.edition) ≡ false = grind (arith, nat_tests) in
    c.loop-k.invariant ∙ newest_here a.boat a.edition a.sheets.now k (k - 1) s false (omega arith) c.sheet_at-sheet.ensures passed

pub returns : goal.returns
returns c =
    let a = c.args in
    let none : c.loop-k.k ≡ 0 = omega arith in
    sym (c.loop-k.invariant ∙ ap (λ (n : ℕ). newest a.boat a.edition (sheets_in n a.sheets.now)) none ∙ newest_none a.boat a.edition)
