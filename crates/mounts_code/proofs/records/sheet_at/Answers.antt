-- `sheet_at`: the sheet of record k, part by part.
use lib.ListN.{get_or}
use Rattle.fields.specs.Bytes.{number_in, elements}
use mathlib.Core.Path.{◌≡◌, sym, ap, ◌∙◌}
use Prim.Native.Nat.{ℕ, ◌+◌, ◌*◌}
use native.Mathlib.Omega.{arith}
use Rattle.mounts.proofs.SheetLaws.{same_sheet, sheet_there}
use Rattle.mounts_code.proofs.records.sheet_at.Goals as goal

pub returns : goal.returns
returns c =
    let k = c.args.k in
    let bytes = c.args.sheets.now in
    let boat : 16 * k ≡ 16 * k + 0 = omega arith in
    let side : get_or bytes (16 * k + 8) 0 ≡ number_in (elements bytes (16 * k + 8) 1) = omega arith in
    same_sheet (c.number_at.ensures ∙ ap (λ (i : ℕ). number_in (elements bytes i 4)) boat) c.number_at-2.ensures side ∙ sym (sheet_there bytes k)
