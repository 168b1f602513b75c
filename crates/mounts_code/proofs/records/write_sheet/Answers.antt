-- `write_sheet`: writes the record of a sheet into the first 16 bytes of room.
use mathlib.Core.List.{List, ◌++◌}
use mathlib.Core.Path.{ap, ◌∙◌}
use Prim.Native.Nat.{ℕ}
use native.Mathlib.Omega.{arith}
use lib.ListN.{drop}
use Rattle.mounts.proofs.SheetLaws.{record_listed}
use Rattle.mounts_code.proofs.records.write_sheet.Goals as goal

pub returns : goal.returns
returns c =
    ap (λ (z : List ℕ). z ++ drop 16 c.args.room.now)
    (c.copy_from_slice.ensures.after ∙ record_listed c.args.sheet _ _ c.bytes32-boat.ensures c.bytes32-edition.ensures (omega (arith, c.well_formed)))
