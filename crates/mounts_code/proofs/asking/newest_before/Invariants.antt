-- `newest_before`: the records from `k` on have no such sheet.
use Rattle.std.proofs.Common.{◌≡◌}
use Rattle.mounts.specs.Editions.{newest}
use Rattle.mounts.specs.Sheets.{sheets_in}
use Rattle.mounts_code.proofs.asking.newest_before.Given as goal

abbrev pub invariant-loop-k : goal.invariant-loop-k
invariant-loop-k l = newest l.boat l.edition (sheets_in l.end l.sheets) ≡ newest l.boat l.edition (sheets_in l.k l.sheets)
