-- At most one line for each record.
use Rattle.std.proofs.Common.{length, ◌≤◌}
use Rattle.mount_sheets.proofs.listing.print_sheets.Given as goal

abbrev pub invariant-loop-record : goal.invariant-loop-record
invariant-loop-record g l = l.listed ≤ length l.yielded
