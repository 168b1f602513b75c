-- Each turn that goes on reads a byte at least into the room's rest.
use Rattle.std.proofs.Common.{length, ◌-◌, ◌≤◌}
use Rattle.mount_sheets.proofs.reading.read_full.Given as goal

abbrev pub invariant-loop-done : goal.invariant-loop-done
invariant-loop-done g l = l.done ≤ length l.room

abbrev pub decreases-loop-done : goal.decreases-loop-done
decreases-loop-done g l = length l.room - l.done
