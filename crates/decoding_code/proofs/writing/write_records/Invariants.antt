-- The records of the commands before word `at` are in their places.
use Rattle.std.proofs.Common.{◌-◌, length}
use Rattle.decoding.proofs.LogLaws.{Writing}
use Rattle.decoding_code.proofs.writing.write_records.Given as goal

abbrev pub invariant-loop-header : goal.invariant-loop-header
invariant-loop-header l = Writing l.words l.initial.log l.at l.k l.log

abbrev pub decreases-loop-header : goal.decreases-loop-header
decreases-loop-header l = length l.words - l.at
