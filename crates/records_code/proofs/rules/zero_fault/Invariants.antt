-- The bytes before the i-th are zero: what is left to say is of those from it on.
use Rattle.std.proofs.Common.{◌≡◌, ◌+◌, ◌-◌}
use Rattle.answers.specs.Answers.{judged}
use Rattle.records.specs.RecordRules.{zero_bytes}
use Rattle.records_code.proofs.rules.zero_fault.Given as goal

abbrev pub invariant-loop-i : goal.invariant-loop-i
invariant-loop-i l = judged (zero_bytes l.bytes l.i (l.at + l.count - l.i)) ≡ judged (zero_bytes l.bytes l.at l.count)
