-- The words so far change nothing.
use mathlib.Core.List.{[], foldl}
use Rattle.std.proofs.Common.{◌≡◌, ◌+◌, ◌-◌, ◌≤◌, length, drop}
use Rattle.batch.specs.Walk.{step, going}
use Rattle.batch_code.proofs.walking.passed_over.Given as goal

abbrev pub invariant-loop-at : goal.invariant-loop-at
invariant-loop-at l = record {
  later : l.from ≤ l.at;
  within : l.at ≤ length l.words;
  so_far : foldl step (going (l.base + l.from) l.fn.progress []) (drop l.from l.words) ≡ foldl step (going (l.base + l.at) l.fn.progress []) (drop l.at l.words);
}

abbrev pub decreases-loop-at : goal.decreases-loop-at
decreases-loop-at l = length l.words - l.at
