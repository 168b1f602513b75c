-- The fold over all the words is the fold from the command at `at` over what is left.
use mathlib.Core.List.{[], foldl}
use Rattle.std.proofs.Common.{◌≡◌, ◌+◌, ◌-◌, ◌≤◌, length, drop}
use Rattle.batch.specs.Walk.{step, going}
use Rattle.batch_code.proofs.walking.walk_within.Given as goal

abbrev pub invariant-loop-at : goal.invariant-loop-at
invariant-loop-at l = record {
  within : l.at ≤ length l.words;
  so_far : foldl step (going l.base l.fn.progress []) l.words ≡ foldl step (going (l.base + l.at) l.p []) (drop l.at l.words);
}

abbrev pub decreases-loop-at : goal.decreases-loop-at
decreases-loop-at l = length l.words - l.at
