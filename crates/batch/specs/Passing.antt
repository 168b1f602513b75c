-- Words that change nothing, of which a walk goes behind.
-- Proved: that such words change nothing, by `turn_zero` and `carried_passes` (crates/batch_code/proofs/Turns.antt).
use Rattle.std.specs.Prelude.{ℕ, ◌+◌, ◌≤◌, ◌<◌, true, false, List, [], ◌≡◌, length, drop}
use mathlib.Core.List.{foldl}
use Rattle.headers.specs.Words.{word_at}
use Rattle.headers.specs.declared.Header.TheVariants.{Carried}
use Rattle.progress.specs.declared.Progress.{Progress}
use Rattle.commands.specs.Commands.{next_in}
use Rattle.commands.specs.declared.NextCommand.TheVariants.{Whole}
use Rattle.batch.specs.Walk.{going, step}

-- From word `from` of a run of words on to word `at`, words that change nothing: the fold goes on at `at` with the same progress. There the words
-- end, or one stands that is not zero; and, unless END has come, no carried command stands there before the first group.
pub record PassedOver (p : Progress) (base from : ℕ) (ws : List ℕ) (at : ℕ) : Type 0 where
  pub later : from ≤ at
  pub within : at ≤ length ws
  pub so_far : foldl step (going (base + from) p []) (drop from ws) ≡ foldl step (going (base + at) p []) (drop at ws)
  pub some : at < length ws → 1 ≤ word_at ws at
  pub grouped : at < length ws → p.stage.ended ≡ false → (n k : ℕ) → next_in (drop at ws) ≡ Whole (Carried n) k → p.stage.grouped ≡ true
