-- A check in parts whose state is in lent memory. The papers leave open what the words of that memory are, so each function promises of
-- the memory what `parts` promises of the states that it stands for, before and after. No content is required.
-- Proved: against the report of the whole batch, by `memory_whole` (proofs/InParts.antt).
use Rattle.std.specs.Prelude.{ℕ, true, List, ◌≡◌}
use Rattle.lists.specs.Calls.{Along}
use Rattle.batch.specs.Reports.{finish}
use Rattle.batch.specs.declared.Lengths.{Lengths}
use Rattle.parts.specs.States.{has_stopped, walk_in, Begun, Handed}
use Rattle.memory.specs.Memory.{state_in}
use Rattle.interface.specs.Summaries.{summary_of}
use Rattle.interface.specs.declared.Summary.{Summary}

-- The memory of a fresh check with these lengths.
abbrev pub MemoryBegun : Lengths → List ℕ → Type 0
MemoryBegun l m = Begun l (state_in m)

-- The memory `r` after a part that was handed over to the memory `m`. A check that has stopped leaves every word of it as it was.
pub record MemoryHanded (m part r : List ℕ) : Type 0 where
  pub handed : Handed (state_in m) part (state_in r)
  pub stays : has_stopped (state_in m) ≡ true → r ≡ m

-- The answer to all words so far.
unfoldable pub summary_in : List ℕ → Summary
summary_in m = summary_of (finish (state_in m).lengths (walk_in (state_in m)))

-- Memory after a fresh check and a list of parts, whatever the functions left in it on the way. "Each handing over gets what the last
-- one returned .. and nobody else writes that meanwhile."
abbrev pub MemoryHandedOver : Lengths → List (List ℕ) → List ℕ → Type 0
MemoryHandedOver l parts r = (m : List ℕ) × MemoryBegun l m × Along MemoryHanded m parts r
