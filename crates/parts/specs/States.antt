-- What the state of a check in parts stands for, and what its functions promise.
-- Proved: against the report of the whole batch, by `parts_whole` (proofs/Parts.antt).
use Rattle.std.specs.Prelude.{Option, None, Some, is_some, Bool, ℕ, ◌+◌, cond, ◌&&◌, ◌≡◌, leb, ltb, take}
use mathlib.Core.List.{List, [], foldl, flatten}
use Rattle.lists.specs.Calls.{Along}
use Rattle.headers.specs.Headers.{header_of, words_in}
use Rattle.headers.specs.Words.{word_at}
use Rattle.batch.specs.Reports.{finish, Report}
use Rattle.batch.specs.Walk.{Walk, going, stopped, step, start, limit}
use Rattle.batch.specs.declared.Lengths.{Lengths}
use Rattle.answers.specs.declared.Fault.{Fault}
use Rattle.parts.specs.declared.State.{State}

-- The words that have come of the command in progress: those held, where they are fewer than the first of them asks for and
-- end within the words that are judged; else none.
unfoldable pub gathered : State → List ℕ
gathered s =
    cond s.progress.stage.ended []
    (cond (ltb s.held (words_in (header_of (word_at s.buffer 0))) && leb (s.at + s.held) limit) (take s.held s.buffer) [])

-- Whether a check has stopped, and the walk that a state stands for.
abbrev pub has_stopped : State → Bool
has_stopped s = is_some s.fault

abbrev pub walk_of_fault : Option Fault → Walk → Walk
walk_of_fault None w = w
walk_of_fault (Some f) w = stopped f.number f.place

unfoldable pub walk_in : State → Walk
walk_in s = walk_of_fault s.fault (going s.at s.progress (gathered s))

-- What a fresh check with these lengths promises.
abbrev pub Begun : Lengths → State → Type 0
Begun l r = (walk_in r ≡ start) × (r.lengths ≡ l)

-- What handing over a part promises of the state that it returns.
abbrev pub Handed : State → List ℕ → State → Type 0
Handed s part r = (walk_in r ≡ foldl step (walk_in s) part) × (r.lengths ≡ s.lengths)

-- What the answer promises.
abbrev pub Answered : State → Report → Type 0
Answered s r = r ≡ finish s.lengths (walk_in s)

-- A state that was handed over from four lengths by a list of parts, whatever the functions returned on the way.
abbrev pub HandedOver : Lengths → List (List ℕ) → State → Type 0
HandedOver l parts r = (s : State) × Begun l s × Along Handed s parts r

-- An answer to a batch in parts: some list of parts makes the batch up, a state was handed over along it, and this is answered after it.
abbrev pub InParts : List ℕ → Lengths → Report → Type 0
InParts ws l r = (parts : List (List ℕ)) × (flatten parts ≡ ws) × ((s : State) × HandedOver l parts s × Answered s r)
