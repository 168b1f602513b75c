-- What the exported functions promise of their answers and of lent memory: their contracts say it by these definitions.
-- To be believed: each says that a struct is the answer that the crates below define, and that lent memory is what they leave in it.
use Rattle.std.specs.Prelude.{ℕ, ◌≡◌}
use mathlib.Core.List.{List, flatten}
use Rattle.records.specs.Alone.{read_answer, read_room, write_answer, write_room}
use Rattle.batch.specs.Reports.{report}
use Rattle.batch.specs.declared.Lengths.{Lengths}
use Rattle.decoding.specs.Logs.{decoded, decoded_log}
use Rattle.interface.specs.Handing.{summary_in, MemoryHandedOver}
use Rattle.interface.specs.Summaries.{summary_of, outcome_of}
use Rattle.interface.specs.declared.Outcome.{Outcome}
use Rattle.interface.specs.declared.Summary.{Summary}

-- A batch that is checked whole.
abbrev pub SummaryOfCheck : List ℕ → Lengths → Summary → Type 0
SummaryOfCheck ws l s = s ≡ summary_of (report l ws)

-- A batch that is checked in parts: some list of parts makes it up, memory was handed on along it, and this is reported from the last.
abbrev pub SummaryInParts : List ℕ → Lengths → Summary → Type 0
SummaryInParts ws l s = (parts : List (List ℕ)) × (flatten parts ≡ ws) × ((m : List ℕ) × MemoryHandedOver l parts m × (s ≡ summary_in m))

-- A batch that is decoded into the lent log `before`: the answer, and the whole log afterwards.
abbrev pub SummaryOfDecode : List ℕ → List ℕ → Lengths → Summary → List ℕ → Type 0
SummaryOfDecode ws before l s after = (s ≡ summary_of (decoded l ws before)) × (after ≡ decoded_log l ws before)

-- The same, whatever the log afterwards.
abbrev pub SummaryDecodedInto : List ℕ → List ℕ → Lengths → Summary → Type 0
SummaryDecodedInto log ws l s = (after : List ℕ) × SummaryOfDecode ws log l s after

-- One command that is read into lent bytes, and one record that is written into lent words.
abbrev pub CommandRead : List ℕ → List ℕ → Outcome → List ℕ → Type 0
CommandRead ws before o after = (o ≡ outcome_of (read_answer ws before)) × (after ≡ read_room ws before)

abbrev pub RecordWritten : List ℕ → List ℕ → Outcome → List ℕ → Type 0
RecordWritten bytes before o after = (o ≡ outcome_of (write_answer bytes before)) × (after ≡ write_room bytes before)
