-- From the log that the exported functions leave back to the batch's commands. Demand 2: "either way back gives the same bits"; document 02: "The
-- log has no room for bit 15 and type 04h before R-7: .. demand 2's ways back for these, are owed with R-7".
-- Proved: `c_decoded_back` (proofs/WaysBack.antt), of every batch that is decoded.
use Rattle.std.specs.Prelude.{ℕ, ◌≤◌, ◌<◌, true, List, [], ◌≡◌, length, get_or, take}
use Rattle.records.specs.Records.{recorded_command, uses_neither}
use Rattle.commands.specs.Commands.{commands_of, macroblocks_in}
use Rattle.decoding.specs.WaysBack.{record_in}
use Rattle.interface.specs.Promises.{RecordWritten}
use Rattle.interface.specs.declared.Outcome.{Outcome}

-- Whatever `hromulice_write_command` answers and leaves for the k-th record of a log, with nine words or more lent to it: 0, and in
-- front the command of what a record has room for of the batch's k-th MACROBLOCK command, which is that command where it uses neither bit 15
-- nor type 04h.
pub record WrittenBack (ws : List ℕ) (k : ℕ) (o : Outcome) (words : List ℕ) : Type 0 where
  pub accepted : o.number ≡ 0
  pub recorded : take 9 words ≡ recorded_command (get_or (macroblocks_in (commands_of ws)) k [])
  pub command : uses_neither (get_or (macroblocks_in (commands_of ws)) k []) ≡ true → take 9 words ≡ get_or (macroblocks_in (commands_of ws)) k []

abbrev pub LogWritesBack : List ℕ → List ℕ → Type 0
LogWritesBack ws log =
    (k : ℕ) (lent : List ℕ) (o : Outcome) (words : List ℕ) → k < length (macroblocks_in (commands_of ws)) → 9 ≤ length lent
    → RecordWritten (record_in log k) lent o words → WrittenBack ws k o words
