-- Decoding: the log of a batch, and the answer with it. What is quoted is document 01.
-- To be believed: the answer and the log afterwards. `decodes` (proofs/DecodingLaws.antt) says the same record by record.
use Rattle.std.specs.Prelude.{ℕ, ◌*◌, ◌≤◌, ◌<◌, cond, ◌≡◌, ltb, length, drop, get_or, take, replicate, Ok, Err}
use mathlib.Core.List.{List, ◌++◌, map, flatten, []}
use Rattle.prediction.specs.declared.Grid.{Grid}
use Rattle.macroblock.specs.Macroblocks.{macroblock_of}
use Rattle.records.specs.Layout.{record_length}
use Rattle.records.specs.Records.{record_of}
use Rattle.commands.specs.Commands.{commands_of, macroblocks_in, batch_picture}
use Rattle.batch.specs.Reports.{report, Report}
use Rattle.batch.specs.declared.Lengths.{Lengths}
use Rattle.answers.specs.Answers.{fault_at, Accepted}
use Rattle.batch.specs.declared.Refusal.TheVariants.{Short, Broken}
use Rattle.records.specs.Alone.{read_answer, read_room}

-- The record of one command, read alone.
abbrev pub record_alone : List ℕ → List ℕ
record_alone words = record_of (macroblock_of words)

-- The records of the batch's MACROBLOCK commands, one behind the other: "each is written at its own 24-byte place of the lent log, the
-- k-th macroblock's at the k-th place".
unfoldable pub log_of : List ℕ → List ℕ
log_of ws = flatten (map record_alone (macroblocks_in (commands_of ws)))

-- "Decoding needs 24·W·H bytes".
abbrev pub log_length : Grid → ℕ
log_length g = record_length * (g.columns * g.rows)

-- "14 lent room too small: bytes or words needed"; "14 last". The same is reported with it as without.
abbrev pub roomed : ℕ → List ℕ → Report → Report
roomed needed log (Ok r) = cond (ltb (length log) needed) (Err (Short (fault_at 14 needed) r)) (Ok r)
roomed needed log (Err (Short f r)) = Err (Short f r)
roomed needed log (Err (Broken f)) = Err (Broken f)

-- The answer to a batch that is decoded into a log.
unfoldable pub decoded : Lengths → List ℕ → List ℕ → Report
decoded l ws log = roomed (log_length (batch_picture ws).grid) log (report l ws)

-- The whole log afterwards: "bytes beyond stay"; "No refusal writes into lent memory."
abbrev pub log_after : Report → List ℕ → List ℕ → List ℕ
log_after (Ok r) new log = new ++ drop (length new) log
log_after (Err (Short f r)) new log = log
log_after (Err (Broken f)) new log = log

unfoldable pub decoded_log : Lengths → List ℕ → List ℕ → List ℕ
decoded_log l ws log = log_after (decoded l ws log) (log_of ws) log

-- Decoding a batch into a lent log: by its contract it answers this, and the room is long enough.
abbrev pub DecodedInto : List ℕ → List ℕ → Lengths → Report → Type 0
DecodedInto log ws l r = r ≡ decoded l ws log

abbrev pub RoomIn : List ℕ → List ℕ → Type 0
RoomIn log ws = log_length (batch_picture ws).grid ≤ length log

-- What stands in a log after decoding a batch into it. `before` is the whole log before, `after` the whole log afterwards.
pub record Decoded (ws before after : List ℕ) : Type 0 where
  -- W·H macroblocks have come, and their log fits
  pub count : length (macroblocks_in (commands_of ws)) ≡ (batch_picture ws).grid.columns * (batch_picture ws).grid.rows
  pub fits : log_length (batch_picture ws).grid ≤ length before
  pub same_length : length after ≡ length before
  -- "the k-th macroblock's at the k-th place": the record of the k-th MACROBLOCK command, as that command read alone gives it
  pub record_at : (k : ℕ) → k < length (macroblocks_in (commands_of ws))
      → (read_answer (get_or (macroblocks_in (commands_of ws)) k []) (replicate record_length 0) ≡ Accepted)
      × (take record_length (drop (record_length * k) after) ≡ read_room (get_or (macroblocks_in (commands_of ws)) k []) (replicate record_length 0))
  -- "bytes beyond stay"
  pub beyond : drop (log_length (batch_picture ws).grid) after ≡ drop (log_length (batch_picture ws).grid) before
