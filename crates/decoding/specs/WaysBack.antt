-- From the log of a batch back to its commands. Demand 2: "either way back gives the same bits"; document 02: "The log has no room for bit 15
-- and type 04h before R-7: .. demand 2's ways back for these, are owed with R-7".
-- Proved: `decoded_back` (proofs/WaysBack.antt), of every batch that is decoded.
use Rattle.std.specs.Prelude.{ℕ, zero, suc, ◌≤◌, ◌<◌, true, List, [], ◌∷◌, ◌≡◌, length, get_or, take}
use Rattle.fields.specs.Parts.{record_at}
use Rattle.answers.specs.Answers.{Accepted}
use Rattle.commands.specs.Commands.{commands_of, macroblocks_in}
use Rattle.records.specs.Alone.{write_answer, write_room}
use Rattle.records.specs.Layout.{record_length}
use Rattle.records.specs.Records.{recorded_command, uses_neither}

-- The k-th record of a log: "each is written at its own 24-byte place of the lent log".
abbrev pub record_in : List ℕ → ℕ → List ℕ
record_in log k = record_at record_length log k

-- The nine words that stand in front of lent words after the k-th record of a log was written there.
abbrev pub command_from : List ℕ → List ℕ → ℕ → List ℕ
command_from log lent k = take 9 (write_room (record_in log k) lent)

-- The first n members of a sequence.
abbrev pub first_members : {A : Type 0} → (ℕ → A) → ℕ → List A
first_members member zero = []
first_members member (suc n) = member 0 ∷ first_members (λ k. member (suc k)) n

-- Each record of a log, written alone into any nine words or more, is accepted. It gives the command of what the record has room for, which is
-- the batch's own MACROBLOCK command where that uses neither bit 15 nor type 04h; where none of them does, the records give all of them
-- one after the other.
pub record WritesBack (ws log : List ℕ) : Type 0 where
  pub accepted : (k : ℕ) (lent : List ℕ) → k < length (macroblocks_in (commands_of ws)) → 9 ≤ length lent → write_answer (record_in log k) lent ≡ Accepted
  pub recorded : (k : ℕ) (lent : List ℕ) → k < length (macroblocks_in (commands_of ws)) → 9 ≤ length lent
      → command_from log lent k ≡ recorded_command (get_or (macroblocks_in (commands_of ws)) k [])
  pub command : (k : ℕ) (lent : List ℕ) → k < length (macroblocks_in (commands_of ws)) → 9 ≤ length lent
      → uses_neither (get_or (macroblocks_in (commands_of ws)) k []) ≡ true → command_from log lent k ≡ get_or (macroblocks_in (commands_of ws)) k []
  pub commands : (lent : List ℕ) → 9 ≤ length lent
      → ((k : ℕ) → k < length (macroblocks_in (commands_of ws)) → uses_neither (get_or (macroblocks_in (commands_of ws)) k []) ≡ true)
      → first_members (command_from log lent) (length (macroblocks_in (commands_of ws))) ≡ macroblocks_in (commands_of ws)
