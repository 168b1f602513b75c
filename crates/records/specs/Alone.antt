-- One command read alone, and one record written alone.
-- To be believed: what reading and writing alone answer and leave, and which record is legal.
use Rattle.std.specs.Prelude.{ℕ, cond, not, List, ◌≡◌, eqb, ltb, length, replicate}
use Rattle.answers.specs.Lending.{lent_after, then_room}
use Rattle.answers.specs.Answers.{judged, Accepted, refused, Answer}
use Rattle.headers.specs.Headers.{macroblock_header}
use Rattle.macroblock.specs.Legal.{Words}
use Rattle.headers.specs.Words.{word_at}
use Rattle.macroblock.specs.Macroblocks.{macroblock_of, words_of}
use Rattle.macroblock.specs.Rules.{command_rules, alone}
use Rattle.records.specs.Layout.{record_length}
use Rattle.records.specs.Records.{record_of, macroblock_in}
use Rattle.records.specs.RecordRules.{record_rules}

-- "an empty run gets 1 at 0, any header but MACROBLOCK's gets 2", fewer than nine words 1 at the words given; then the rules of
-- a command alone, which "may be of either sort" (document 02's R-6); "14 follows all these".
unfoldable pub read_fault : List ℕ → Answer
read_fault words =
    cond (eqb (length words) 0) (refused 1 0)
    (cond (not (eqb (word_at words 0) macroblock_header)) (refused 2 0)
    (cond (ltb (length words) 9) (refused 1 (length words)) (judged (command_rules alone words))))

unfoldable pub read_answer : List ℕ → List ℕ → Answer
read_answer words room = then_room (read_fault words) record_length room

unfoldable pub read_room : List ℕ → List ℕ → List ℕ
read_room words room = lent_after (read_answer words room) (record_of (macroblock_of words)) room

-- "A length other than 24 gets 15 at byte 0", else the first bad byte; then 14.
unfoldable pub record_fault : List ℕ → Answer
record_fault bytes = cond (eqb (length bytes) record_length) (judged (record_rules bytes)) (refused 15 0)

unfoldable pub write_answer : List ℕ → List ℕ → Answer
write_answer bytes room = then_room (record_fault bytes) 9 room

unfoldable pub write_room : List ℕ → List ℕ → List ℕ
write_room bytes room = lent_after (write_answer bytes room) (words_of (macroblock_in bytes)) room

-- "A record is legal if such a command gives it": read alone into 24 bytes, the command is accepted and leaves these bytes.
pub record LegalRecord (bytes : List ℕ) : Type 0 where
  pub command : List ℕ
  pub are_words : Words command
  pub accepted : read_answer command (replicate record_length 0) ≡ Accepted
  pub gives : read_room command (replicate record_length 0) ≡ bytes
