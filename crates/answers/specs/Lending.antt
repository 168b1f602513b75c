-- Lent memory: room for what is to be written, and what it holds after an answer. What is quoted is document 01.
-- To be believed: what lent memory holds after an answer, and when 14 is given.
use Rattle.std.specs.Prelude.{ℕ, cond, List, ◌++◌, ltb, length, drop, Err}
use Rattle.answers.specs.Answers.{next, Accepted, refused, Answer}

-- What lent memory holds after an answer: what was to be written, and what stood beyond it; or all that stood there. "No
-- refusal writes into lent memory."
abbrev pub lent_after : Answer → List ℕ → List ℕ → List ℕ
lent_after Accepted new room = new ++ drop (length new) room
lent_after (Err f) new room = room

-- Room for so many bytes or words, or "14 lent room too small: bytes or words needed".
abbrev pub room_for : ℕ → List ℕ → Answer
room_for needed room = cond (ltb (length room) needed) (refused 14 needed) Accepted

-- "14 follows all these": a fault, or whether there is room.
abbrev pub then_room : Answer → ℕ → List ℕ → Answer
then_room fault needed room = next fault (room_for needed room)
