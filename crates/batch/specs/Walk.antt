-- What a batch means: a fold over its words.
-- To be believed: the order of commands and of 2, 1, 12 and 27. `walk_of` is the walk of what the code returns.
use Rattle.std.specs.Prelude.{ℕ, ◌+◌, cond, List, [], ◌∷◌, ◌++◌, eqb, leb, length, drop, Ok, Err, Result}
use Rattle.answers.specs.declared.Fault.{Fault}
use Rattle.progress.specs.declared.Taken.{Taken}
use Rattle.answers.specs.Answers.{Accepted, refused, Answer}
use Rattle.headers.specs.Headers.{header_of, by_size}
use Rattle.headers.specs.Words.{word_at}
use Rattle.headers.specs.declared.Header.{Header}
use Rattle.progress.specs.Progress.{fresh, Verdict}
use Rattle.progress.specs.declared.Progress.{Progress}
use Rattle.sequence.specs.Judging.{judge}

-- What a run of words came to: how far the batch has come and how many of the words whole commands took, or why it is refused.
abbrev pub Walked : Type 0
Walked = Result Taken Fault

-- Document 01: "no word beyond the first 4294967295 is judged".
abbrev pub limit : ℕ
limit = 4294967295

-- `going at p g`: the command in progress begins at word `at`, `p` is how far the batch has come, and `g` are the words that have
-- come of that command. `stopped n place`: refused with number and place.
pub data Walk : Type 0 where
  going : ℕ → Progress → List ℕ → Walk
  stopped : ℕ → ℕ → Walk

-- Document 01's number and place of a walk: 0 where it goes on.
abbrev pub walk_answer : Walk → Answer
walk_answer (going at p g) = Accepted
walk_answer (stopped n place) = refused n place

-- After a whole command that began at `at`; the next one begins at `next`. A rule is placed by its word of the command.
unfoldable pub after : ℕ → ℕ → Verdict → Walk
after at next (Ok p) = going next p []
after at next (Err f) = stopped f.number (at + f.place)

-- The words that have come of a command, by what its first begins. Document 01: "a word that names no command stops the walk
-- at once"; "Commands in order; in each 2, then 1, then 3, then words upwards": a command is judged when it is whole.
abbrev pub settled : Header → ℕ → Progress → List ℕ → Walk
settled h at p g =
    by_size h (length g)
    (stopped 2 at)
    (going at p g)
    (after at (at + length g) (judge h p g))

-- One more word. "27 .. more than 4294967295 words, and the first 4294967295 alone give none of 2 to 12"; "After END only zero
-- words may follow", else 12.
unfoldable pub step : Walk → ℕ → Walk
step (stopped n place) w = stopped n place
step (going at p g) w =
    cond (leb limit (at + length g)) (stopped 27 limit)
    (cond p.stage.ended
    (cond (eqb w 0) (going (at + length g + 1) p []) (stopped 12 (at + length g)))
    (settled (header_of (word_at (g ++ (w ∷ [])) 0)) at p (g ++ (w ∷ []))))

-- Before the first word.
abbrev pub start : Walk
start = going 0 fresh []

-- What a run of words `ws` from word `base` came to, as a walk: whole commands took the first words, the others are in progress.
abbrev pub walk_of : ℕ → List ℕ → Walked → Walk
walk_of base ws (Err f) = stopped f.number f.place
walk_of base ws (Ok t) = going (base + t.used) t.progress (drop t.used ws)

-- Document 01's number and place of what a run of words came to: 0 where nothing is refused yet.
abbrev pub walked_answer : Walked → Answer
walked_answer (Err f) = Err f
walked_answer (Ok t) = Accepted
