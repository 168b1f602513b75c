-- The commands of a batch: its words cut by their headers alone.
-- To be believed: how words cut into commands. `next_in` is proved against `commands_of`, by `cut_next` (proofs/CutLaws.antt).
use Rattle.std.specs.Prelude.{ℕ, ◌+◌, ◌/◌, ◌%◌, cond, List, [], ◌∷◌, ◌++◌, ◌≡◌, length}
use Rattle.fields.specs.Word.{flag}
use Rattle.headers.specs.Headers.{header_of, words_in, by_size, begins}
use Rattle.headers.specs.Words.{word_at}
use Rattle.macroblock.specs.Macroblocks.{macroblock_of}
use Rattle.answers.specs.Answers.{Accepted, refused, Answer}
use Rattle.headers.specs.declared.Header.{Header}
use Rattle.headers.specs.declared.Header.TheVariants as headers
use Rattle.headers.specs.declared.Opcode.{Opcode}
use Rattle.headers.specs.declared.Opcode.TheVariants.{Surface, Picture, Macroblock}
use Rattle.picture.specs.Pictures.{picture_of}
use Rattle.picture.specs.Surfaces.{surface_of}
use Rattle.picture.specs.declared.Frame as frames
use Rattle.picture.specs.declared.Picture as pictures
use Rattle.progress.specs.Progress.{fresh}
use Rattle.commands.specs.declared.NextCommand.{NextCommand}
use Rattle.commands.specs.declared.NextCommand.TheVariants.{Unknown, Incomplete, Whole}

-- A command: the place of its header, what that begins, and its words.
pub record Command : Type 0 where
  pub place : ℕ
  pub header : Header
  pub words : List ℕ

abbrev pub command : ℕ → Header → List ℕ → Command
command at h ws = record { place = at; header = h; words = ws }

-- What words begin with. Where there are none, a command is still to come.
unfoldable pub next_in : List ℕ → NextCommand
next_in ws = by_size (header_of (word_at ws 0)) (length ws) Unknown Incomplete (Whole (header_of (word_at ws 0)) (words_in (header_of (word_at ws 0))))

-- Document 01's number and place of what a word begins, of a word at this place: "2 unknown header: header"; and of what words begin with,
-- which end at a place: "1 words run out in a command or before END: words given".
abbrev pub header_answer : ℕ → Header → Answer
header_answer at (headers.Known o n) = Accepted
header_answer at (headers.Carried n) = Accepted
header_answer at headers.Unknown = refused 2 at

abbrev pub next_answer : ℕ → ℕ → NextCommand → Answer
next_answer at end Unknown = refused 2 at
next_answer at end Incomplete = refused 1 end
next_answer at end (Whole h n) = Accepted

-- By what words begin with: no command; more words are to come; a whole one.
abbrev pub by_next : {A : Type 0} → A → A → (Header → ℕ → A) → NextCommand → A
by_next none more whole Unknown = none
by_next none more whole Incomplete = more
by_next none more whole (Whole h n) = whole h n

-- The commands of words, after the words `g` of a command that begins at `at`: words are gathered until they are as many as the
-- first of them says. Cutting ends at a word that names no command; a last command that is not whole is none. What follows a whole
-- command has a name, so that computing does not look at it where more words are to come.
unfoldable pub cut : ℕ → List ℕ → List ℕ → List Command
cut at g [] = []
cut at g (w ∷ ws) =
    let others = cut (at + length (g ++ (w ∷ []))) [] ws in
    by_size (header_of (word_at (g ++ (w ∷ [])) 0)) (length (g ++ (w ∷ [])))
    []
    (cut at (g ++ (w ∷ [])) ws)
    (command at (header_of (word_at (g ++ (w ∷ [])) 0)) (g ++ (w ∷ [])) ∷ others)

-- The commands of a batch.
unfoldable pub commands_of : List ℕ → List Command
commands_of ws = cut 0 [] ws

-- The words of its MACROBLOCK commands, in order.
unfoldable pub macroblocks_in : List Command → List (List ℕ)
macroblocks_in [] = []
macroblocks_in (c ∷ cs) = cond (begins Macroblock c.header) (c.words ∷ macroblocks_in cs) (macroblocks_in cs)

-- What commands of one kind say: the last of them, or what was said before.
unfoldable pub last_said : {A : Type 0} → Opcode → (List ℕ → A) → A → List Command → A
last_said o says before [] = before
last_said o says before (c ∷ cs) = last_said o says (cond (begins o c.header) (says c.words) before) cs

-- The batch's surface and picture: what its SURFACE and its PICTURE say.
abbrev pub batch_frame : List ℕ → frames.Frame
batch_frame ws = last_said Surface surface_of fresh.frame (commands_of ws)

abbrev pub batch_picture : List ℕ → pictures.Picture
batch_picture ws = last_said Picture picture_of fresh.picture (commands_of ws)

-- Document 01: "The k-th macroblock, from 0, is at column k mod W, row k div W." Of macroblocks in order, the first the k-th.
abbrev pub InOrder : ℕ → ℕ → List (List ℕ) → Type 0
InOrder w k [] = Unit {0}
InOrder w k (m ∷ ms) = ((macroblock_of m).column ≡ k % w) × ((macroblock_of m).row ≡ k / w) × InOrder w (k + 1) ms

-- How many commands of one kind there are.
abbrev pub how_many : Opcode → List Command → ℕ
how_many o [] = 0
how_many o (c ∷ cs) = flag (begins o c.header) + how_many o cs
