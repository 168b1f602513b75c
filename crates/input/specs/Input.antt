-- What the state of an input in pieces stands for, and what its functions promise.
-- Proved: against the line of all bytes, by `pieces_line` (proofs/Pieces.antt).
use Rattle.std.specs.Prelude.{Option, None, Some, ℕ, ◌+◌, ◌-◌, ◌≤◌, cond, ◌≡◌, ltb, length, take, replicate, Err}
use mathlib.Core.List.{List, [], ◌∷◌, ◌++◌, foldl}
use Rattle.lists.specs.Calls.{Along}
use Rattle.fields.specs.Bytes.{number_in}
use Rattle.batch.specs.Reports.{finish, Report}
use Rattle.batch.specs.Walk.{Walk, going, stopped, step, start}
use Rattle.batch.specs.declared.Lengths.{Lengths}
use Rattle.answers.specs.Answers.{fault_at}
use Rattle.batch.specs.declared.Refusal.TheVariants.{Broken}
use Rattle.parts.specs.States.{walk_in}
use Rattle.parts.specs.declared.State.{State}
use Rattle.input.specs.Line.{lengths_of, left_over, report_line}
use Rattle.input.specs.declared.OutputLine.{OutputLine}
use Rattle.input.specs.declared.Stream.{Stream}

-- `head g`: the bytes `g` of the lengths have come. `body l w g`: after the lengths `l` the whole words have led to the walk `w`, and
-- the bytes `g` of the next word have come.
pub data Input : Type 0 where
  head : List ℕ → Input
  body : Lengths → Walk → List ℕ → Input

-- The bytes that have come of the lengths, and of a word.
abbrev pub headed : List ℕ → Input
headed g = cond (ltb (length g) 32) (head g) (body (lengths_of g) start [])

abbrev pub worded : Lengths → Walk → List ℕ → Input
worded l w g = cond (ltb (length g) 4) (body l w g) (body l (step w (number_in g)) [])

-- One more byte.
unfoldable pub feed : Input → ℕ → Input
feed (head g) b = headed (g ++ (b ∷ []))
feed (body l w g) b = worded l w (g ++ (b ∷ []))

-- The words that a walk has gone through, where it goes on.
abbrev pub words_through : Walk → ℕ
words_through (going at p g) = at + length g
words_through (stopped n place) = 0

-- The answer where the input ends.
abbrev pub finished : Input → Report
finished (head g) = Err (Broken (fault_at 16 (length g)))
finished (body l w g) = left_over (length g) (words_through w) (finish l w)

-- The bytes held, where they are fewer than `most`; else none.
unfoldable pub held_of : ℕ → Stream → List ℕ
held_of most s = cond (ltb s.held most) (take s.held s.bytes) []

-- The input that a state stands for.
abbrev pub checked : Option State → Stream → Input
checked None s = head (held_of 32 s)
checked (Some check) s = body check.lengths (walk_in check) (held_of 4 s)

unfoldable pub input_in : Stream → Input
input_in s = checked s.check s

-- A text as the whole struct that holds it: its bytes with zeros behind them, and how many it has.
abbrev pub output_line : List ℕ → OutputLine
output_line text = record { bytes = text ++ replicate (256 - length text) 0; len = length text }

-- What a fresh input promises, what handing over a piece promises of the state that it returns, and what the answer promises.
abbrev pub InputBegun : Stream → Type 0
InputBegun r = input_in r ≡ head []

abbrev pub InputHanded : Stream → List ℕ → Stream → Type 0
InputHanded s piece r = input_in r ≡ foldl feed (input_in s) piece

abbrev pub InputAnswered : Stream → OutputLine → Type 0
InputAnswered s r = (r ≡ output_line (report_line (finished (input_in s)))) × (r.len ≤ 256)

-- A line for a list of pieces: a state was handed over along it from a fresh one, and this is answered after it.
abbrev pub InPieces : List (List ℕ) → OutputLine → Type 0
InPieces pieces r = (s : Stream) × InputBegun s × ((t : Stream) × Along InputHanded s pieces t × InputAnswered t r)
