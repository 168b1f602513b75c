-- A batch as it was answered before document 02's R-6: the same walk over its words, with each command judged as it was.
-- Proved: of every batch whose PICTURE has bit 10 = 1, against `report`, by `frames_as_before` (proofs/Before.antt).
use Rattle.std.specs.Prelude.{ℕ, ◌+◌, true, cond, ◌≡◌, eqb, leb, length}
use mathlib.Core.List.{List, [], ◌∷◌, ◌++◌, foldl}
use Rattle.fields.specs.Word.{bits}
use Rattle.headers.specs.Headers.{header_of, by_size, begins}
use Rattle.headers.specs.Words.{word_at}
use Rattle.headers.specs.declared.Header.{Header}
use Rattle.headers.specs.declared.Opcode.TheVariants.{Picture}
use Rattle.progress.specs.declared.Progress.{Progress}
use Rattle.progress.specs.Progress.{Verdict}
use Rattle.sequence.specs.Before.{judge_before}
use Rattle.commands.specs.Commands.{Command}
use Rattle.batch.specs.declared.Lengths.{Lengths}
use Rattle.batch.specs.Reports.{ending, concluding, Report}
use Rattle.batch.specs.Walk.{Walk, going, stopped, limit, after, start}

-- The walk of specs/Walk.antt over any judge of commands. With `judge` it is `step` itself, by `step_by_judge` (proofs/Before.antt).
abbrev pub settled_by : (Header → Progress → List ℕ → Verdict) → Header → ℕ → Progress → List ℕ → Walk
settled_by by h at p g = by_size h (length g) (stopped 2 at) (going at p g) (after at (at + length g) (by h p g))

unfoldable pub step_by : (Header → Progress → List ℕ → Verdict) → Walk → ℕ → Walk
step_by by (stopped n place) w = stopped n place
step_by by (going at p g) w =
    cond (leb limit (at + length g)) (stopped 27 limit)
    (cond p.stage.ended
    (cond (eqb w 0) (going (at + length g + 1) p []) (stopped 12 (at + length g)))
    (settled_by by (header_of (word_at (g ++ (w ∷ [])) 0)) at p (g ++ (w ∷ []))))

-- The answer to a batch, taken whole, as it was.
unfoldable pub report_before : Lengths → List ℕ → Report
report_before l ws = concluding l (ending (foldl (step_by judge_before) start ws))

-- "PICTURE bit 10 may now be 0": every PICTURE among these commands has it set.
abbrev pub FramesOnly : List Command → Type 0
FramesOnly [] = Unit {0}
FramesOnly (c ∷ cs) = (begins Picture c.header ≡ true → bits (word_at c.words 1) 10 10 ≡ 1) × FramesOnly cs
