-- What the checker answers: document 01's number and place, and what it reports.
-- To be believed: numbers, places and what is reported with them; 13 after the whole batch.
use Rattle.std.specs.Prelude.{ℕ, ◌+◌, cond, leb, length, Ok, Err, Result}
use Rattle.batch.specs.declared.Refusal.{Refusal}
use mathlib.Core.List.{List, ◌++◌, foldl, map}
use Rattle.answers.specs.Answers.{Rule, rule, judged, Accepted, fault_at, Answer}
use Rattle.batch.specs.declared.Refusal.TheVariants.{Short, Broken}
use Rattle.progress.specs.Progress.{Verdict}
use Rattle.progress.specs.Buffers.{Buffer, source, reconstructed, forward, backward, buffer_number, buffers, extent_of}
use Rattle.progress.specs.declared.Extents.{Extents}
use Rattle.progress.specs.declared.Progress.{Progress}
use Rattle.batch.specs.declared.Lengths.{Lengths}
use Rattle.batch.specs.declared.Reported.{Reported}
use Rattle.batch.specs.Walk.{Walk, going, stopped, step, start}

-- What the checker answers: what is reported, or why the batch is refused.
abbrev pub Report : Type 0
Report = Result Reported Refusal

-- Document 01's number and place of each answer. "0 accepted: place 0".
abbrev pub report_number : Report → ℕ
report_number (Ok r) = 0
report_number (Err (Short f r)) = f.number
report_number (Err (Broken f)) = f.number

abbrev pub report_place : Report → ℕ
report_place (Ok r) = 0
report_place (Err (Short f r)) = f.place
report_place (Err (Broken f)) = f.place

-- What is reported of a batch that has come so far with END; the length of a buffer in it and, document 02 (R-8), "its first touched byte
-- (0 if untouched)".
abbrev pub reportable : Progress → Reported
reportable p = record { extents = p.extents }

abbrev pub length_in : Buffer → Reported → ℕ
length_in b r = (extent_of b r.extents).end

abbrev pub first_in : Buffer → Reported → ℕ
first_in b r = (extent_of b r.extents).first

-- The numbers that are reported, in the order in which they are printed: the four lengths, and then the four first bytes ("the program
-- prints them after the four lengths"), both in the order of the buffers.
abbrev pub values : List (Reported → ℕ)
values = map length_in buffers ++ map first_in buffers

abbrev pub values_of : Reported → List ℕ
values_of r = map (λ value. value r) values

-- "The four lengths are reported with 0, 13 and 14, else zeros."; document 02 (R-8): "The first bytes are reported
-- whenever the lengths are, else zeros".
abbrev pub reported_of : Report → List ℕ
reported_of (Ok r) = values_of r
reported_of (Err (Short f r)) = values_of r
reported_of (Err (Broken f)) = map (λ value. 0) values

-- How long a buffer is.
abbrev pub length_of : Buffer → Lengths → ℕ
length_of source l = l.source
length_of reconstructed l = l.reconstructed
length_of forward l = l.forward
length_of backward l = l.backward

-- "13 buffer too short: lowest such buffer". The place of these rules is the buffer.
unfoldable pub buffer_rules : Extents → Lengths → List Rule
buffer_rules e l = map (λ b. rule 13 (buffer_number b) (leb (extent_of b e).end (length_of b l))) buffers

-- What is answered with what is reported.
abbrev pub reporting : Reported → Answer → Report
reporting r Accepted = Ok r
reporting r (Err f) = Err (Short f r)

unfoldable pub measured : Reported → Lengths → Report
measured r l = reporting r (judged (buffer_rules r.extents l))

-- The buffers apart: the first rule that is broken, or how far the batch had come with END. "1 words run out in a command or before
-- END: words given".
abbrev pub ending : Walk → Verdict
ending (stopped n place) = Err (fault_at n place)
ending (going at p g) = cond p.stage.ended (Ok p) (Err (fault_at 1 (at + length g)))

-- "13 comes after the whole batch".
abbrev pub concluding : Lengths → Verdict → Report
concluding l (Ok p) = measured (reportable p) l
concluding l (Err f) = Err (Broken f)

unfoldable pub finish : Lengths → Walk → Report
finish l w = concluding l (ending w)

-- What all words of a batch come to, the buffers apart; and the answer to them, taken whole.
unfoldable pub verdict_of : List ℕ → Verdict
verdict_of ws = ending (foldl step start ws)

unfoldable pub report : Lengths → List ℕ → Report
report l ws = concluding l (verdict_of ws)
