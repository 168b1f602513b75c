-- What comes of measuring under lengths: all buffers are long enough, or the lowest that is not is named; and what it depends on.
-- Proved: against `measured`, by `outcome` (proofs/Measuring.antt) and `ends_alone` (proofs/Measuring.antt).
use Rattle.std.specs.Prelude.{◌≡◌, ◌≤◌, ◌<◌, Ok, Err}
use Rattle.progress.specs.Buffers.{Buffer, buffer_number}
use Rattle.batch.specs.Reports.{length_in, length_of, measured}
use Rattle.batch.specs.declared.Lengths.{Lengths}
use Rattle.answers.specs.Answers.{fault_at}
use Rattle.batch.specs.declared.Refusal.TheVariants.{Short}
use Rattle.batch.specs.declared.Reported.{Reported}

-- All buffers are long enough, or one is the lowest that is not.
pub data Outcome (r : Reported) (l : Lengths) : Type 0 where
  enough : ((b : Buffer) → length_in b r ≤ length_of b l) → measured r l ≡ Ok r → Outcome r l
  short : (c : Buffer) → length_of c l < length_in c r → ((b : Buffer) → buffer_number b < buffer_number c → length_in b r ≤ length_of b l)
      → measured r l ≡ Err (Short (fault_at 13 (buffer_number c)) r) → Outcome r l

-- Both end at the same byte in every buffer, wherever they begin.
abbrev pub SameEnds : Reported → Reported → Type 0
SameEnds r q = (b : Buffer) → length_in b r ≡ length_in b q
