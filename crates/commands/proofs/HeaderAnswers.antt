-- The number and the place of a word that begins no command.
use mathlib.Core.List.{List}
use mathlib.Core.Path.{◌≡◌, sym}
use Prim.Native.Nat.{ℕ}
use lib.ListN.{length}
use Rattle.answers.specs.Answers.{refused}
use Rattle.answers.proofs.Judging.{no_accepted}
use Rattle.headers.specs.Headers.{header_of, words_in, by_size}
use Rattle.headers.specs.Words.{word_at}
use Rattle.headers.specs.declared.Header.{Header}
use Rattle.headers.specs.declared.Header.TheVariants as headers
use Rattle.commands.specs.Commands.{next_in, header_answer, next_answer}
use Rattle.commands.specs.declared.NextCommand.TheVariants.{Unknown, Incomplete, Whole}

-- Words whose first begins no command are refused as it is, wherever they end.
pub header_next : (at end : ℕ) (ws : List ℕ) (n place : ℕ) → header_answer at (header_of (word_at ws 0)) ≡ refused n place
    → next_answer at end (next_in ws) ≡ refused n place
unfolding next_in
header_next at end ws n place e = by (header_of (word_at ws 0)) e
  where
    by : (h : Header) → header_answer at h ≡ refused n place → next_answer at end (by_size h (length ws) Unknown Incomplete (Whole h (words_in h))) ≡ refused n place
    by (headers.Known o m) e = absurd (no_accepted (sym e))
    by (headers.Carried m) e = absurd (no_accepted (sym e))
    by headers.Unknown e = e
