-- The macroblocks that a command can hold.
-- To be believed: what a whole legal command is. `Legal` is proved against it, by `words_kept` and `macroblock_legal` (proofs/CommandLaws.antt).
use Rattle.std.specs.Prelude.{ℕ, ◌<◌, ◌^◌, true, not, ◌&&◌, List, [], ◌∷◌, ◌≡◌, length}
use Rattle.std.specs.Int.{w16}
use Rattle.std.proofs.Common.{SFits}
use Rattle.prediction.specs.declared.Vector.{Vector}
use Rattle.answers.specs.Answers.{judged, Accepted}
use Rattle.headers.specs.Headers.{macroblock_header}
use Rattle.headers.specs.Words.{word_at}
use Rattle.macroblock.specs.Rules.{kept_by, command_rules, alone}
use Rattle.macroblock.specs.declared.Prediction.TheVariants.{Forward, Backward, Both, Field}
use Rattle.macroblock.specs.declared.Case.{Case}
use Rattle.macroblock.specs.declared.Case.TheVariants.{Intra, Inter}
use Rattle.macroblock.specs.declared.Macroblock.{Macroblock}

-- Each is a 32-bit word.
abbrev pub Words : List ℕ → Type 0
Words [] = Unit {0}
Words (w ∷ ws) = (w < 2 ^ 32) × Words ws

-- A whole MACROBLOCK command, of nine words, that keeps the rules of a command alone.
pub record LegalCommand (ws : List ℕ) : Type 0 where
  pub nine : length ws ≡ 9
  pub words : Words ws
  pub header : word_at ws 0 ≡ macroblock_header
  pub kept : judged (command_rules alone ws) ≡ Accepted

-- The vectors fit their halves of a word.
abbrev pub VectorFits : Vector → Type 0
VectorFits v = SFits w16 v.x × SFits w16 v.y

abbrev pub CaseFits : Case → Type 0
CaseFits Intra = Unit {0}
CaseFits (Inter (Forward f)) = VectorFits f
CaseFits (Inter (Backward b)) = VectorFits b
CaseFits (Inter (Both f b)) = VectorFits f × VectorFits b
CaseFits (Inter (Field t b i j)) = VectorFits t × VectorFits b

-- Each field fits its bits, and the rules of the macroblock itself hold. Document 02: "dct type .. is free on macroblocks that are
-- not skipped".
pub record Legal (m : Macroblock) : Type 0 where
  pub column_fits : m.column < 65536
  pub row_fits : m.row < 65536
  pub upper_fits : m.upper < 65536
  pub case_fits : CaseFits m.case
  pub pattern_fits : m.pattern < 64
  pub max_fits : m.max_size < 256
  pub target_fits : m.target_size < 256
  pub intra_not_skipped : (kept_by m).intra_not_skipped ≡ true
  pub intra_pattern : (kept_by m).intra_pattern ≡ true
  pub quantiser_permitted : (kept_by m).quantiser ≡ true
  pub skip_inside_slice : (kept_by m).skip_inside_slice ≡ true
  pub skip_pattern : (kept_by m).skip_pattern ≡ true
  pub field_not_skipped : (kept_by m).field_not_skipped ≡ true
  pub dct_not_skipped : not (m.dct_type && m.skip) ≡ true
