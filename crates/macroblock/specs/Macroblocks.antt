-- The words of a MACROBLOCK command, read and written.
-- To be believed: what the words of a command say. Writing is proved against reading, by `macroblock_back` and `words_back`
-- (proofs/CommandLaws.antt).
use Rattle.std.specs.Prelude.{ℕ, Bool, true, false, cond, List, [], ◌∷◌, eqb}
use Rattle.fields.specs.Word.{Field, bits, is_set, flag, field, packed}
use Rattle.headers.specs.Words.{word_at}
use Rattle.headers.specs.Headers.{macroblock_header}
use Rattle.macroblock.specs.Cases.{motion, motion_of, case_of, vector_words}
use Rattle.macroblock.specs.declared.Case.{Case}
use Rattle.macroblock.specs.declared.Case.TheVariants.{Intra, Inter}
use Rattle.macroblock.specs.declared.Flags.{Flags}
use Rattle.macroblock.specs.declared.Macroblock.{Macroblock}
use Rattle.macroblock.specs.declared.Motion.{Motion}

abbrev pub is_intra : Case → Bool
is_intra Intra = true
is_intra (Inter p) = false

-- Word 1: "13 intra; 12:8 type"; "Intra: type 1Ah .. Inter: 1 forward, 2 backward, 3 both."; document 02's "type 04h" is field forward.
abbrev pub intra_type : ℕ
intra_type = 0x1A

abbrev pub kind_in : ℕ → ℕ
kind_in word1 = cond (is_set (bits word1 13 13)) 0 (bits word1 12 8)

abbrev pub type_of : ℕ → ℕ
type_of kind = cond (eqb kind 0) intra_type kind

-- The kind of a command and the words that hold its vectors: "5 forward vector, 6 backward"; document 02: "Word 5 is the top field's
-- vector, word 7 the bottom's"; "word 4 bits 16 and 18 choose the reference field for the two".
abbrev pub motion_in : List ℕ → Motion
motion_in ws =
    motion (kind_in (word_at ws 1)) (word_at ws 5) (word_at ws 6) (word_at ws 7)
    (is_set (bits (word_at ws 4) 16 16)) (is_set (bits (word_at ws 4) 18 18))

-- Word 4: "31 last in slice, 30 first in slice, 27 clamp, 26 last in group, 25 no skip conversion .. 24 first in group".
abbrev pub flags_in : ℕ → Flags
flags_in word4 =
    record {
      first_in_slice = is_set (bits word4 30 30);
      last_in_slice = is_set (bits word4 31 31);
      first_in_group = is_set (bits word4 24 24);
      last_in_group = is_set (bits word4 26 26);
      clamp = is_set (bits word4 27 27);
      no_skip_conversion = is_set (bits word4 25 25);
    }

-- The macroblock of words 1 to 4 and a case. Word 1: "31:16 carried .. 2 skip"; word 2: "row in 31:16, column in 15:0"; word 3:
-- "maximum size 31:24, target size 23:16 .. pattern 11:6"; word 4: "4:0 quantiser". Document 02: "word 1 bit 15 (dct type)".
abbrev pub assembled : ℕ → ℕ → ℕ → ℕ → Case → Macroblock
assembled w1 w2 w3 w4 case =
    record {
      column = bits w2 15 0;
      row = bits w2 31 16;
      upper = bits w1 31 16;
      case = case;
      skip = is_set (bits w1 2 2);
      dct_type = is_set (bits w1 15 15);
      pattern = bits w3 11 6;
      max_size = bits w3 31 24;
      target_size = bits w3 23 16;
      quantiser = bits w4 4 0;
      flags = flags_in w4;
    }

-- The macroblock of a command's words.
unfoldable pub macroblock_of : List ℕ → Macroblock
macroblock_of ws = assembled (word_at ws 1) (word_at ws 2) (word_at ws 3) (word_at ws 4) (case_of (motion_in ws))

-- The fields of words 1 to 4; every other bit is zero. Document 02: "type 04h .. with bit 14 = 1 and bits 1:0 = 1".
abbrev pub fields1 : ℕ → ℕ → Bool → Bool → List Field
fields1 upper kind skip dct =
    field 31 16 upper
    ∷ field 15 15 (flag dct)
    ∷ field 14 14 (flag (eqb kind 4))
    ∷ field 13 13 (flag (eqb kind 0))
    ∷ field 12 8 (type_of kind)
    ∷ field 2 2 (flag skip)
    ∷ field 1 0 (flag (eqb kind 4))
    ∷ []

abbrev pub fields2 : ℕ → ℕ → List Field
fields2 column row = field 31 16 row ∷ field 15 0 column ∷ []

abbrev pub fields3 : Macroblock → List Field
fields3 m = field 31 24 m.max_size ∷ field 23 16 m.target_size ∷ field 11 6 m.pattern ∷ []

abbrev pub fields4 : Motion → Macroblock → List Field
fields4 choices m =
    field 31 31 (flag m.flags.last_in_slice)
    ∷ field 30 30 (flag m.flags.first_in_slice)
    ∷ field 27 27 (flag m.flags.clamp)
    ∷ field 26 26 (flag m.flags.last_in_group)
    ∷ field 25 25 (flag m.flags.no_skip_conversion)
    ∷ field 24 24 (flag m.flags.first_in_group)
    ∷ field 18 18 (flag choices.bottom_from_bottom)
    ∷ field 16 16 (flag choices.top_from_bottom)
    ∷ field 4 0 m.quantiser
    ∷ []

-- The words of a macroblock's command.
unfoldable pub words_of : Macroblock → List ℕ
words_of m =
    macroblock_header
    ∷ packed (fields1 m.upper (motion_of m.case).kind m.skip m.dct_type)
    ∷ packed (fields2 m.column m.row)
    ∷ packed (fields3 m)
    ∷ packed (fields4 (motion_of m.case) m)
    ∷ vector_words (motion_of m.case)
