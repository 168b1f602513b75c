-- A macroblock's log record, written and read. What is quoted is document 01, of bit 15 and type 04h document 02's R-6.
-- To be believed: the record of a macroblock. Reading it is proved against it, by `record_back` (proofs/RecordLaws.antt).
use Rattle.std.specs.Prelude.{ℕ, Bool, false, cond, not, ◌&&◌, List, [], ◌∷◌, eqb, leb}
use Rattle.fields.specs.Word.{Field, bits, is_set, flag, field, packed, zero_bits}
use Rattle.fields.specs.Parts.{Entry, entry, laid, value_at}
use Rattle.headers.specs.Words.{word_at}
use Rattle.macroblock.specs.Cases.{motion, motion_of, case_of}
use Rattle.macroblock.specs.Macroblocks.{macroblock_of, words_of}
use Rattle.macroblock.specs.declared.Case.{Case}
use Rattle.macroblock.specs.declared.Case.TheVariants.{Intra, Inter}
use Rattle.macroblock.specs.declared.Flags.{Flags}
use Rattle.macroblock.specs.declared.Macroblock.{Macroblock}
use Rattle.macroblock.specs.declared.Motion.{Motion}
use Rattle.macroblock.specs.declared.Prediction.TheVariants.{Forward, Backward, Both}
use Rattle.macroblock.specs.declared.Prediction.TheVariants as by
use Rattle.records.specs.Layout.{record_length, column_part, row_part, upper_part, kind_part, skip_part, pattern_part, max_size_part, target_size_part, quantiser_part, flags_part, forward_part, backward_part}

-- "12 flags, bits 0 to 5: first slice, last slice, first group, last group, clamp, no conversion"
abbrev pub flag_fields : Flags → List Field
flag_fields f =
    field 0 0 (flag f.first_in_slice)
    ∷ field 1 1 (flag f.last_in_slice)
    ∷ field 2 2 (flag f.first_in_group)
    ∷ field 3 3 (flag f.last_in_group)
    ∷ field 4 4 (flag f.clamp)
    ∷ field 5 5 (flag f.no_skip_conversion)
    ∷ []

abbrev pub flags_of : ℕ → Flags
flags_of b =
    record {
      first_in_slice = is_set (bits b 0 0);
      last_in_slice = is_set (bits b 1 1);
      first_in_group = is_set (bits b 2 2);
      last_in_group = is_set (bits b 3 3);
      clamp = is_set (bits b 4 4);
      no_skip_conversion = is_set (bits b 5 5);
    }

-- What a record has room for. "The log has no room for bit 15 and type 04h before R-7: the records of macroblocks that use them .. are
-- owed with R-7 and left to the program until then." Here they are the records without the dct type, and with type 04h as kind 1, by the
-- top field's vector.
abbrev pub recordable_case : Case → Case
recordable_case Intra = Intra
recordable_case (Inter (Forward f)) = Inter (Forward f)
recordable_case (Inter (Backward b)) = Inter (Backward b)
recordable_case (Inter (Both f b)) = Inter (Both f b)
recordable_case (Inter (by.Field t b i j)) = Inter (Forward t)

abbrev pub recordable : Macroblock → Macroblock
recordable m =
    record {
      column = m.column;
      row = m.row;
      upper = m.upper;
      case = recordable_case m.case;
      skip = m.skip;
      dct_type = false;
      pattern = m.pattern;
      max_size = m.max_size;
      target_size = m.target_size;
      quantiser = m.quantiser;
      flags = m.flags;
    }

-- The command of what a record has room for of a command.
abbrev pub recorded_command : List ℕ → List ℕ
recorded_command ws = words_of (recordable (macroblock_of ws))

-- Whether a command uses neither: bit 15 of word 1 is zero, and the type in 12:8 is not 04h. Its record then holds all that it says, by
-- `recordable_exactly` and `words_exactly` (proofs/RoundTrips.antt).
abbrev pub uses_neither : List ℕ → Bool
uses_neither ws = zero_bits (word_at ws 1) 15 15 && not (eqb (bits (word_at ws 1) 12 8) 4)

-- The record of a macroblock, as far as it has room.
abbrev pub entries : Macroblock → List Entry
entries m =
    entry column_part m.column
    ∷ entry row_part m.row
    ∷ entry upper_part m.upper
    ∷ entry kind_part (motion_of m.case).kind
    ∷ entry skip_part (flag m.skip)
    ∷ entry pattern_part m.pattern
    ∷ entry max_size_part m.max_size
    ∷ entry target_size_part m.target_size
    ∷ entry quantiser_part m.quantiser
    ∷ entry flags_part (packed (flag_fields m.flags))
    ∷ entry forward_part (motion_of m.case).forward
    ∷ entry backward_part (motion_of m.case).backward
    ∷ []

unfoldable pub record_of : Macroblock → List ℕ
record_of m = laid record_length (entries (recordable m))

-- The kind and the vectors of a record: "6 kind (0 intra, 1 forward, 2 backward, 3 both)". A number that is none of these, 4 too, is taken
-- as intra here; rules refuse it.
abbrev pub recorded_kind : ℕ → ℕ
recorded_kind n = cond (leb n 3) n 0

abbrev pub recorded_motion : List ℕ → Motion
recorded_motion bytes = motion (recorded_kind (value_at kind_part bytes)) (value_at forward_part bytes) (value_at backward_part bytes) 0 false false

-- The macroblock of a record.
unfoldable pub macroblock_in : List ℕ → Macroblock
macroblock_in bytes =
    record {
      column = value_at column_part bytes;
      row = value_at row_part bytes;
      upper = value_at upper_part bytes;
      case = case_of (recorded_motion bytes);
      skip = is_set (value_at skip_part bytes);
      dct_type = false;
      pattern = value_at pattern_part bytes;
      max_size = value_at max_size_part bytes;
      target_size = value_at target_size_part bytes;
      quantiser = value_at quantiser_part bytes;
      flags = flags_of (value_at flags_part bytes);
    }
