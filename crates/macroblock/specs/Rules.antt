-- The rules that a MACROBLOCK command keeps by itself, without its picture but for what that allows.
-- To be believed: the rules, their numbers and their words.
use Rattle.std.specs.Prelude.{ℕ, Bool, true, false, cond, not, ◌&&◌, ◌||◌, List, [], ◌∷◌, ◌++◌, eqb, leb}
use Rattle.fields.specs.Word.{bits, is_set, flag, has_bits, zero_bits}
use Rattle.answers.specs.Answers.{Rule, rule}
use Rattle.macroblock.specs.Cases.{is_field, vector_words}
use Rattle.headers.specs.Words.{word_at}
use Rattle.macroblock.specs.Macroblocks.{is_intra, intra_type, kind_in, motion_in, macroblock_of}
use Rattle.macroblock.specs.declared.Allowed.{Allowed}
use Rattle.macroblock.specs.declared.Kept.{Kept}
use Rattle.macroblock.specs.declared.Macroblock.{Macroblock}

-- The rules of the macroblock itself, which its log record keeps too; whether it is intra and whether field predicted say how it is
-- coded.
abbrev pub kept_if : Bool → Bool → Macroblock → Kept
kept_if intra fields m =
    record {
      -- "Intra: .. skip zero."
      intra_not_skipped = not (m.skip && intra);
      -- "Intra: pattern 63."
      intra_pattern = not intra || eqb m.pattern 63;
      -- "quantiser 1 to 31"
      quantiser = leb 1 m.quantiser && leb m.quantiser 31;
      -- "Skip: neither first nor last in slice (bits 30 and 31 of word 4 zero)"
      skip_inside_slice = not (m.skip && (m.flags.first_in_slice || m.flags.last_in_slice));
      -- "Skip: .. pattern zero"
      skip_pattern = not m.skip || eqb m.pattern 0;
      -- Document 02: "a skipped type 04h gives 11, read alone too"
      field_not_skipped = not (m.skip && fields);
    }

unfoldable pub kept_by : Macroblock → Kept
kept_by m = kept_if (is_intra m.case) (is_field m.case) m

-- What is allowed where there is no picture. Document 02: "One command read alone may be of either sort."
abbrev pub alone : Allowed
alone = record { dct_type = true; field = true }

-- What is allowed with PICTURE bit 10 = 1, as it always was in document 01.
abbrev pub neither : Allowed
neither = record { dct_type = false; field = false }

-- Word 1: "Intra: type 1Ah .. Inter: 1 forward, 2 backward, 3 both."; document 02's "type 04h" where it is allowed
abbrev pub type_permitted : Allowed → ℕ → Bool
type_permitted a w =
    cond (is_set (bits w 13 13)) (eqb (bits w 12 8) intra_type) (leb 1 (bits w 12 8) && leb (bits w 12 8) (cond a.field 4 3))

-- Word 1 says field prediction, where that is allowed.
abbrev pub field_in : Allowed → ℕ → Bool
field_in a w = a.field && eqb (kind_in w) 4

-- The bits of words 1, 3 and 4 that have one value: "15, 14, 7:3 zero .. 1:0 zero"; "15:12 zero .. 5:0 zero"; "all else zero". Document 02:
-- "bit 15 (dct type) is free on macroblocks that are not skipped"; 04h has "bit 14 = 1 and bits 1:0 = 1"; "Intra, other types, and 04h
-- where not allowed keep bits 14 and 1:0 zero"; in word 4 "17 and 19 stay zero", "bits 16 or 18 set on another type, give 4"
abbrev pub fixed1 : Allowed → ℕ → Bool
fixed1 a w =
    (zero_bits w 15 15 || (a.dct_type && not (is_set (bits w 2 2))))
    && (has_bits w 14 14 (flag (field_in a w)) && (zero_bits w 7 3 && has_bits w 1 0 (flag (field_in a w))))

abbrev pub fixed3 : ℕ → Bool
fixed3 w = zero_bits w 15 12 && zero_bits w 5 0

abbrev pub fixed4 : Bool → ℕ → Bool
fixed4 fields w =
    zero_bits w 29 28 && (zero_bits w 23 19 && (zero_bits w 17 17 && (zero_bits w 15 5 && (fields || (zero_bits w 18 18 && zero_bits w 16 16)))))

-- Word i of a command is what stands in the j-th of its words 5 to 8, j from 0.
abbrev pub copied : List ℕ → ℕ → ℕ → Bool
copied ws i j = eqb (word_at ws i) (word_at (vector_words (motion_in ws)) j)

-- The tables: number, word, and whether the rule holds. "A word's bits that must always have one value give 4; any other rule
-- of a word list without a number of its own gives 5, skip on an intra macroblock .. included." "11 skip rule: word 1".
unfoldable pub field_rules : Allowed → Kept → List ℕ → List Rule
field_rules a kept ws =
    rule 4 1 (fixed1 a (word_at ws 1))
    ∷ rule 5 1 (type_permitted a (word_at ws 1) && kept.intra_not_skipped)
    ∷ rule 11 1 (kept.skip_inside_slice && (kept.skip_pattern && kept.field_not_skipped))
    ∷ rule 4 3 (fixed3 (word_at ws 3))
    ∷ rule 5 3 kept.intra_pattern
    ∷ rule 4 4 (fixed4 (field_in a (word_at ws 1)) (word_at ws 4))
    ∷ rule 5 4 kept.quantiser
    ∷ []

-- Words 5 to 8: each is the vector that is there, or the copy in place of one that is missing.
unfoldable pub vector_rules : List ℕ → List Rule
vector_rules ws = rule 8 5 (copied ws 5 0) ∷ rule 8 6 (copied ws 6 1) ∷ rule 8 7 (copied ws 7 2) ∷ rule 8 8 (copied ws 8 3) ∷ []

-- What a command keeps by itself: "4, 5 (without picture type), 8 and the first two skip rules". A picture's rules are further
-- tables beside these; `judged` takes them in the order of their words and numbers.
unfoldable pub command_rules : Allowed → List ℕ → List Rule
command_rules a ws = field_rules a (kept_by (macroblock_of ws)) ws ++ vector_rules ws
