-- Document 01's MACROBLOCK command as it was before document 02's R-6: no type 04h and no dct type. "All else stays for bit 10 = 1."
-- Proved: where neither is allowed, `command_rules` gives the same answers, by `as_before` (proofs/Before.antt).
use Rattle.std.specs.Prelude.{ℕ, Bool, false, cond, ◌&&◌, List, [], ◌∷◌, ◌++◌, eqb, leb}
use Rattle.fields.specs.Word.{bits, is_set, zero_bits}
use Rattle.answers.specs.Answers.{Rule, rule}
use Rattle.headers.specs.Words.{word_at}
use Rattle.prediction.specs.Vectors.{vector_of}
use Rattle.macroblock.specs.Macroblocks.{intra_type, kind_in, assembled}
use Rattle.macroblock.specs.Rules.{kept_by, fixed3}
use Rattle.macroblock.specs.declared.Prediction.TheVariants.{Forward, Backward, Both}
use Rattle.macroblock.specs.declared.Case.{Case}
use Rattle.macroblock.specs.declared.Case.TheVariants.{Intra, Inter}
use Rattle.macroblock.specs.declared.Kept.{Kept}
use Rattle.macroblock.specs.declared.Macroblock.{Macroblock}

-- "kind (0 intra, 1 forward, 2 backward, 3 both)"; any other number was taken as intra, 4 too.
abbrev pub by_kind_before : {A : Type 0} → ℕ → A → A → A → A → A
by_kind_before kind intra forward backward both = cond (eqb kind 1) forward (cond (eqb kind 2) backward (cond (eqb kind 3) both intra))

-- "5 forward vector, 6 backward"
abbrev pub case_before : List ℕ → Case
case_before ws =
    by_kind_before (kind_in (word_at ws 1))
    Intra
    (Inter (Forward (vector_of (word_at ws 5))))
    (Inter (Backward (vector_of (word_at ws 6))))
    (Inter (Both (vector_of (word_at ws 5)) (vector_of (word_at ws 6))))

-- The macroblock, with no dct type.
abbrev pub without_dct : Macroblock → Macroblock
without_dct m =
    record {
      column = m.column;
      row = m.row;
      upper = m.upper;
      case = m.case;
      skip = m.skip;
      dct_type = false;
      pattern = m.pattern;
      max_size = m.max_size;
      target_size = m.target_size;
      quantiser = m.quantiser;
      flags = m.flags;
    }

unfoldable pub macroblock_before : List ℕ → Macroblock
macroblock_before ws = without_dct (assembled (word_at ws 1) (word_at ws 2) (word_at ws 3) (word_at ws 4) (case_before ws))

-- "A missing vector is a copy: intra, all zero; forward only or backward only, all four equal; both, 7 = 5 and 8 = 6."
unfoldable pub vector_words_before : List ℕ → List ℕ
vector_words_before ws =
    by_kind_before (kind_in (word_at ws 1))
    (0 ∷ 0 ∷ 0 ∷ 0 ∷ [])
    (word_at ws 5 ∷ word_at ws 5 ∷ word_at ws 5 ∷ word_at ws 5 ∷ [])
    (word_at ws 6 ∷ word_at ws 6 ∷ word_at ws 6 ∷ word_at ws 6 ∷ [])
    (word_at ws 5 ∷ word_at ws 6 ∷ word_at ws 5 ∷ word_at ws 6 ∷ [])

-- "Intra: type 1Ah .. Inter: 1 forward, 2 backward, 3 both."
abbrev pub type_permitted_before : ℕ → Bool
type_permitted_before w = cond (is_set (bits w 13 13)) (eqb (bits w 12 8) intra_type) (leb 1 (bits w 12 8) && leb (bits w 12 8) 3)

-- "15, 14, 7:3 zero .. 1:0 zero"; "all else zero"
abbrev pub fixed1_before : ℕ → Bool
fixed1_before w = zero_bits w 15 14 && (zero_bits w 7 3 && zero_bits w 1 0)

abbrev pub fixed4_before : ℕ → Bool
fixed4_before w = zero_bits w 29 28 && zero_bits w 23 5

abbrev pub copied_before : List ℕ → ℕ → ℕ → Bool
copied_before ws i j = eqb (word_at ws i) (word_at (vector_words_before ws) j)

-- The tables: number, word, and whether the rule holds.
unfoldable pub field_rules_before : Kept → List ℕ → List Rule
field_rules_before kept ws =
    rule 4 1 (fixed1_before (word_at ws 1))
    ∷ rule 5 1 (type_permitted_before (word_at ws 1) && kept.intra_not_skipped)
    ∷ rule 11 1 (kept.skip_inside_slice && kept.skip_pattern)
    ∷ rule 4 3 (fixed3 (word_at ws 3))
    ∷ rule 5 3 kept.intra_pattern
    ∷ rule 4 4 (fixed4_before (word_at ws 4))
    ∷ rule 5 4 kept.quantiser
    ∷ []

unfoldable pub vector_rules_before : List ℕ → List Rule
vector_rules_before ws =
    rule 8 5 (copied_before ws 5 0)
    ∷ rule 8 6 (copied_before ws 6 1)
    ∷ rule 8 7 (copied_before ws 7 2)
    ∷ rule 8 8 (copied_before ws 8 3)
    ∷ []

unfoldable pub command_rules_before : List ℕ → List Rule
command_rules_before ws = field_rules_before (kept_by (macroblock_before ws)) ws ++ vector_rules_before ws
