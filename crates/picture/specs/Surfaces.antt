-- The words of a SURFACE command. What is quoted is document 01.
-- To be believed: what SURFACE says, and its rules.
use Rattle.std.specs.Prelude.{ℕ, ◌+◌, ◌%◌, Bool, ◌&&◌, List, [], ◌∷◌, eqb}
use Rattle.fields.specs.Word.{bits, has_bits, zero_bits}
use Rattle.prediction.specs.declared.Surface.{Surface}
use Rattle.answers.specs.Answers.{Rule, rule}
use Rattle.headers.specs.Words.{word_at}
use Rattle.picture.specs.declared.Frame.{Frame}

-- "2: height−1 in 31:18, width−1 in 17:4", and what words 3 and 4 say.
abbrev pub frame_in : ℕ → Surface → Frame
frame_in two s = record { width = bits two 17 4 + 1; height = bits two 31 18 + 1; surface = s }

-- "3: .. pitch−1 in 19:3"; "4: first chroma row C in 14:0".
abbrev pub surface_in : ℕ → ℕ → Surface
surface_in three four = record { pitch = bits three 19 3 + 1; chroma_row = bits four 14 0 }

-- What a command's words say.
unfoldable pub surface_of : List ℕ → Frame
surface_of ws = frame_in (word_at ws 2) (surface_in (word_at ws 3) (word_at ws 4))

-- The bits of words 1 to 4 that have one value: "1: zero"; "2: .. 3:0 zero"; "3: 31:28 = 4, 27 = 1, 26:20 zero, .. bit 2 zero,
-- 1:0 = 3"; "4: .. in 14:0, the rest zero".
abbrev pub surface_bits1 : ℕ → Bool
surface_bits1 one = eqb one 0

abbrev pub surface_bits2 : ℕ → Bool
surface_bits2 two = zero_bits two 3 0

abbrev pub surface_bits3 : ℕ → Bool
surface_bits3 three =
    (has_bits three 31 28 4 && has_bits three 27 27 1)
    && (zero_bits three 26 20 && (zero_bits three 2 2 && has_bits three 1 0 3))

abbrev pub surface_bits4 : ℕ → Bool
surface_bits4 four = zero_bits four 31 15

-- "the pitch is a multiple of 128"
abbrev pub pitch_permitted : Frame → Bool
pitch_permitted f = eqb (f.surface.pitch % 128) 0

-- The table: number, word, and whether the rule holds. "A word's bits that must always have one value give 4; any other rule of
-- a word list without a number of its own gives 5, .. a pitch that is no multiple of 128 included." "5: unread."
unfoldable pub surface_rules : List ℕ → List Rule
surface_rules ws =
    rule 4 1 (surface_bits1 (word_at ws 1))
    ∷ rule 4 2 (surface_bits2 (word_at ws 2))
    ∷ rule 4 3 (surface_bits3 (word_at ws 3))
    ∷ rule 5 3 (pitch_permitted (surface_of ws))
    ∷ rule 4 4 (surface_bits4 (word_at ws 4))
    ∷ []
