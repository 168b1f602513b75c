-- Worked examples of MACROBLOCK commands: what they say, and which rules they break by themselves. What is quoted is document 01, of
-- field dct type and type 04h document 02's R-6.
-- To be believed: numbers, places and what the words say are the papers' own.
use Rattle.std.specs.Prelude.{ℕ, Bool, true, false, List, [], ◌∷◌, ◌++◌, map, ℤ, pos, neg_ℤ, set}
use Rattle.prediction.specs.declared.Vector.{Vector}
use Rattle.answers.specs.Examples.{Example, keeping, breaking, keeping_each, breaking_each}
use Rattle.headers.specs.Examples.{WordReading, reading, turned_in}
use Rattle.macroblock.specs.declared.Prediction.TheVariants.{Forward, Backward, Both, Field}
use Rattle.macroblock.specs.declared.Case.{Case}
use Rattle.macroblock.specs.declared.Case.TheVariants.{Intra, Inter}
use Rattle.macroblock.specs.declared.Allowed.{Allowed}
use Rattle.macroblock.specs.declared.Flags.{Flags}
use Rattle.macroblock.specs.declared.Macroblock.{Macroblock}
use Rattle.macroblock.specs.Rules.{alone, neither}

-- P1's macroblock; one of each type, with every field its own and x −2, y 3 forward, x 1, y −1 backward; and a skipped one of a
-- given word 1 and words 5 to 8.
abbrev pub intra_command : List ℕ
intra_command = 0x73490007 ∷ 0x00003A00 ∷ 0 ∷ 0xFC0 ∷ 0xC5000001 ∷ 0 ∷ 0 ∷ 0 ∷ 0 ∷ []

abbrev pub inter_command : ℕ → List ℕ → List ℕ
inter_command one vectors = 0x73490007 ∷ one ∷ 0x00050007 ∷ 0xABCD0540 ∷ 0x4A000009 ∷ vectors

abbrev pub skipped_command : ℕ → List ℕ → List ℕ
skipped_command one vectors = 0x73490007 ∷ one ∷ 1 ∷ 0 ∷ 0x0400001F ∷ vectors

-- "forward only or backward only, all four equal; both, 7 = 5 and 8 = 6"
abbrev pub forward_words : List ℕ
forward_words = 0x0003FFFE ∷ 0x0003FFFE ∷ 0x0003FFFE ∷ 0x0003FFFE ∷ []

abbrev pub backward_words : List ℕ
backward_words = 0xFFFF0001 ∷ 0xFFFF0001 ∷ 0xFFFF0001 ∷ 0xFFFF0001 ∷ []

abbrev pub both_words : List ℕ
both_words = 0x0003FFFE ∷ 0xFFFF0001 ∷ 0x0003FFFE ∷ 0xFFFF0001 ∷ []

abbrev pub forward_command : List ℕ
forward_command = inter_command 0x12340100 forward_words

abbrev pub backward_command : List ℕ
backward_command = inter_command 0x12340200 backward_words

abbrev pub both_command : List ℕ
both_command = inter_command 0x12340300 both_words

-- "Word 5 is the top field's vector, word 7 the bottom's, 6 and 8 copy 5"; "bit 14 = 1 and bits 1:0 = 1"
abbrev pub field_words : List ℕ
field_words = 0x0003FFFE ∷ 0x0003FFFE ∷ 0xFFFF0001 ∷ 0x0003FFFE ∷ []

abbrev pub field_command : List ℕ
field_command = inter_command 0x12344401 field_words

-- x and y in half samples; and whether it is first in slice, last in slice, first in group, last in group, clamped, not converted.
abbrev pub half_samples : ℤ → ℤ → Vector
half_samples x y = record { x = x; y = y }

abbrev pub minus : ℕ → ℤ
minus n = neg_ℤ (pos n)

abbrev pub flagged : Bool → Bool → Bool → Bool → Bool → Bool → Flags
flagged fs ls fg lg c n =
    record {
      first_in_slice = fs;
      last_in_slice = ls;
      first_in_group = fg;
      last_in_group = lg;
      clamp = c;
      no_skip_conversion = n;
    }

-- Column, row, upper half of word 1; how it is coded; skip, field dct type, pattern, maximum and target size, quantiser.
abbrev pub macroblock : ℕ → ℕ → ℕ → Case → Bool → Bool → ℕ → ℕ → ℕ → ℕ → Flags → Macroblock
macroblock column row upper case skip dct pattern max target quantiser flags =
    record {
      column = column;
      row = row;
      upper = upper;
      case = case;
      skip = skip;
      dct_type = dct;
      pattern = pattern;
      max_size = max;
      target_size = target;
      quantiser = quantiser;
      flags = flags;
    }

abbrev pub inter_said_with : Bool → Case → Macroblock
inter_said_with dct case = macroblock 7 5 0x1234 case false dct 0x15 0xAB 0xCD 9 (flagged true false false false true true)

abbrev pub inter_said : Case → Macroblock
inter_said case = inter_said_with false case

-- Field prediction of these vectors, the fields chosen for the top and the bottom one.
abbrev pub field_said : Bool → Bool → Case
field_said top bottom = Inter (Field (half_samples (minus 2) (pos 3)) (half_samples (pos 1) (minus 1)) top bottom)

abbrev pub skipped_said : Case → Macroblock
skipped_said case = macroblock 1 0 0 case true false 0 0 0 31 (flagged false false false true false false)

abbrev pub flags_said : Flags → Macroblock
flags_said flags = macroblock 0 0 0 Intra false false 63 0 0 1 flags

-- P1's and one of each type, skipped ones too; a vector at both ends of its components; then each field and each flag alone, with
-- all its bits; and type 04h with each choice, and the field dct type.
unfoldable pub macroblock_readings : List (WordReading Macroblock)
macroblock_readings =
    reading intra_command (flags_said (flagged true true true true false false))
    ∷ reading forward_command (inter_said (Inter (Forward (half_samples (minus 2) (pos 3)))))
    ∷ reading backward_command (inter_said (Inter (Backward (half_samples (pos 1) (minus 1)))))
    ∷ reading both_command (inter_said (Inter (Both (half_samples (minus 2) (pos 3)) (half_samples (pos 1) (minus 1)))))
    ∷ reading (skipped_command 0x104 forward_words) (skipped_said (Inter (Forward (half_samples (minus 2) (pos 3)))))
    ∷ reading (skipped_command 0x204 backward_words) (skipped_said (Inter (Backward (half_samples (pos 1) (minus 1)))))
    ∷ reading (skipped_command 0x304 both_words) (skipped_said (Inter (Both (half_samples (minus 2) (pos 3)) (half_samples (pos 1) (minus 1)))))
    ∷ reading (inter_command 0x12340300 (0x7FFF8000 ∷ 0x80007FFF ∷ 0x7FFF8000 ∷ 0x80007FFF ∷ []))
    (inter_said (Inter (Both (half_samples (minus 32768) (pos 32767)) (half_samples (pos 32767) (minus 32768)))))
    ∷ reading (0x73490007 ∷ 0xFFFF3A00 ∷ 0 ∷ 0xFC0 ∷ 1 ∷ 0 ∷ 0 ∷ 0 ∷ 0 ∷ [])
    (macroblock 0 0 65535 Intra false false 63 0 0 1 (flagged false false false false false false))
    ∷ reading (0x73490007 ∷ 0x3A00 ∷ 0x0000FFFF ∷ 0xFF000FC0 ∷ 0x1F ∷ 0 ∷ 0 ∷ 0 ∷ 0 ∷ [])
    (macroblock 65535 0 0 Intra false false 63 255 0 31 (flagged false false false false false false))
    ∷ reading (0x73490007 ∷ 0x3A00 ∷ 0xFFFF0000 ∷ 0x00FF0FC0 ∷ 0x10 ∷ 0 ∷ 0 ∷ 0 ∷ 0 ∷ [])
    (macroblock 0 65535 0 Intra false false 63 0 255 16 (flagged false false false false false false))
    ∷ reading (set intra_command 4 0x40000001) (flags_said (flagged true false false false false false))
    ∷ reading (set intra_command 4 0x80000001) (flags_said (flagged false true false false false false))
    ∷ reading (set intra_command 4 0x01000001) (flags_said (flagged false false true false false false))
    ∷ reading (set intra_command 4 0x04000001) (flags_said (flagged false false false true false false))
    ∷ reading (set intra_command 4 0x08000001) (flags_said (flagged false false false false true false))
    ∷ reading (set intra_command 4 0x02000001) (flags_said (flagged false false false false false true))
    ∷ reading field_command (inter_said (field_said false false))
    ∷ reading (set field_command 4 0x4A010009) (inter_said (field_said true false))
    ∷ reading (set field_command 4 0x4A040009) (inter_said (field_said false true))
    ∷ reading (set field_command 4 0x4A050009) (inter_said (field_said true true))
    ∷ reading (set field_command 1 0x1234C401) (inter_said_with true (field_said false false))
    ∷ reading (set forward_command 1 0x12348100) (inter_said_with true (Inter (Forward (half_samples (minus 2) (pos 3)))))
    ∷ reading (0x73490007 ∷ 0xBA00 ∷ 0 ∷ 0xFC0 ∷ 1 ∷ 0 ∷ 0 ∷ 0 ∷ 0 ∷ [])
    (macroblock 0 0 0 Intra false true 63 0 0 1 (flagged false false false false false false))
    ∷ []

-- "PICTURE bit 10 may now be 0; then word 1 bit 15 (dct type) is free .. and type 04h is allowed in P": in I and B the dct type alone.
abbrev pub dct_alone : Allowed
dct_alone = record { dct_type = true; field = false }

-- Commands that are judged under what is allowed.
abbrev pub under : Allowed → List (Example (List ℕ)) → List (Example (Allowed × List ℕ))
under a examples = map (λ x. record { given = (a, x.given); breaks = x.breaks }) examples

-- Word 1: "31:16 carried; 15, 14, 7:3 zero; .. 1:0 zero"; "Intra: type 1Ah": each bit of it off, and inter's types; "Inter: 1 forward,
-- 2 backward, 3 both": types 0, 5, 8, 10h, 1Ah and 1Fh of one that is not intra, and 04h with the intra bit
unfoldable pub word1_examples : List (Example (List ℕ))
word1_examples =
    keeping_each intra_command 1 (turned_in 0x3A00 31 16)
    ++ breaking_each 4 1 intra_command 1 (turned_in 0x3A00 14 14 ++ turned_in 0x3A00 7 3 ++ turned_in 0x3A00 1 0)
    ++ breaking_each 4 1 both_command 1 (turned_in 0x300 14 14 ++ turned_in 0x300 7 3 ++ turned_in 0x300 1 0)
    ++ breaking_each 5 1 intra_command 1 (turned_in 0x3A00 12 8 ++ 0x2000 ∷ 0x2100 ∷ 0x2200 ∷ 0x2300 ∷ 0x2400 ∷ [])
    ++ breaking_each 5 1 intra_command 1 (0 ∷ 0x500 ∷ 0x800 ∷ 0x1000 ∷ 0x1A00 ∷ 0x1F00 ∷ [])

-- "Intra: .. skip zero": with pattern 63 it breaks a skip rule too, with 0 the one on intra's pattern. "Skip: neither first nor last in
-- slice (bits 30 and 31 of word 4 zero); pattern zero": each alone, of each type; other flags are no fault
unfoldable pub skip_examples : List (Example (List ℕ))
skip_examples =
    record { given = set (set intra_command 1 0x3A04) 4 1; breaks = (5, 1) ∷ (11, 1) ∷ [] }
    ∷ record { given = set (set (set intra_command 1 0x3A04) 3 0) 4 1; breaks = (5, 1) ∷ (5, 3) ∷ [] }
    ∷ breaking_each 11 1 (skipped_command 0x104 forward_words) 4 (0x40000001 ∷ 0x80000001 ∷ 0xC000001F ∷ [])
    ++ breaking_each 11 1 (skipped_command 0x204 backward_words) 4 (0x40000001 ∷ 0x80000001 ∷ [])
    ++ breaking_each 11 1 (skipped_command 0x304 both_words) 4 (0x40000001 ∷ 0x80000001 ∷ [])
    ++ breaking_each 11 1 (skipped_command 0x104 forward_words) 3 (turned_in 0 11 6)
    ++ breaking_each 11 1 (skipped_command 0x204 backward_words) 3 (0x40 ∷ 0x800 ∷ [])
    ++ breaking_each 11 1 (skipped_command 0x304 both_words) 3 (0x40 ∷ 0x800 ∷ [])
    ++ keeping_each (skipped_command 0x104 forward_words) 4 (turned_in 1 27 24)

-- Word 2, any; word 3: "maximum size 31:24, target size 23:16, 15:12 zero, pattern 11:6, 5:0 zero. Intra: pattern 63."
unfoldable pub word3_examples : List (Example (List ℕ))
word3_examples =
    keeping_each intra_command 2 (turned_in 0 31 0)
    ++ keeping_each intra_command 3 (turned_in 0xFC0 31 16)
    ++ breaking_each 4 3 intra_command 3 (turned_in 0xFC0 15 12 ++ turned_in 0xFC0 5 0)
    ++ breaking_each 4 3 forward_command 3 (turned_in 0 15 12 ++ turned_in 0 5 0)
    ++ breaking_each 5 3 intra_command 3 (turned_in 0xFC0 11 6 ++ 0 ∷ [])
    ++ keeping_each forward_command 3 (turned_in 0 11 6 ++ 0 ∷ 0xFC0 ∷ [])

-- Word 4: "31 last in slice, 30 first in slice, 27 clamp, 26 last in group, 25 no skip conversion .., 24 first in group, 4:0 quantiser
-- 1 to 31, all else zero"; 0 is P7's, alone and with a fixed bit
unfoldable pub word4_examples : List (Example (List ℕ))
word4_examples =
    keeping_each intra_command 4 (turned_in 0xC5000001 31 30 ++ turned_in 0xC5000001 27 24 ++ turned_in 0xC5000001 4 1 ++ 0x1F ∷ [])
    ++ breaking_each 4 4 intra_command 4 (turned_in 0xC5000001 29 28 ++ turned_in 0xC5000001 23 5)
    ++ breaking_each 4 4 backward_command 4 (turned_in 1 29 28 ++ turned_in 1 23 5)
    ++ breaking_each 5 4 intra_command 4 (0xC5000000 ∷ [])
    ++ breaking_each 5 4 forward_command 4 (0x4A000000 ∷ [])
    ++ record { given = set intra_command 4 0xC5000020; breaks = (4, 4) ∷ (5, 4) ∷ [] }
    ∷ []

-- Words 5 to 8: "A missing vector is a copy". Intra, the first of which is P6's; then each type with a copy left zero, that of the other
-- reference, one off in x and one off in y; with its own vector another; and both, with 7 and 8 exchanged
unfoldable pub vector_examples : List (Example (List ℕ))
vector_examples =
    breaking_each 8 5 intra_command 5 (1 ∷ 0x10000 ∷ 0x80000000 ∷ [])
    ++ breaking_each 8 6 intra_command 6 (1 ∷ 0x10000 ∷ 0x80000000 ∷ [])
    ++ breaking_each 8 7 intra_command 7 (1 ∷ 0x10000 ∷ 0x80000000 ∷ [])
    ++ breaking_each 8 8 intra_command 8 (1 ∷ 0x10000 ∷ 0x80000000 ∷ [])
    ++ breaking_each 8 6 forward_command 6 (0 ∷ 0xFFFF0001 ∷ 0x0003FFFF ∷ 0x0002FFFE ∷ [])
    ++ breaking_each 8 7 forward_command 7 (0 ∷ 0xFFFF0001 ∷ 0x0003FFFF ∷ 0x0002FFFE ∷ [])
    ++ breaking_each 8 8 forward_command 8 (0 ∷ 0xFFFF0001 ∷ 0x0003FFFF ∷ 0x0002FFFE ∷ [])
    ++ breaking_each 8 5 backward_command 5 (0 ∷ 0x0003FFFE ∷ 0xFFFF0000 ∷ 0xFFFE0001 ∷ [])
    ++ breaking_each 8 7 backward_command 7 (0 ∷ 0x0003FFFE ∷ 0xFFFF0000 ∷ 0xFFFE0001 ∷ [])
    ++ breaking_each 8 8 backward_command 8 (0 ∷ 0x0003FFFE ∷ 0xFFFF0000 ∷ 0xFFFE0001 ∷ [])
    ++ breaking_each 8 7 both_command 7 (0 ∷ 0xFFFF0001 ∷ 0x0003FFFF ∷ 0x0002FFFE ∷ [])
    ++ breaking_each 8 8 both_command 8 (0 ∷ 0x0003FFFE ∷ 0xFFFF0000 ∷ 0xFFFE0001 ∷ [])
    ++ breaking_each 8 7 both_command 5 (0 ∷ 0xFFFF0001 ∷ [])
    ++ breaking_each 8 8 both_command 6 (0 ∷ 0x0003FFFE ∷ [])
    ++ record { given = set forward_command 5 0; breaks = (8, 6) ∷ (8, 7) ∷ (8, 8) ∷ [] }
    ∷ record { given = set backward_command 6 0; breaks = (8, 5) ∷ (8, 7) ∷ (8, 8) ∷ [] }
    ∷ record { given = set (set both_command 7 0xFFFF0001) 8 0x0003FFFE; breaks = (8, 7) ∷ (8, 8) ∷ [] }
    ∷ []

-- "word 1 bit 15 (dct type) is free on macroblocks that are not skipped": intra and inter, where it is allowed; a skipped one, intra too,
-- and every one where it is not allowed, gives 4
abbrev pub dct_given : List (List ℕ)
dct_given =
    set intra_command 1 0xBA00
    ∷ inter_command 0x12348100 forward_words
    ∷ inter_command 0x12348200 backward_words
    ∷ inter_command 0x12348300 both_words
    ∷ []

abbrev pub dct_skipped : List (Example (List ℕ))
dct_skipped =
    breaking 4 1 (skipped_command 0x8104 forward_words)
    ∷ breaking 4 1 (skipped_command 0x8204 backward_words)
    ∷ breaking 4 1 (skipped_command 0x8304 both_words)
    ∷ record { given = set (set intra_command 1 0xBA04) 4 1; breaks = (4, 1) ∷ (5, 1) ∷ (11, 1) ∷ [] }
    ∷ []

unfoldable pub dct_examples : List (Example (Allowed × List ℕ))
dct_examples =
    under alone (map keeping dct_given ++ dct_skipped)
    ++ under dct_alone (map keeping dct_given ++ dct_skipped)
    ++ under neither (map (breaking 4 1) dct_given ++ dct_skipped)

-- Type 04h where it is allowed: "with bit 14 = 1 and bits 1:0 = 1", so with each other value of these 4; its dct type is free; "a skipped
-- type 04h gives 11", with the dct type or another value of the bits 4 too
unfoldable pub field_allowed : List (Example (List ℕ))
field_allowed =
    keeping_each field_command 1 (0x4401 ∷ 0xC401 ∷ [])
    ++ breaking_each 4 1 field_command 1 (0x400 ∷ 0x401 ∷ 0x402 ∷ 0x403 ∷ 0x4400 ∷ 0x4402 ∷ 0x4403 ∷ 0xC400 ∷ [])
    ++ breaking_each 4 1 field_command 1 (turned_in 0x4401 7 3)
    ++ breaking 11 1 (skipped_command 0x4405 field_words)
    ∷ record { given = skipped_command 0xC405 field_words; breaks = (4, 1) ∷ (11, 1) ∷ [] }
    ∷ record { given = skipped_command 0x404 field_words; breaks = (4, 1) ∷ (11, 1) ∷ [] }
    ∷ []

-- "04h where not allowed" keeps "bits 14 and 1:0 zero": these set give 4, beside the 5 of its type; skipped 11 too
unfoldable pub field_refused : List (Example (List ℕ))
field_refused =
    breaking 5 1 (set field_command 1 0x400)
    ∷ record { given = skipped_command 0x404 field_words; breaks = (5, 1) ∷ (11, 1) ∷ [] }
    ∷ record { given = skipped_command 0x4405 field_words; breaks = (4, 1) ∷ (5, 1) ∷ (11, 1) ∷ [] }
    ∷ map (λ w. record { given = set field_command 1 w; breaks = (4, 1) ∷ (5, 1) ∷ [] })
    (0x401 ∷ 0x402 ∷ 0x403 ∷ 0x4400 ∷ 0x4401 ∷ 0x4402 ∷ 0x4403 ∷ 0xC401 ∷ [])

-- Word 4: "bits 16 and 18 choose the reference field for the two, 17 and 19 stay zero"; "bits 16 or 18 set on another type, give 4", and so
-- on 04h where it is not allowed
unfoldable pub choices_allowed : List (Example (List ℕ))
choices_allowed =
    keeping_each field_command 4 (0x4A010009 ∷ 0x4A040009 ∷ 0x4A050009 ∷ [])
    ++ breaking_each 4 4 field_command 4 (turned_in 0x4A000009 29 28 ++ turned_in 0x4A000009 23 19 ++ turned_in 0x4A000009 15 5)
    ++ breaking_each 4 4 field_command 4 (0x4A020009 ∷ 0x4A070009 ∷ 0x4A0D0009 ∷ [])
    ++ breaking_each 4 4 forward_command 4 (0x4A010009 ∷ 0x4A040009 ∷ 0x4A050009 ∷ [])
    ++ breaking_each 4 4 both_command 4 (0x4A010009 ∷ 0x4A040009 ∷ 0x4A050009 ∷ [])

unfoldable pub choices_refused : List (Example (List ℕ))
choices_refused =
    map (λ w. record { given = set (set field_command 1 0x400) 4 w; breaks = (5, 1) ∷ (4, 4) ∷ [] })
    (0x4A010009 ∷ 0x4A020009 ∷ 0x4A040009 ∷ 0x4A050009 ∷ 0x4A080009 ∷ [])

-- "Word 5 is the top field's vector, word 7 the bottom's, 6 and 8 copy 5": each copy left zero, the bottom field's vector, one off in x and
-- one off in y; word 7 any, that of word 5 too; word 5 another, with word 7 the same
unfoldable pub field_vector_examples : List (Example (List ℕ))
field_vector_examples =
    breaking_each 8 6 field_command 6 (0 ∷ 0xFFFF0001 ∷ 0x0003FFFF ∷ 0x0002FFFE ∷ [])
    ++ keeping_each field_command 7 (0 ∷ 0x0003FFFE ∷ 0x7FFF8000 ∷ 0xFFFFFFFF ∷ [])
    ++ breaking_each 8 8 field_command 8 (0 ∷ 0xFFFF0001 ∷ 0x0003FFFF ∷ 0x0002FFFE ∷ [])
    ++ record { given = set field_command 5 0; breaks = (8, 6) ∷ (8, 8) ∷ [] }
    ∷ []

unfoldable pub command_examples : List (Example (Allowed × List ℕ))
command_examples =
    under alone (map (λ x. keeping x.words) macroblock_readings ++ word1_examples ++ skip_examples)
    ++ under alone (word3_examples ++ word4_examples ++ vector_examples)
    ++ dct_examples
    ++ under alone (field_allowed ++ choices_allowed ++ field_vector_examples)
    ++ under neither (field_refused ++ choices_refused)
    ++ under dct_alone (field_refused ++ choices_refused ++ breaking 5 1 (set field_command 1 0x8400) ∷ [])
