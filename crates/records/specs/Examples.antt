-- Worked examples of log records, of their bad bytes, and of commands and records alone. What is quoted is document 01, of bit 15 and type
-- 04h document 02's R-6.
-- To be believed: bytes, numbers and places are the papers' own.
use Rattle.std.specs.Prelude.{ℕ, List, [], ◌∷◌, ◌++◌, map, set, take, replicate}
use Rattle.answers.specs.Examples.{Example, keeping, breaking, keeping_each, breaking_each}
use Rattle.answers.specs.Answers.{Accepted, refused, Answer}
use Rattle.headers.specs.Examples.{WordReading, reading, upwards}
use Rattle.macroblock.specs.Examples.{intra_command, skipped_command, forward_words, backward_words, both_words, forward_command, backward_command, both_command, field_words, field_command}

-- P1's: "8 zero bytes, 3F 00 00 01 0F, 11 zero bytes".
abbrev pub p1_record : List ℕ
p1_record = replicate 8 0 ++ 0x3F ∷ 0 ∷ 0 ∷ 1 ∷ 0x0F ∷ replicate 11 0

-- A record of a kind and vectors: column 7, row 5, upper half 1234h, not skipped, pattern 15h, sizes ABh and CDh, quantiser 9, first
-- slice, clamp and no conversion; and a skipped one in column 1, with quantiser 31, last in its group.
abbrev pub inter_record : ℕ → List ℕ → List ℕ
inter_record kind vectors = 7 ∷ 0 ∷ 5 ∷ 0 ∷ 0x34 ∷ 0x12 ∷ kind ∷ 0 ∷ 0x15 ∷ 0xAB ∷ 0xCD ∷ 9 ∷ 0x31 ∷ 0 ∷ 0 ∷ 0 ∷ vectors

abbrev pub skipped_record : ℕ → List ℕ → List ℕ
skipped_record kind vectors = 1 ∷ 0 ∷ 0 ∷ 0 ∷ 0 ∷ 0 ∷ kind ∷ 1 ∷ 0 ∷ 0 ∷ 0 ∷ 31 ∷ 8 ∷ 0 ∷ 0 ∷ 0 ∷ vectors

-- "16 forward x, 18 forward y, 20 backward x, 22 backward y, zero when absent": x −2 and y 3 forward, x 1 and y −1 backward.
abbrev pub forward_bytes : List ℕ
forward_bytes = 0xFE ∷ 0xFF ∷ 3 ∷ 0 ∷ 0 ∷ 0 ∷ 0 ∷ 0 ∷ []

abbrev pub backward_bytes : List ℕ
backward_bytes = 0 ∷ 0 ∷ 0 ∷ 0 ∷ 1 ∷ 0 ∷ 0xFF ∷ 0xFF ∷ []

abbrev pub both_bytes : List ℕ
both_bytes = 0xFE ∷ 0xFF ∷ 3 ∷ 0 ∷ 1 ∷ 0 ∷ 0xFF ∷ 0xFF ∷ []

-- Commands and their records: P1's; one of each kind, skipped ones too; one whose bytes all differ; and "flags, bits 0 to 5: first slice,
-- last slice, first group, last group, clamp, no conversion", each alone.
unfoldable pub record_readings : List (WordReading (List ℕ))
record_readings =
    reading intra_command p1_record
    ∷ reading forward_command (inter_record 1 forward_bytes)
    ∷ reading backward_command (inter_record 2 backward_bytes)
    ∷ reading both_command (inter_record 3 both_bytes)
    ∷ reading (skipped_command 0x104 forward_words) (skipped_record 1 forward_bytes)
    ∷ reading (skipped_command 0x204 backward_words) (skipped_record 2 backward_bytes)
    ∷ reading (skipped_command 0x304 both_words) (skipped_record 3 both_bytes)
    ∷ reading (0x73490007 ∷ 0x12340300 ∷ 0x5678ABCD ∷ 0xE1F20840 ∷ 0x83000013 ∷ 0x92A4B6C8 ∷ 0x14253647 ∷ 0x92A4B6C8 ∷ 0x14253647 ∷ [])
    (0xCD ∷ 0xAB ∷ 0x78 ∷ 0x56 ∷ 0x34 ∷ 0x12 ∷ 3 ∷ 0 ∷ 0x21 ∷ 0xE1 ∷ 0xF2 ∷ 0x13 ∷ 0x26 ∷ 0 ∷ 0 ∷ 0
    ∷ 0xC8 ∷ 0xB6 ∷ 0xA4 ∷ 0x92 ∷ 0x47 ∷ 0x36 ∷ 0x25 ∷ 0x14 ∷ [])
    ∷ reading (set intra_command 4 0x40000001) (set p1_record 12 1)
    ∷ reading (set intra_command 4 0x80000001) (set p1_record 12 2)
    ∷ reading (set intra_command 4 0x01000001) (set p1_record 12 4)
    ∷ reading (set intra_command 4 0x04000001) (set p1_record 12 8)
    ∷ reading (set intra_command 4 0x08000001) (set p1_record 12 16)
    ∷ reading (set intra_command 4 0x02000001) (set p1_record 12 32)
    ∷ []

-- A command, its record, and the command that this gives back.
pub record Shortened : Type 0 where
  pub command : List ℕ
  pub bytes : List ℕ
  pub back : List ℕ

abbrev pub shortened : List ℕ → List ℕ → List ℕ → Shortened
shortened command bytes back = record { command = command; bytes = bytes; back = back }

-- "The log has no room for bit 15 and type 04h before R-7": the dct type of each type and of intra is left out, with no bit in byte 13, and
-- 04h, with each choice, with a dct type and with another vector in word 7, is written as kind 1 with word 5's vector.
unfoldable pub short_readings : List Shortened
short_readings =
    shortened (set intra_command 1 0xBA00) p1_record intra_command
    ∷ shortened (set forward_command 1 0x12348100) (inter_record 1 forward_bytes) forward_command
    ∷ shortened (set backward_command 1 0x12348200) (inter_record 2 backward_bytes) backward_command
    ∷ shortened (set both_command 1 0x12348300) (inter_record 3 both_bytes) both_command
    ∷ shortened field_command (inter_record 1 forward_bytes) forward_command
    ∷ shortened (set field_command 4 0x4A010009) (inter_record 1 forward_bytes) forward_command
    ∷ shortened (set field_command 4 0x4A040009) (inter_record 1 forward_bytes) forward_command
    ∷ shortened (set field_command 4 0x4A050009) (inter_record 1 forward_bytes) forward_command
    ∷ shortened (set field_command 1 0x1234C401) (inter_record 1 forward_bytes) forward_command
    ∷ shortened (set field_command 7 0x7FFF8000) (inter_record 1 forward_bytes) forward_command
    ∷ []

-- A record whose i-th byte is each of these, one at a time: that byte is bad. "15 record not legal: its first bad byte".
abbrev pub bad_each : List ℕ → ℕ → List ℕ → List (Example (List ℕ))
bad_each r i bs = breaking_each 15 i r i bs

-- A record in which the k bytes from byte i on are not zero, one at a time: bits 0 and 7 of each.
abbrev pub legal_from : List ℕ → ℕ → ℕ → List (Example (List ℕ))
legal_from r i k = map (λ j. keeping (set r j 1)) (upwards i k) ++ map (λ j. keeping (set r j 0x80)) (upwards i k)

abbrev pub bad_from : List ℕ → ℕ → ℕ → List (Example (List ℕ))
bad_from r i k = map (λ j. breaking 15 j (set r j 1)) (upwards i k) ++ map (λ j. breaking 15 j (set r j 0x80)) (upwards i k)

-- "0 column, 2 row, 4 upper half of word 1", "9 maximum, 10 target size": any; "6 kind (0 intra, 1 forward, 2 backward, 3 both); 7 skip";
-- "quantiser 1 to 31"; flags in bits 0 to 5; "13 to 15 zero"
unfoldable pub byte_examples : List (Example (List ℕ))
byte_examples =
    legal_from p1_record 0 6
    ++ legal_from p1_record 9 2
    ++ bad_each p1_record 6 (4 ∷ 5 ∷ 8 ∷ 16 ∷ 32 ∷ 64 ∷ 128 ∷ 255 ∷ [])
    ++ bad_each p1_record 7 (2 ∷ 3 ∷ 128 ∷ 255 ∷ [])
    ++ bad_each (inter_record 1 forward_bytes) 7 (2 ∷ 3 ∷ 128 ∷ 255 ∷ [])
    ++ keeping_each p1_record 11 (2 ∷ 16 ∷ 31 ∷ [])
    ++ bad_each p1_record 11 (0 ∷ 32 ∷ 33 ∷ 64 ∷ 128 ∷ 255 ∷ [])
    ++ bad_each (inter_record 2 backward_bytes) 11 (0 ∷ 32 ∷ [])
    ++ keeping_each p1_record 12 (0 ∷ 63 ∷ [])
    ++ bad_each p1_record 12 (64 ∷ 65 ∷ 128 ∷ 255 ∷ [])
    ++ bad_from p1_record 13 3
    ++ bad_from (inter_record 3 both_bytes) 13 3

-- The pattern: intra's 63; inter's to 63; a skipped one's 0. "Clashes are placed at byte 7 (skipped intra), 8 (pattern), 12 (skip with a
-- slice end)". A skipped intra has a pattern that is wrong for either. Kind 4 is none yet: it has intra's pattern and no vector.
unfoldable pub clash_examples : List (Example (List ℕ))
clash_examples =
    bad_each p1_record 8 (0 ∷ 31 ∷ 47 ∷ 55 ∷ 59 ∷ 61 ∷ 62 ∷ 64 ∷ 127 ∷ 255 ∷ [])
    ++ keeping_each (inter_record 1 forward_bytes) 8 (0 ∷ 1 ∷ 32 ∷ 63 ∷ [])
    ++ bad_each (inter_record 1 forward_bytes) 8 (64 ∷ 128 ∷ 255 ∷ [])
    ++ bad_each (skipped_record 1 forward_bytes) 8 (1 ∷ 2 ∷ 4 ∷ 8 ∷ 16 ∷ 32 ∷ 64 ∷ [])
    ++ bad_each (skipped_record 2 backward_bytes) 8 (1 ∷ 32 ∷ [])
    ++ bad_each (skipped_record 3 both_bytes) 8 (1 ∷ 32 ∷ [])
    ++ keeping_each (skipped_record 1 forward_bytes) 12 (0 ∷ 4 ∷ 16 ∷ 32 ∷ 60 ∷ [])
    ++ bad_each (skipped_record 1 forward_bytes) 12 (1 ∷ 2 ∷ 3 ∷ 64 ∷ [])
    ++ bad_each (skipped_record 2 backward_bytes) 12 (1 ∷ 2 ∷ [])
    ++ bad_each (skipped_record 3 both_bytes) 12 (1 ∷ 2 ∷ [])
    ++ record { given = set (set p1_record 7 1) 12 0; breaks = (15, 7) ∷ (15, 8) ∷ [] }
    ∷ record { given = set (set (set p1_record 7 1) 8 0) 12 0; breaks = (15, 7) ∷ (15, 8) ∷ [] }
    ∷ record { given = set (set (skipped_record 1 forward_bytes) 11 0) 12 1; breaks = (15, 11) ∷ (15, 12) ∷ [] }
    ∷ record { given = set (set (inter_record 1 forward_bytes) 15 9) 23 1; breaks = (15, 15) ∷ (15, 23) ∷ [] }
    ∷ record { given = inter_record 4 forward_bytes; breaks = (15, 6) ∷ (15, 8) ∷ (15, 16) ∷ (15, 17) ∷ (15, 18) ∷ [] }
    ∷ []

-- "zero when absent": all eight bytes of an intra's vectors, the backward four of kind 1, the forward four of kind 2, none of kind 3
unfoldable pub absent_examples : List (Example (List ℕ))
absent_examples =
    bad_from p1_record 16 8
    ++ legal_from (inter_record 1 forward_bytes) 16 4
    ++ bad_from (inter_record 1 forward_bytes) 20 4
    ++ bad_from (inter_record 2 backward_bytes) 16 4
    ++ legal_from (inter_record 2 backward_bytes) 20 4
    ++ legal_from (inter_record 3 both_bytes) 16 8

unfoldable pub record_examples : List (Example (List ℕ))
record_examples = map (λ x. keeping x.says) record_readings ++ byte_examples ++ clash_examples ++ absent_examples

-- A command or a record alone, so many bytes or words of lent room, and the answer.
pub record Lent : Type 0 where
  pub given : List ℕ
  pub room : ℕ
  pub answer : Answer

abbrev pub lent : List ℕ → ℕ → Answer → Lent
lent given room answer = record { given = given; room = room; answer = answer }

-- "an empty run gets 1 at 0, any header but MACROBLOCK's gets 2, and words after the ninth aren't read"; "2, then 1", then the words;
-- "5 (without picture type) .. and the first two skip rules": intra with bit 25 of word 4, and a skipped one that moves, are taken; "14
-- follows all these"
unfoldable pub read_examples : List Lent
read_examples =
    lent [] 24 (refused 1 0)
    ∷ lent (0x73490007 ∷ []) 24 (refused 1 1)
    ∷ lent (take 8 intra_command) 24 (refused 1 8)
    ∷ lent (0 ∷ []) 24 (refused 2 0)
    ∷ lent (set (take 8 intra_command) 0 0x73490006) 24 (refused 2 0)
    ∷ lent (set intra_command 0 0x73430006) 24 (refused 2 0)
    ∷ lent intra_command 24 Accepted
    ∷ lent (intra_command ++ 1 ∷ []) 24 Accepted
    ∷ lent (set intra_command 4 0xC7000001) 24 Accepted
    ∷ lent (skipped_command 0x304 both_words) 25 Accepted
    ∷ lent intra_command 23 (refused 14 24)
    ∷ lent intra_command 0 (refused 14 24)
    ∷ lent (set intra_command 4 0xC5000000) 0 (refused 5 4)
    ∷ lent (set (set intra_command 4 0xC5000000) 5 1) 24 (refused 5 4)
    ∷ lent (set (set (skipped_command 0x104 forward_words) 3 0x41) 4 0x40000001) 24 (refused 11 1)
    ∷ lent (set (set intra_command 1 0x3A05) 3 0) 24 (refused 4 1)
    ∷ []

-- "One command read alone may be of either sort": bit 15 and type 04h are taken; "bit 14 = 1 and bits 1:0 = 1", else 4; "a skipped type 04h
-- gives 11, read alone too", with bit 15 first 4, as any skipped one; "17 and 19 stay zero", 16 and 18 on other types; "6 and 8 copy 5"
unfoldable pub either_sort : List Lent
either_sort =
    lent (set intra_command 1 0xBA00) 24 Accepted
    ∷ lent (set forward_command 1 0x12348100) 24 Accepted
    ∷ lent field_command 24 Accepted
    ∷ lent (set field_command 1 0x1234C401) 24 Accepted
    ∷ lent (set field_command 4 0x4A050009) 24 Accepted
    ∷ lent field_command 23 (refused 14 24)
    ∷ lent (set forward_command 1 0x12348100) 23 (refused 14 24)
    ∷ lent (set field_command 1 0x400) 24 (refused 4 1)
    ∷ lent (set field_command 1 0x401) 24 (refused 4 1)
    ∷ lent (set field_command 1 0x4400) 24 (refused 4 1)
    ∷ lent (set field_command 1 0x4403) 24 (refused 4 1)
    ∷ lent (set forward_command 1 0x4101) 24 (refused 4 1)
    ∷ lent (set intra_command 1 0x7A00) 24 (refused 4 1)
    ∷ lent (skipped_command 0x8104 forward_words) 24 (refused 4 1)
    ∷ lent (skipped_command 0x4405 field_words) 24 (refused 11 1)
    ∷ lent (skipped_command 0x4405 field_words) 0 (refused 11 1)
    ∷ lent (skipped_command 0xC405 field_words) 24 (refused 4 1)
    ∷ lent (set field_command 4 0x4A020009) 24 (refused 4 4)
    ∷ lent (set field_command 4 0x4A080009) 24 (refused 4 4)
    ∷ lent (set forward_command 4 0x4A010009) 24 (refused 4 4)
    ∷ lent (set both_command 4 0x4A040009) 24 (refused 4 4)
    ∷ lent (set field_command 6 0xFFFF0001) 24 (refused 8 6)
    ∷ lent (set field_command 8 0xFFFF0001) 24 (refused 8 8)
    ∷ []

-- "A length other than 24 gets 15 at byte 0"; the first of several bad bytes; a command has nine words; kind 4 and a dct type in byte 13 are
-- R-7's, and no record yet
unfoldable pub write_examples : List Lent
write_examples =
    lent [] 9 (refused 15 0)
    ∷ lent (take 23 p1_record) 9 (refused 15 0)
    ∷ lent (p1_record ++ 0 ∷ []) 9 (refused 15 0)
    ∷ lent (set (take 23 p1_record) 6 9) 0 (refused 15 0)
    ∷ lent p1_record 9 Accepted
    ∷ lent p1_record 10 Accepted
    ∷ lent p1_record 8 (refused 14 9)
    ∷ lent (set p1_record 23 1) 8 (refused 15 23)
    ∷ lent (set (set (set p1_record 6 4) 7 9) 11 0) 9 (refused 15 6)
    ∷ lent (set p1_record 6 4) 9 (refused 15 6)
    ∷ lent (inter_record 4 forward_bytes) 9 (refused 15 6)
    ∷ lent (set (inter_record 1 forward_bytes) 13 4) 9 (refused 15 13)
    ∷ []
