-- What documents 01 and 02 work out by number, computed from the definitions.
use mathlib.Core.Path.{◌≡◌, refl}
use mathlib.Core.Bool.{Bool, true, false}
use mathlib.Core.List.{List, [], ◌∷◌, ◌++◌, map}
use Prim.Native.Nat.{ℕ}
use lib.IntN.{ℤ, pos, neg_ℤ}
use Rattle.prediction.specs.Vectors.{vector_of, word_of}
use Rattle.prediction.specs.Ranges.{in_range, vector_in_range}
use Rattle.prediction.specs.Spans.{first_of, count_of, halved}
use Rattle.prediction.specs.Addresses.{address}
use Rattle.prediction.specs.Extents.{empty_extent, joined}
use Rattle.prediction.specs.Blocks.{block_at, block_extent, Block}
use Rattle.prediction.specs.Lines.{line_of, vector_in_lines, reach_of, floor_of}
use Rattle.prediction.specs.declared.Structure.{Structure}
use Rattle.prediction.specs.declared.Structure.TheVariants.{Frame, TopField, BottomField}
use Rattle.prediction.specs.declared.Vector.{Vector}
use Rattle.prediction.specs.declared.Surface.{Surface}
use Rattle.prediction.specs.declared.Line.{Line}
use Rattle.prediction.specs.declared.Extent.{Extent}
use Rattle.prediction.proofs.TwosComplement.{pair as vector}
use Rattle.prediction.proofs.ExtentLaws.{between}
use Rattle.std.specs.Prelude.{Some, None}

abbrev minus : ℕ → ℤ
minus n = neg_ℤ (pos n)

-- x in the low half, y in the high half, two's complement
vectors : map vector_of (0x00000001 ∷ 0x00010000 ∷ 0xffff0003 ∷ 0x7fff8000 ∷ [])
    ≡ vector (pos 1) (pos 0) ∷ vector (pos 0) (pos 1) ∷ vector (pos 3) (minus 1) ∷ vector (minus 32768) (pos 32767) ∷ []
unfolding vector_of
vectors = refl

words : map word_of (vector (pos 1) (pos 0) ∷ vector (pos 3) (minus 1) ∷ vector (minus 32768) (pos 32767) ∷ []) ≡ 0x00000001 ∷ 0xffff0003 ∷ 0x7fff8000 ∷ []
unfolding word_of
words = refl

-- "With f code c a component lies from −16·2^(c−1) to 16·2^(c−1)−1": both ends of codes 1 and 9. P13 is the first pair.
code1 : map (in_range 16 1) (pos 15 ∷ pos 16 ∷ minus 16 ∷ minus 17 ∷ []) ≡ true ∷ false ∷ true ∷ false ∷ []
code1 = refl

code9 : map (in_range 16 9) (pos 4095 ∷ pos 4096 ∷ minus 4096 ∷ minus 4097 ∷ []) ≡ true ∷ false ∷ true ∷ false ∷ []
code9 = refl

-- each component has its own code
codes : vector_in_range Frame (vector (pos 31) (pos 15)) 2 1 ≡ true
unfolding vector_in_range
codes = refl

-- of fields "Vertical components keep half the f code's range, −8·2^(c−1) to 8·2^(c−1)−1", and x the whole: both ends of codes 1 and 9
abbrev in_fields : ℕ → ℤ → ℤ → List Bool
in_fields c x y = map (λ (k : Structure). vector_in_range k (vector x y) c c) (TopField ∷ BottomField ∷ [])

field_code1 : in_fields 1 (pos 15) (pos 7)
    ++ in_fields 1 (minus 16) (minus 8)
    ++ in_fields 1 (pos 0) (pos 8)
    ++ in_fields 1 (pos 0) (minus 9)
    ++ in_fields 1 (pos 16) (pos 0)
    ++ in_fields 1 (minus 17) (pos 0)
    ≡ true ∷ true ∷ true ∷ true ∷ false ∷ false ∷ false ∷ false ∷ false ∷ false ∷ false ∷ false ∷ []
unfolding vector_in_range
field_code1 = refl

field_code9 : in_fields 9 (pos 4095) (pos 2047)
    ++ in_fields 9 (minus 4096) (minus 2048)
    ++ in_fields 9 (pos 0) (pos 2048)
    ++ in_fields 9 (pos 0) (minus 2049)
    ++ in_fields 9 (pos 4096) (pos 0)
    ++ in_fields 9 (minus 4097) (pos 0)
    ≡ true ∷ true ∷ true ∷ true ∷ false ∷ false ∷ false ∷ false ∷ false ∷ false ∷ false ∷ false ∷ []
unfolding vector_in_range
field_code9 = refl

-- "Chroma halves each component towards zero (−3 gives −1, −1 gives 0, 3 gives 1)"
halves : map halved (minus 3 ∷ minus 1 ∷ pos 3 ∷ []) ≡ minus 1 ∷ pos 0 ∷ pos 1 ∷ []
halves = refl

-- so −3 starts the chroma block at 8X−1, with 9 columns; here X is 2
chroma_first : first_of 8 2 (halved (minus 3)) ≡ pos 15
chroma_first = refl

chroma_count : count_of 8 (halved (minus 3)) ≡ 9
chroma_count = refl

-- P8 to P12: W 2, H 1, pitch 128, C 16, the block at column 0
abbrev answer_to : Vector → Block
answer_to v = block_at Frame (record { pitch = 128; chroma_row = 16 }) (record { columns = 2; rows = 1 }) (record { column = 0; row = 0 }) v

abbrev inside : ℕ → ℕ → Block
inside first end = Some (between first end)

p8_to_p12 : map answer_to
    (vector (pos 0) (pos 0)
    ∷ vector (pos 1) (pos 0)
    ∷ vector (pos 2) (pos 0)
    ∷ vector (pos 32) (pos 0)
    ∷ vector (pos 33) (pos 0)
    ∷ vector (minus 1) (pos 0)
    ∷ vector (pos 0) (pos 1)
    ∷ [])
    ≡ inside 0 384 ∷ inside 0 753 ∷ inside 1 882 ∷ inside 512 896 ∷ None ∷ None ∷ None ∷ []
unfolding block_at block_extent joined address
p8_to_p12 = refl

-- the last macroblock of the largest picture: its last chroma row, 34166, is row 22 of the tiles from row 34144 on, and
-- 34144·131072 + 31·4096 + 7·512 + 22·16 + 15 + 1 is past 2^32; its first luma row, 2784, is row 0 of its tiles, and its first luma
-- column, 4080, is column 112 of the tile from column 3968 on: 2784·131072 + 31·4096 + 7·512
largest : block_at Frame (record { pitch = 131072; chroma_row = 32767 }) (record { columns = 256; rows = 175 }) (record { column = 255; row = 174 }) (vector (pos 0) (pos 0)) ≡ inside 365035008 4475453296
unfolding block_at block_extent joined address
largest = refl

-- the line of two macroblocks: components from -16 to 15 for codes 0 and 1, -4096 to 4095 for 9, any for 12 and above
abbrev line : ℕ → ℕ → ℕ → Line
line low span last = record { low = low; span = span; last = last }

lines : map (line_of 16 2) (0 ∷ 1 ∷ 9 ∷ 12 ∷ 255 ∷ []) ≡ line 32752 31 1 ∷ line 32752 31 1 ∷ line 28672 8191 1 ∷ line 0 65535 1 ∷ line 0 65535 1 ∷ []
unfolding line_of
lines = refl

-- of fields: components from -8 to 7 for codes 0 and 1, -2048 to 2047 for 9, -16384 to 16383 for 12, any for 13 and above
field_lines : map (line_of 8 2) (0 ∷ 1 ∷ 9 ∷ 12 ∷ 13 ∷ 255 ∷ [])
    ≡ line 32760 15 1 ∷ line 32760 15 1 ∷ line 30720 4095 1 ∷ line 16384 32767 1 ∷ line 0 65535 1 ∷ line 0 65535 1 ∷ []
unfolding line_of
field_lines = refl

-- rows of a field by code 1, two rows of macroblocks and the second of them: y from -8 to 0, where the block ends with the last field row, 15
in_field_lines : map (vector_in_lines TopField (line_of 16 2 1) (line_of 8 2 1) 0 1) (0xfff80000 ∷ 0x00000000 ∷ 0xfff70000 ∷ 0x00010000 ∷ [])
    ≡ true ∷ true ∷ false ∷ false ∷ []
unfolding vector_in_lines line_of vector_of
in_field_lines = refl

-- a picture buffer whose chroma rows stand above its luma rows: the first byte is Cb's. Column 16 of row 16 is the second strip's, 512 +
-- 256; Cb is 2·8, row 8, in the same strip: 512 + 128
abbrev surface : ℕ → ℕ → Surface
surface pitch row = record { pitch = pitch; chroma_row = row }

chroma_begins : block_at Frame (surface 128 0) (record { columns = 2; rows = 2 }) (record { column = 1; row = 1 }) (vector (pos 0) (pos 0)) ≡ inside 640 1024
unfolding block_at block_extent joined address
chroma_begins = refl

-- Blocks of fields. Document 02: "Each vector moves a 16-column, 8-row field block starting from field row 8Y, inside 8H field rows; chroma is 8
-- by 4 from 4Y, halved as before. Reference row is twice the field row plus the chosen field." With pitch 128 one row of tiles, 32 rows,
-- has 4096 bytes, a strip of 16 columns 512, and a row of a strip 16. By number:
-- 1. The top field at (0, 0), C 32: luma from row 0; chroma field rows 0 to 3, rows 32 to 38: Cr ends at byte 15 of row 38,
-- 4096 + 6·16 + 15.
-- 2. The bottom field there: luma from row 1, byte 16; Cr ends at byte 15 of row 39, 4096 + 7·16 + 15.
-- 3. The bottom field at (1, 1) by (−3, −3), C 5: luma columns 14 to 30, field rows 8 − 2 to 14, rows 13 to 29; chroma (−1, −1) columns 7 to 15, field
-- rows 4 − 1 to 7, rows 5 + 7 to 5 + 15. Cb begins at byte 14 of row 12, 12·16 + 14, before luma's 13·16 + 14; luma ends at column 30 of row 29,
-- 512 + 29·16 + 14, behind Cr's byte 31 of row 20.
-- 4. The top field at (0, 0) by (1, 15), C 3: field rows 7 to 15, the last of 8·2, rows 14 to 30, columns 0 to 16; chroma (0, 7) field rows 3 to 7,
-- rows 3 + 6 to 3 + 14. Cb begins at row 9, 9·16; luma ends at column 16 of row 30, 512 + 30·16.
-- 5. The bottom field at (0, 0) by (0, 16), C 40: field rows 8 to 15, rows 17 to 31; chroma (0, 8) field rows 4 to 7, rows 40 + 9 to 40 + 15. Luma
-- begins at 17·16; Cr ends at byte 15 of row 55, 4096 + 23·16 + 15.
-- 6. The top field at (0, 0) by (0, 17): field rows 8 to 16, one too many.
-- 7. The bottom field at (0, 1) by (0, −17): field rows 8 − 9 and on, one before the first.
-- 8. The bottom field at (2, 3) by (−5, 7), pitch 256, C 81, W 3, H 5: columns 29 to 45, field rows 24 + 3 to 35, rows 55 to 71; chroma (−2, 3) columns 15
-- to 22, field rows 12 + 1 to 17, rows 81 + 27 to 81 + 35. Luma begins at column 29 of row 55, 8192 + 512 + 23·16 + 13; Cr ends at byte 45 of row 116,
-- 3·8192 + 2·512 + 20·16 + 13.
abbrev field_block : Structure → Surface → ℕ → ℕ → ℤ → ℤ → Block
field_block k s column row x y = block_at k s (record { columns = 2; rows = 2 }) (record { column = column; row = row }) (vector x y)

field_blocks : field_block TopField (surface 128 32) 0 0 (pos 0) (pos 0)
    ∷ field_block BottomField (surface 128 32) 0 0 (pos 0) (pos 0)
    ∷ field_block BottomField (surface 128 5) 1 1 (minus 3) (minus 3)
    ∷ field_block TopField (surface 128 3) 0 0 (pos 1) (pos 15)
    ∷ field_block BottomField (surface 128 40) 0 0 (pos 0) (pos 16)
    ∷ field_block TopField (surface 128 32) 0 0 (pos 0) (pos 17)
    ∷ field_block BottomField (surface 128 32) 0 1 (pos 0) (minus 17)
    ∷ block_at BottomField (surface 256 81) (record { columns = 3; rows = 5 }) (record { column = 2; row = 3 }) (vector (minus 5) (pos 7))
    ∷ []
    ≡ inside 0 4208 ∷ inside 16 4224 ∷ inside 206 991 ∷ inside 144 993 ∷ inside 272 4480 ∷ None ∷ None ∷ inside 9085 25934 ∷ []
unfolding block_at block_extent joined address
field_blocks = refl

-- no byte is not byte 0
joins : joined empty_extent (between 5 9) ∷ joined (between 5 9) empty_extent ∷ joined (between 5 9) (between 2 7) ∷ joined (between 2 7) (between 5 9) ∷ []
    ≡ between 5 9 ∷ between 5 9 ∷ between 2 9 ∷ between 2 9 ∷ []
unfolding joined empty_extent
joins = refl

-- the words of P8 to P12: their answer, and nothing from before the picture
abbrev reach : ℕ → Extent
reach w = reach_of Frame (surface 128 16) (record { column = 0; row = 0 }) w

reaches : map reach (0x00000000 ∷ 0x00000001 ∷ 0x00000002 ∷ 0x00000020 ∷ 0x0000ffff ∷ [])
    ≡ between 0 384 ∷ between 0 753 ∷ between 1 882 ∷ between 512 896 ∷ between 0 0 ∷ []
unfolding reach_of block_extent vector_of joined empty_extent address
reaches = refl

-- of fields: the first block of case 1 above from the second row of macroblocks, 16 half rows up, and nothing from one more; the bottom field's
-- from the first row
field_reaches : map (reach_of TopField (surface 128 32) (record { column = 0; row = 1 })) (0xfff00000 ∷ 0xffef0000 ∷ [])
    ++ map (reach_of BottomField (surface 128 32) (record { column = 0; row = 0 })) (0x00000000 ∷ 0xffff0000 ∷ [])
    ≡ between 0 4208 ∷ between 0 0 ∷ between 16 4224 ∷ between 0 0 ∷ []
unfolding reach_of block_extent vector_of joined empty_extent address
field_reaches = refl

-- f code 4 goes 128 half samples up and to the left: blocks of the first five rows of macroblocks can begin in row 0, those of the sixth in row 16
-- and those of the seventh in row 32, the first of the next row of tiles, or in chroma's first row if that is above; and likewise by columns,
-- where column 16 is in the next strip
floors : map (λ (row : ℕ). floor_of Frame (surface 128 112) 4 32640 row 32640) (0 ∷ 4 ∷ 5 ∷ 6 ∷ [])
    ++ map (λ (column : ℕ). floor_of Frame (surface 128 112) column 32640 5 32640) (5 ∷ 6 ∷ [])
    ++ (floor_of Frame (surface 128 20) 4 32640 6 32640 ∷ floor_of Frame (surface 15 112) 4 32640 6 32640 ∷ [])
    ≡ 0 ∷ 0 ∷ 256 ∷ 4096 ∷ 768 ∷ 1280 ∷ 320 ∷ 0 ∷ []
unfolding floor_of address
floors = refl

-- of fields 64 half rows up: blocks of the first five rows of macroblocks can begin in field row 0, those of the sixth in 8 and those of the
-- seventh in 16, so in rows 0, 16 and 32, or 1, 17 and 33 of the bottom field, or in chroma's first row
field_floors : map (λ (row : ℕ). floor_of TopField (surface 128 112) 4 32640 row 32704) (0 ∷ 4 ∷ 5 ∷ 6 ∷ [])
    ++ map (λ (row : ℕ). floor_of BottomField (surface 128 112) 4 32640 row 32704) (0 ∷ 4 ∷ 5 ∷ 6 ∷ [])
    ++ (floor_of BottomField (surface 128 20) 4 32640 6 32704 ∷ floor_of BottomField (surface 15 112) 4 32640 6 32704 ∷ [])
    ≡ 0 ∷ 0 ∷ 256 ∷ 4096 ∷ 16 ∷ 16 ∷ 272 ∷ 4112 ∷ 320 ∷ 0 ∷ []
unfolding floor_of address
field_floors = refl
