-- Whole batches beside document 01's P1 to P13, and what document 01 says of each.
-- To be believed: numbers, places, lengths and first bytes are worked out by hand from document 01 and from R-3, R-6 and R-8 of
-- document 02.
use Rattle.std.specs.Prelude.{ℕ, ◌+◌, List, [], ◌∷◌, ◌++◌, length, take, drop, set, replicate}
use Rattle.batch.specs.Reports.{report_number, report_place, reported_of, report, Report}
use Rattle.batch.specs.declared.Lengths.{Lengths}

-- Words beside four lengths, and what is due to them: number, place, and the four lengths and four first bytes reported.
pub record BatchCase : Type 0 where
  pub words : List ℕ
  pub lengths : Lengths
  pub number : ℕ
  pub place : ℕ
  pub reported : List ℕ

abbrev pub batch_case : List ℕ → Lengths → ℕ → ℕ → List ℕ → BatchCase
batch_case ws l n at r = record { words = ws; lengths = l; number = n; place = at; reported = r }

abbrev pub four_lengths : ℕ → ℕ → ℕ → ℕ → Lengths
four_lengths a b c d = record { source = a; reconstructed = b; forward = c; backward = d }

abbrev pub four : ℕ → ℕ → ℕ → ℕ → List ℕ
four a b c d = a ∷ b ∷ c ∷ d ∷ []

abbrev pub zeros : ℕ → List ℕ
zeros n = replicate n 0

-- "The four lengths are reported with 0, 13 and 14, else zeros."; "The first bytes are reported whenever the lengths are, else zeros".
abbrev pub refused_case : List ℕ → Lengths → ℕ → ℕ → BatchCase
refused_case ws l n at = batch_case ws l n at (zeros 8)

-- What the definitions answer to a case, and what is due.
abbrev pub shown : Report → List ℕ
shown r = report_number r ∷ report_place r ∷ reported_of r

abbrev pub answered_to : BatchCase → List ℕ
answered_to k = shown (report k.lengths k.words)

abbrev pub due_to : BatchCase → List ℕ
due_to k = k.number ∷ k.place ∷ k.reported

-- Words that nothing reads.
abbrev unread : ℕ → List ℕ
unread n = replicate n 0xFFFFFFFF

-- Width 41, height 20, pitch 256, C 40.
abbrev surface : List ℕ
surface = 0x70010004 ∷ 0 ∷ 0x004C0280 ∷ 0x480007FB ∷ 0x28 ∷ unread 1

-- W 3, H 2; words 1 and 2.
abbrev picture : ℕ → ℕ → List ℕ
picture w1 w2 = 0x7300000B ∷ w1 ∷ w2 ∷ 0x00010002 ∷ unread 9

abbrev group : List ℕ
group = 0x73430006 ∷ unread 7

-- Words 1 to 4, and words 5 to 8: all four equal, or both vectors.
abbrev macroblock : ℕ → ℕ → ℕ → ℕ → List ℕ → List ℕ
macroblock w1 w2 w3 w4 vectors = 0x73490007 ∷ w1 ∷ w2 ∷ w3 ∷ w4 ∷ vectors

abbrev alike : ℕ → List ℕ
alike v = four v v v v

abbrev both : ℕ → ℕ → List ℕ
both f b = four f b f b

abbrev intra : ℕ → ℕ → List ℕ
intra w2 w4 = macroblock 0x3A00 w2 0xFC0 w4 (alike 0)

abbrev noop : List ℕ
noop = 0 ∷ []

abbrev end : List ℕ
end = 0x05000000 ∷ []

-- Words with others put in at a place, and with others written over those from a place on.
abbrev inserted : List ℕ → ℕ → List ℕ → List ℕ
inserted ws at new = take at ws ++ new ++ drop at ws

abbrev written : List ℕ → ℕ → List ℕ → List ℕ
written ws at new = take at ws ++ new ++ drop (at + length new) ws

-- In the pictures below SURFACE begins at word 0, PICTURE at 6, SLICEGROUP at 19, the macroblocks at 27, 36, 45, 54, 63 and 72, END
-- at 81; they have 82 words, and each row is a slice. The pitch is 256 and all columns are below 128, so that a byte at column b, row r
-- is at (r div 32)·8192 + (b div 16)·512 + (r mod 32)·16 + b mod 16. Luma rows are below 32 and chroma rows begin at 40: the highest
-- byte of a block is its last Cr sample, and the lowest its first luma sample. Of all macroblocks' own samples these are Cr (23, 15), row
-- 55, column 47, at 8192 + 1024 + 368 + 15 = 9599, and luma (0, 0), at 0.
--
-- A B picture, f codes forward 1 (x) and 2 (y), backward 3 and 4: components from −16 to 15, −32 to 31, −64 to 63, −128 to 127.
unfoldable pub b_picture : List ℕ
b_picture =
    surface
    ++ picture 0x43213400 0x600
    ++ group
    -- (15, 31): chroma 7 and 15, columns 3 to 11, rows 7 to 15. Cr (11, 15): row 55, column 23, at 8192 + 512 + 368 + 7 = 9079. Luma
    -- (7, 15): at 240 + 7 = 247.
    ++ macroblock 0x12340100 0x00000000 0xFF100140 0x4900001F (alike 0x001F000F)
    -- (−20, 32): chroma −10 and 16, columns 3 to 10, rows 8 to 15. Cr (10, 15): row 55, column 21, at 8192 + 512 + 368 + 5 = 9077. Luma
    -- (6, 16): at 256 + 6 = 262.
    ++ macroblock 0x00000200 0x00000001 0x00000FC0 0x02000002 (alike 0x0020FFEC)
    -- (−5, 9): chroma −2 and 4, columns 15 to 22, rows 2 to 9. Cr (22, 9): row 49, column 45, at 8192 + 1024 + 272 + 13 = 9501. Luma
    -- (29, 4): at 512 + 64 + 13 = 589.
    -- (−63, 7): chroma −31 and 3, columns 0 to 8, rows 1 to 9. Cr (8, 9): row 49, column 17, at 8192 + 512 + 272 + 1 = 8977. Luma (0, 3):
    -- at 48.
    ++ macroblock 0x00000300 0x00000002 0x00000000 0x80000003 (both 0x0009FFFB 0x0007FFC1)
    -- As the next one, eight chroma columns further left. Luma (7, 14): at 224 + 7 = 231; backward (15, 0): at 15.
    ++ macroblock 0x00000300 0x00010000 0x00000040 0x40000004 (both 0xFFFD000F 0xFFE0001E)
    -- Skipped. (15, −3): chroma 7 and −1, columns 11 to 19, rows 7 to 15. Cr (19, 15): row 55, column 39, at
    -- 8192 + 1024 + 368 + 7 = 9591. Luma (23, 14): at 512 + 224 + 7 = 743.
    -- (30, −32): chroma 15 and −16, columns 15 to 23, rows 0 to 7. Cr (23, 7): row 47, column 47, at 8192 + 1024 + 240 + 15 = 9471. Luma
    -- (31, 0): at 512 + 15 = 527.
    ++ macroblock 0x00000304 0x00010001 0x00000000 0x00000005 (both 0xFFFD000F 0xFFE0001E)
    ++ intra 0x00010002 0x84000006
    ++ end

-- The same picture with NOOPs, carried commands before SURFACE and before SLICEGROUP, free and unread bits of PICTURE set, the first
-- macroblock a slice and a group of its own, and zero words behind END.
unfoldable pub b_picture_spread : List ℕ
b_picture_spread =
    (0x70000003 ∷ unread 4)
    ++ surface
    ++ noop
    ++ picture 0x4321FDC0 0xFFFFFFFF
    ++ (0x70040008 ∷ unread 9)
    ++ group
    ++ macroblock 0x12340100 0x00000000 0xFF100140 0xCD00001F (alike 0x001F000F)
    ++ noop
    ++ group
    ++ noop
    ++ macroblock 0x00000200 0x00000001 0x00000FC0 0x43000002 (alike 0x0020FFEC)
    ++ macroblock 0x00000300 0x00000002 0x00000000 0x80000003 (both 0x0009FFFB 0x0007FFC1)
    ++ macroblock 0x00000300 0x00010000 0x00000040 0x40000004 (both 0xFFFD000F 0xFFE0001E)
    ++ noop
    ++ macroblock 0x00000304 0x00010001 0x00000000 0x00000005 (both 0xFFFD000F 0xFFE0001E)
    ++ intra 0x00010002 0x84000006
    ++ end
    ++ zeros 2

-- A P picture, f codes forward 3 and 2. The highest byte of buffer 2 is that of the second skipped macroblock: Cr (15, 15), row 55,
-- column 31, at 8192 + 512 + 368 + 15 = 9087. The lowest is that of the first macroblock: luma (1, 0), at 1.
unfoldable pub p_picture : List ℕ
p_picture =
    surface
    ++ picture 0xFF233400 0x400
    ++ group
    -- (2, 0): chroma 1 and 0, Cr (8, 7); luma (1, 0).
    ++ macroblock 0x00000100 0x00000000 0x00000040 0x41000001 (alike 0x00000002)
    ++ macroblock 0x00000104 0x00000001 0x00000000 0x00000001 (alike 0)
    -- (−64, 4): chroma −32 and 2, Cr (7, 8); luma (0, 2).
    ++ macroblock 0x00000100 0x00000002 0x00000040 0x80000001 (alike 0x0004FFC0)
    -- (1, −1): chroma 0 and 0, Cr (7, 15); luma (0, 15).
    ++ macroblock 0x00000100 0x00010000 0x00000040 0x40000001 (alike 0xFFFF0001)
    ++ macroblock 0x00000104 0x00010001 0x00000000 0x00000001 (alike 0)
    ++ intra 0x00010002 0x84000001
    ++ end

unfoldable pub i_picture : List ℕ
i_picture =
    surface
    ++ picture 0xFFFF3400 0x200
    ++ group
    ++ intra 0x00000000 0x41000001
    ++ intra 0x00000001 0x00000001
    ++ intra 0x00000002 0x80000001
    ++ intra 0x00010000 0x40000001
    ++ intra 0x00010001 0x00000001
    ++ intra 0x00010002 0x84000001
    ++ end

-- Beside four lengths that are just long enough, and with four first bytes.
abbrev accepted : List ℕ → ℕ → ℕ → ℕ → ℕ → List ℕ → BatchCase
accepted ws a b c d firsts = batch_case ws (four_lengths a b c d) 0 0 (four a b c d ++ firsts)

abbrev refused : List ℕ → ℕ → ℕ → BatchCase
refused ws n at = refused_case ws (four_lengths 9600 9600 9600 9600) n at

-- "13 buffer too short: lowest such buffer"
abbrev short : Lengths → ℕ → BatchCase
short l at = batch_case b_picture l 13 at (four 9600 9600 9592 9472 ++ four 0 0 231 15)

unfoldable pub length_cases : List BatchCase
length_cases =
    accepted b_picture 9600 9600 9592 9472 (four 0 0 231 15)
    ∷ accepted b_picture_spread 9600 9600 9592 9472 (four 0 0 231 15)
    ∷ accepted p_picture 9600 9600 9088 0 (four 0 0 1 0)
    ∷ accepted i_picture 9600 9600 0 0 (four 0 0 0 0)
    ∷ short (four_lengths 9599 9599 9591 9471) 0
    ∷ short (four_lengths 9600 9599 9591 9471) 1
    ∷ short (four_lengths 9600 9600 9591 9471) 2
    ∷ short (four_lengths 9600 9600 9592 9471) 3
    ∷ []

-- "1 words run out in a command or before END: words given"; "2 unknown header: header"; "12 non-zero word after END: that word". 27
-- would need a list of 4294967296 words.
unfoldable pub walk_cases : List BatchCase
walk_cases =
    refused (take 7 b_picture) 1 7
    ∷ refused (take 40 b_picture) 1 40
    ∷ refused (take 81 b_picture) 1 81
    ∷ refused (zeros 2) 1 2
    ∷ refused (set b_picture 36 0x73490006) 2 36
    ∷ refused (set b_picture 81 0x05000001) 2 81
    ∷ refused (b_picture ++ (1 ∷ [])) 12 82
    ∷ refused (b_picture ++ zeros 2 ++ end) 12 84
    ∷ []

-- "3 out of sequence: header".
unfoldable pub sequence_cases : List BatchCase
sequence_cases =
    -- SURFACE twice
    refused (inserted b_picture 6 surface) 3 6
    -- PICTURE before SURFACE; PICTURE twice
    ∷ refused (noop ++ drop 6 b_picture) 3 1
    ∷ refused (inserted b_picture 19 (picture 0x43213400 0x600)) 3 19
    -- SLICEGROUP before PICTURE; in an open group, empty or not; after the last macroblock
    ∷ refused (inserted b_picture 6 group) 3 6
    ∷ refused (inserted b_picture 27 group) 3 27
    ∷ refused (inserted b_picture 54 group) 3 54
    ∷ refused (inserted b_picture 81 group) 3 81
    -- a carried command after the first SLICEGROUP; after the last group
    ∷ refused (inserted b_picture 27 (0x70000003 ∷ unread 4)) 3 27
    ∷ refused (inserted b_picture 81 (0x70080020 ∷ unread 33)) 3 81
    -- MACROBLOCK before the first group; between groups; after the last macroblock, in an open group
    ∷ refused (take 19 b_picture ++ drop 27 b_picture) 3 19
    ∷ refused (set b_picture 49 0x84000003) 3 54
    ∷ refused (inserted (set b_picture 76 0x80000006) 81 (intra 0x00020000 0xC4000001)) 3 81
    -- END in an open group; with no macroblock; with the first row alone
    ∷ refused (set b_picture 76 0x80000006) 3 81
    ∷ refused (take 19 b_picture ++ end) 3 19
    ∷ refused (take 54 (set b_picture 49 0x84000003) ++ end) 3 54
    ∷ []

-- "4 fixed bit wrong: word"; "5 field not permitted: word"; "6 wrong position: word 2"; "7 slice or group flag: word 4".
unfoldable pub field_cases : List BatchCase
field_cases =
    -- SURFACE word 1; PICTURE bit 9; MACROBLOCK bit 15
    refused (set b_picture 1 1) 4 1
    ∷ refused (set b_picture 7 0x43213600) 4 7
    ∷ refused (set b_picture 37 0x00008200) 4 37
    -- pitch 255; forward y code 0, "judged at word 2"; W 4
    ∷ refused (set b_picture 3 0x480007F3) 5 3
    ∷ refused (set b_picture 7 0x43013400) 5 8
    ∷ refused (set b_picture 9 0x00010003) 5 9
    -- type 1 in I; bit 25 in I; types 2 and 3 in P; intra with pattern 62
    ∷ refused (set i_picture 28 0x00000100) 5 28
    ∷ refused (set i_picture 31 0x43000001) 5 31
    ∷ refused (set p_picture 37 0x00000200) 5 37
    ∷ refused (set p_picture 37 0x00000300) 5 37
    ∷ refused (set b_picture 75 0x00000F80) 5 75
    -- another column; another row; row and column exchanged
    ∷ refused (set b_picture 65 0x00010002) 6 65
    ∷ refused (set b_picture 65 0x00000001) 6 65
    ∷ refused (set b_picture 56 0x00000001) 6 56
    -- first in an open slice; not first where none is open
    ∷ refused (set b_picture 40 0x42000002) 7 40
    ∷ refused (set b_picture 58 0x00000004) 7 58
    -- not last in slice in column W−1
    ∷ refused (set b_picture 49 0x00000003) 7 49
    -- not first in group after SLICEGROUP; first in group elsewhere
    ∷ refused (set b_picture 31 0x4800001F) 7 31
    ∷ refused (set b_picture 58 0x41000004) 7 58
    -- last in group and not last in slice
    ∷ refused (set b_picture 40 0x06000002) 7 40
    ∷ []

-- "8 missing vector not its copy: word"; "9 vector beyond f code: word 5 or 6"; "10 luma block outside picture: word 5 or 6".
unfoldable pub vector_cases : List BatchCase
vector_cases =
    -- forward: word 6; backward: word 5; both: word 8; intra: word 7
    refused (set b_picture 33 0x001F000E) 8 33
    ∷ refused (set b_picture 41 0) 8 41
    ∷ refused (set b_picture 53 0x0009FFFB) 8 53
    ∷ refused (set b_picture 79 1) 8 79
    -- forward (16, 31), columns 8 to 23; forward (15, 32), rows 16 to 31; backward (64, −32), columns 32 to 47: all inside
    ∷ refused (written b_picture 32 (alike 0x001F0010)) 9 32
    ∷ refused (written b_picture 32 (alike 0x0020000F)) 9 32
    ∷ refused (written b_picture 59 (both 0xFFFD000F 0xFFE00040)) 9 60
    -- backward (−20, 128), which lies outside too
    ∷ refused (written b_picture 41 (alike 0x0080FFEC)) 9 42
    -- forward (1, 9) and backward (1, 7), columns 32 to 48; backward (−20, 33), rows 16 to 32; backward (−33, 32), columns −1 to 15:
    -- all in their ranges
    ∷ refused (written b_picture 50 (both 0x00090001 0x0007FFC1)) 10 50
    ∷ refused (written b_picture 50 (both 0x0009FFFB 0x00070001)) 10 51
    ∷ refused (written b_picture 41 (alike 0x0021FFEC)) 10 42
    ∷ refused (written b_picture 41 (alike 0x0020FFDF)) 10 42
    ∷ []

-- "11 skip rule: word 1".
unfoldable pub skip_cases : List BatchCase
skip_cases =
    -- first in a slice that begins with it; last in a slice that ends with it; pattern 1
    refused (set (set b_picture 58 0xC0000004) 67 0x40000005) 11 64
    ∷ refused (set (set b_picture 67 0x80000005) 76 0xC4000006) 11 64
    ∷ refused (set b_picture 66 0x00000040) 11 64
    -- in P: the vector of the one before it; word 8 alone not zero
    ∷ refused (written p_picture 41 (alike 0x00000002)) 11 37
    ∷ refused (set p_picture 44 0x00000002) 11 37
    -- in B: behind an intra one, all words zero; type 1 behind type 3, the same words
    ∷ refused (written b_picture 54 (intra 0x00010000 0x40000004 ++ macroblock 0x00000104 0x00010001 0 5 (alike 0))) 11 64
    ∷ refused (set (written (written b_picture 59 (alike 0xFFFD000F)) 68 (alike 0xFFFD000F)) 64 0x00000104) 11 64
    -- in B: other words 5 and 7; other words 6 and 8
    ∷ refused (written b_picture 68 (both 0xFFFD000E 0xFFE0001E)) 11 64
    ∷ refused (written b_picture 68 (both 0xFFFD000F 0xFFE0001C)) 11 64
    ∷ []

-- "Commands in order; in each 2, then 1, then 3, then words upwards, and in a word the smaller number first."; "13 comes after the
-- whole batch".
unfoldable pub order_cases : List BatchCase
order_cases =
    -- quantiser 0, then no header; position, then a copy; a skipped pattern, then the position
    refused (set (set b_picture 31 0x49000000) 36 1) 5 31
    ∷ refused (set (set b_picture 38 0) 44 0) 6 38
    ∷ refused (set (set b_picture 66 0x00000040) 65 0) 11 64
    -- 4 and 5: bit 15, type 0; 5 and 11: a skipped intra one, last in slice; 5 and 7: quantiser 0, no flag; 9 and 10: (0, 64)
    ∷ refused (set b_picture 28 0x12348000) 4 28
    ∷ refused (set b_picture 73 0x00003A04) 5 73
    ∷ refused (set b_picture 31 0) 5 31
    ∷ refused (written b_picture 32 (alike 0x00400000)) 9 32
    -- 2 before 1: no header as the last word; 1 before 3: a macroblock before SLICEGROUP, cut short; 3 before 4: a second SURFACE,
    -- word 1 not zero
    ∷ refused (take 36 b_picture ++ (1 ∷ [])) 2 36
    ∷ refused (take 19 b_picture ++ take 5 (drop 27 b_picture)) 1 24
    ∷ refused (inserted b_picture 6 (set surface 1 1)) 3 6
    -- and buffers too short
    ∷ refused_case (take 81 b_picture) (four_lengths 0 0 0 0) 1 81
    ∷ refused_case (set b_picture 40 0x06000002) (four_lengths 0 0 0 0) 7 40
    ∷ refused_case (b_picture ++ (1 ∷ [])) (four_lengths 0 0 0 0) 12 82
    ∷ []

-- A P picture with bit 10 = 0, W 1, H 2, pitch 128 and C 32: it has 46 words, its macroblocks begin at 27 and 36, END at 45. Forward f codes 1
-- and 2: a field's vector from −16 to 15 both ways. A byte b, row r is at (r div 32)·4096 + (r mod 32)·16 + b. Own samples end with Cr (7, 15),
-- row 47, byte 15, at 4096 + 240 + 15 = 4351.
unfoldable pub adaptive_picture : List ℕ
adaptive_picture =
    (0x70010004 ∷ 0 ∷ 0x007C00F0 ∷ 0x480003FB ∷ 0x20 ∷ unread 1)
    ++ (0x7300000B ∷ 0xFF213000 ∷ 0x400 ∷ 0x00010000 ∷ unread 9)
    ++ group
    -- Intra, with dct type 1.
    ++ macroblock 0xBA00 0x00000000 0xFC0 0xC1000001 (alike 0)
    -- Type 04h. The top field's vector (0, −5): luma from field row 8 − 3 = 5 to 13, chroma −2, from field row 4 − 1 = 3 to 6. The bottom field's
    -- (0, −16): luma from field row 0 to 7, chroma −8, from 0 to 3. Both are predicted from the reference's bottom field. The lowest byte is the
    -- bottom field's, luma row 2·0 + 1, at 16; the highest is the top field's, Cr row 32 + 2·6 + 1 = 45, at 4096 + 208 + 15 = 4319.
    ++ macroblock 0x4401 0x00010000 0 0xC4050001 (four 0xFFFB0000 0xFFFB0000 0xFFF00000 0xFFFB0000)
    ++ end

-- .. with this word 1 or 4 of its second macroblock, or with these words 5 to 8; behind PICTURE words 1 and 2, and its intra one with dct type 0.
abbrev with_type : ℕ → List ℕ
with_type w1 = set adaptive_picture 37 w1

abbrev with_choices : ℕ → List ℕ
with_choices w4 = set adaptive_picture 40 w4

abbrev with_fields : ℕ → ℕ → List ℕ
with_fields top bottom = written adaptive_picture 41 (four top top bottom top)

abbrev behind_picture : ℕ → ℕ → ℕ → List ℕ
behind_picture w1 w2 type = set (set (written adaptive_picture 7 (w1 ∷ w2 ∷ [])) 28 0x3A00) 37 type

-- The four choices. From the top field the lowest byte is of row 2·0, at 0, and the highest of Cr row 32 + 2·6 = 44, at 4096 + 192 + 15 = 4303.
-- Bit 16 is the top field's choice, so the length's; bit 18 the bottom field's, so the first byte's.
unfoldable pub adaptive_cases : List BatchCase
adaptive_cases =
    accepted adaptive_picture 4352 4352 4320 0 (four 0 0 16 0)
    ∷ accepted (with_choices 0xC4010001) 4352 4352 4320 0 (four 0 0 0 0)
    ∷ accepted (with_choices 0xC4040001) 4352 4352 4304 0 (four 0 0 16 0)
    ∷ accepted (with_choices 0xC4000001) 4352 4352 4304 0 (four 0 0 0 0)
    ∷ batch_case adaptive_picture (four_lengths 4352 4352 4319 0) 13 2 (four 4352 4352 4320 0 ++ four 0 0 16 0)
    -- type 1 with (0, −16): luma from row 8, at 128, chroma −8, Cr (7, 11), row 43, at 4096 + 176 + 15 = 4287
    ∷ accepted (set (written (with_type 0x100) 40 (0xC4000001 ∷ alike 0xFFF00000)) 28 0x3A00) 4352 4352 4288 0 (four 0 0 128 0)
    -- dct type 1 with 04h, in I, and with each type in B: nothing is touched otherwise
    ∷ accepted (with_type 0xC401) 4352 4352 4320 0 (four 0 0 16 0)
    ∷ accepted (set (set (set i_picture 7 0xFFFF3000) 28 0xBA00) 73 0xBA00) 9600 9600 0 0 (four 0 0 0 0)
    ∷ accepted (set (set (set (set (set b_picture 7 0x43213000) 28 0x12348100) 37 0x8200) 46 0x8300) 73 0xBA00) 9600 9600 9592 9472 (four 0 0 231 15)
    -- 04h as the first macroblock of the P picture. The top field's vector (2, 0) in the bottom field: luma (1, 1), at 16 + 1. The bottom
    -- field's (63, 15) in the top field, as far as it goes: chroma 31 and 7, columns 15 to 23, field rows 3 to 7; Cr (23, 7), row 40 + 14 = 54,
    -- column 47, at 8192 + 1024 + 352 + 15 = 9583.
    ∷ accepted (written (set p_picture 7 0xFF233000) 28 (0x4401 ∷ 0 ∷ 0x40 ∷ 0x41010001 ∷ four 2 2 0x000F003F 2)) 9600 9600 9584 0 (four 0 0 17 0)
    ∷ []

-- Document 02 (R-6): "The range and inside tests report word 5 or 7"; "Intra, other types, and 04h where not allowed keep bits 14 and 1:0 zero.
-- Wrong bits 15, 14 or 1:0, and word 4 bits 16 or 18 set on another type, give 4; a skipped type 04h gives 11".
unfoldable pub adaptive_refusals : List BatchCase
adaptive_refusals =
    -- the bottom field's vector (0, 1), field rows 8 to 16, and (1, −16), columns 0 to 16; the top field's (0, 1)
    refused (with_fields 0xFFFB0000 0x00010000) 10 43
    ∷ refused (with_fields 0xFFFB0000 0xFFF00001) 10 43
    ∷ refused (with_fields 0x00010000 0xFFF00000) 10 41
    -- forward y code 1, and so from −8 to 7: the bottom field's vector (0, −16), and the top field's (0, −9), both inside
    ∷ refused (set adaptive_picture 7 0xFF113000) 9 43
    ∷ refused (set (with_fields 0xFFF70000 0xFFF80000) 7 0xFF113000) 9 41
    -- beyond and outside: (0, −17), (0, 16)
    ∷ refused (with_fields 0xFFFB0000 0xFFEF0000) 9 43
    ∷ refused (with_fields 0x00100000 0xFFF00000) 9 41
    -- "6 and 8 copy 5": the bottom field's vector in word 6, in word 8
    ∷ refused (set adaptive_picture 42 0xFFF00000) 8 42
    ∷ refused (set adaptive_picture 44 0xFFF00000) 8 44
    -- 04h in B, in I and with bit 10 = 1: its bits 14 and 1:0, and without them
    ∷ refused (behind_picture 0x43213000 0x600 0x4401) 4 37
    ∷ refused (behind_picture 0x43213000 0x600 0x400) 5 37
    ∷ refused (behind_picture 0xFFFF3000 0x200 0x4401) 4 37
    ∷ refused (behind_picture 0xFFFF3000 0x200 0x400) 5 37
    ∷ refused (behind_picture 0xFF213400 0x400 0x4401) 4 37
    ∷ refused (behind_picture 0xFF213400 0x400 0x400) 5 37
    -- bit 14 alone, bits 1:0 alone, bits 1:0 = 3, and neither; both on type 1
    ∷ refused (with_type 0x4400) 4 37
    ∷ refused (with_type 0x401) 4 37
    ∷ refused (with_type 0x4403) 4 37
    ∷ refused (with_type 0x400) 4 37
    ∷ refused (with_type 0x4101) 4 37
    -- bit 15 with bit 10 = 1, on an intra one; on a skipped one
    ∷ refused (set adaptive_picture 7 0xFF213400) 4 28
    ∷ refused (set (set p_picture 7 0xFF233000) 37 0x8104) 4 37
    -- bits 16 and 18 of word 4 on an intra macroblock and on type 1; bits 17 and 19
    ∷ refused (set adaptive_picture 31 0xC1010001) 4 31
    ∷ refused (set adaptive_picture 31 0xC1040001) 4 31
    ∷ refused (written (with_type 0x100) 40 (0xC4010001 ∷ alike 0)) 4 40
    ∷ refused (written (with_type 0x100) 40 (0xC4040001 ∷ alike 0)) 4 40
    ∷ refused (with_choices 0xC4020001) 4 40
    ∷ refused (with_choices 0xC4080001) 4 40
    -- a skipped 04h that would keep the other skip rules
    ∷ refused (set (set p_picture 7 0xFF233000) 37 0x4405) 11 37
    ∷ []

unfoldable pub batches : List BatchCase
batches =
    length_cases
    ++ walk_cases
    ++ sequence_cases
    ++ field_cases
    ++ vector_cases
    ++ skip_cases
    ++ order_cases
    ++ adaptive_cases
    ++ adaptive_refusals
