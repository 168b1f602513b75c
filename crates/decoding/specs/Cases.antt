-- Document 01's cases P1 to P13 and a picture with field prediction, and what is due to them from the check and from decoding.
-- To be believed: numbers, places, lengths, the record and P1's first bytes are the papers' own; the other first bytes are reckoned by
-- document 02's tiles (R-3), and the picture with field prediction by its R-6.
use Rattle.std.specs.Prelude.{ℕ, ◌+◌, ◌*◌, List, [], ◌∷◌, ◌++◌, take, set, replicate}
use Rattle.batch.specs.Batches.{BatchCase, batch_case, refused_case, four_lengths, four, zeros, shown, answered_to, due_to}
use Rattle.batch.specs.declared.Lengths.{Lengths}
use Rattle.decoding.specs.Logs.{decoded, decoded_log}

-- A batch with what the check is to say of it, and a lent log with what decoding into it is to say and leave: number and place (what
-- is reported is the check's), and the whole log afterwards.
pub record Case : Type 0 where
  pub batch : BatchCase
  pub lent : List ℕ
  pub number : ℕ
  pub place : ℕ
  pub afterwards : List ℕ

-- A log of one record and a byte beyond.
abbrev lent_log : List ℕ
lent_log = replicate 25 0xAA

-- "14 lent room too small: bytes or words needed"; "Decoding needs 24·W·H bytes". Where the papers give no record an empty log is
-- lent: it has no room for a picture of W 2, H 1.
abbrev accepted : List ℕ → Lengths → List ℕ → Case
accepted ws l r = record { batch = batch_case ws l 0 0 r; lent = []; number = 14; place = 48; afterwards = [] }

-- "No refusal writes into lent memory."
abbrev leaving : BatchCase → Case
leaving b = record { batch = b; lent = lent_log; number = b.number; place = b.place; afterwards = lent_log }

abbrev refused : List ℕ → Lengths → ℕ → ℕ → Case
refused ws l n at = leaving (refused_case ws l n at)

-- "P1, whole, 37 words in hex"
unfoldable pub p1 : List ℕ
p1 =
    (0x70010004 ∷ 0 ∷ 0x003C00F0 ∷ 0x480003FB ∷ 0x10 ∷ 0 ∷ [])
    ++ (0x7300000B ∷ 0xFFFF3400 ∷ 0x200 ∷ zeros 10)
    ++ (0x73430006 ∷ zeros 7)
    ++ (0x73490007 ∷ 0x00003A00 ∷ 0 ∷ 0xFC0 ∷ 0xC5000001 ∷ zeros 4)
    ++ (0x05000000 ∷ [])

-- "W 2, H 1, pitch 128, C 16, P picture, f code 3, column 0 forward, column 1 intra": the batch of an f code, which is both
-- forward codes, and a vector's word. Where this leaves open what stands: width 32, height 16, one slice, one group, quantiser 1,
-- and pattern 0 in column 0.
unfoldable pub moved : ℕ → ℕ → List ℕ
moved code v =
    (0x70010004 ∷ 0 ∷ 0x003C01F0 ∷ 0x480003FB ∷ 0x10 ∷ 0 ∷ [])
    ++ (0x7300000B ∷ (0xFF003400 + code * 0x00110000) ∷ 0x400 ∷ 1 ∷ zeros 9)
    ++ (0x73430006 ∷ zeros 7)
    ++ (0x73490007 ∷ 0x00000100 ∷ 0 ∷ 0 ∷ 0x41000001 ∷ v ∷ v ∷ v ∷ v ∷ [])
    ++ (0x73490007 ∷ 0x00003A00 ∷ 1 ∷ 0xFC0 ∷ 0x84000001 ∷ zeros 4)
    ++ (0x05000000 ∷ [])

-- P8 to P13 do not name the lengths of buffers 0 and 1. There the two macroblocks touch their own samples, of which Cr (15, 7) is
-- the highest byte: row 16 + 7, column 2·15 + 1, at 512 + 23·16 + 15 = 895. The lowest is luma (0, 0), at 0, and of a predicted
-- block its first luma sample: chroma begins in the same strip of 16 columns, in row 16. P12 and P13 name no place: it is word 5 of the first
-- macroblock, word 32.
unfoldable pub cases : List Case
cases =
    -- P1: "P1 becomes 384 384 0 0", and first bytes "P1: 0 0 0 0" (document 02). "Record: 8 zero bytes, 3F 00 00 01 0F, 11 zero bytes";
    -- "bytes beyond stay".
    record {
      batch = batch_case p1 (four_lengths 384 384 0 0) 0 0 (four 384 384 0 0 ++ four 0 0 0 0);
      lent = lent_log;
      number = 0;
      place = 0;
      afterwards = zeros 8 ++ (0x3F ∷ 0x00 ∷ 0x00 ∷ 0x01 ∷ 0x0F ∷ []) ++ zeros 11 ++ (0xAA ∷ []);
    }
    -- P2: "buffer 1 at 2959: 13, place 1"; document 02: "P2 uses 383"
    ∷ leaving (batch_case p1 (four_lengths 384 383 0 0) 13 1 (four 384 384 0 0 ++ four 0 0 0 0))
    -- P3: "empty: 1 at 0"
    ∷ refused [] (four_lengths 384 384 0 0) 1 0
    -- P4: "P1 without END: 1 at 36"
    ∷ refused (take 36 p1) (four_lengths 384 384 0 0) 1 36
    -- P5: "END alone: 3 at 0"
    ∷ refused (0x05000000 ∷ []) (four_lengths 384 384 0 0) 3 0
    -- P6: "word 32 set to 1: 8 at 32"
    ∷ refused (set p1 32 1) (four_lengths 384 384 0 0) 8 32
    -- P7: "word 31 C5000000: 5 at 31"
    ∷ refused (set p1 31 0xC5000000) (four_lengths 384 384 0 0) 5 31
    -- P8, (0,0): "P8 becomes 384"
    ∷ accepted (moved 3 0x00000000) (four_lengths 896 896 384 0) (four 896 896 384 0 ++ four 0 0 0 0)
    -- P9, (1,0): "P9 753". Luma (16, 15) is the highest byte: 512 + 15·16 = 752.
    ∷ accepted (moved 3 0x00000001) (four_lengths 896 896 753 0) (four 896 896 753 0 ++ four 0 0 0 0)
    -- P10, (2,0): "P10 882". Luma (1, 0) is the lowest byte.
    ∷ accepted (moved 3 0x00000002) (four_lengths 896 896 882 0) (four 896 896 882 0 ++ four 0 0 1 0)
    -- P11, (32,0): "P11 896". Luma (16, 0) is the lowest byte, at 512.
    ∷ accepted (moved 3 0x00000020) (four_lengths 896 896 896 0) (four 896 896 896 0 ++ four 0 0 512 0)
    -- P12: "(33,0), (−1,0) and (0,1): 10"
    ∷ refused (moved 3 0x00000021) (four_lengths 4000 4000 4000 4000) 10 32
    ∷ refused (moved 3 0x0000FFFF) (four_lengths 4000 4000 4000 4000) 10 32
    ∷ refused (moved 3 0x00010000) (four_lengths 4000 4000 4000 4000) 10 32
    -- P13: "f code 1: (15,0) passes, (16,0): 9". Chroma of 15 is 7: nine columns from 3 on, so Cr (11, 7) is the highest byte:
    -- row 23, column 23, at 512 + 23·16 + 7 = 887. Luma (7, 0) is the lowest.
    ∷ accepted (moved 1 0x0000000F) (four_lengths 896 896 888 0) (four 896 896 888 0 ++ four 0 0 7 0)
    ∷ refused (moved 1 0x00000010) (four_lengths 4000 4000 4000 4000) 9 32
    ∷ []

-- "PICTURE bit 10 may now be 0": the batch above with a field prediction (type 04h) in column 0, of word 4 and the two vectors' words, and a
-- field dct type in column 1.
unfoldable pub field_moved : ℕ → ℕ → ℕ → List ℕ
field_moved w4 top bottom =
    (0x70010004 ∷ 0 ∷ 0x003C01F0 ∷ 0x480003FB ∷ 0x10 ∷ 0 ∷ [])
    ++ (0x7300000B ∷ 0xFF333000 ∷ 0x400 ∷ 1 ∷ zeros 9)
    ++ (0x73430006 ∷ zeros 7)
    ++ (0x73490007 ∷ 0x00004401 ∷ 0 ∷ 0 ∷ w4 ∷ top ∷ top ∷ bottom ∷ top ∷ [])
    ++ (0x73490007 ∷ 0x0000BA00 ∷ 1 ∷ 0xFC0 ∷ 0x84000001 ∷ zeros 4)
    ++ (0x05000000 ∷ [])

-- Top field (2,0) from the bottom field: luma columns 1 to 16 of rows 1, 3 to 15, chroma columns 0 to 8 of rows 17, 19, 21, 23. Its lowest
-- byte is luma (1, 1), at 16 + 1 = 17, its highest Cr (8, 7): row 23, column 17, at 512 + 23·16 + 1 = 881. Bottom field (32,0) from the top
-- field: luma columns 16 to 31 of rows 0, 2 to 14, chroma columns 8 to 15 of rows 16, 18, 20, 22. Its lowest is luma (16, 0), at 512, its
-- highest Cr (15, 6): row 22, column 31, at 512 + 22·16 + 15 = 879. "The log has no room for bit 15 and type 04h before R-7": the first
-- record has kind 1 and the top field's vector, the second no dct type.
unfoldable pub field_pictures : List Case
field_pictures =
    record {
      batch = batch_case (field_moved 0x41010001 0x00000002 0x00000020) (four_lengths 896 896 882 0) 0 0 (four 896 896 882 0 ++ four 0 0 17 0);
      lent = replicate 49 0xAA;
      number = 0;
      place = 0;
      afterwards =
          zeros 6 ++ (1 ∷ 0 ∷ 0 ∷ 0 ∷ 0 ∷ 1 ∷ 0x05 ∷ 0 ∷ 0 ∷ 0 ∷ 2 ∷ []) ++ zeros 7
          ++ (1 ∷ []) ++ zeros 7 ++ (0x3F ∷ 0 ∷ 0 ∷ 1 ∷ 0x0A ∷ []) ++ zeros 11
          ++ (0xAA ∷ []);
    }
    -- the forward reference one byte short: 13, and nothing is written
    ∷ leaving (batch_case (field_moved 0x41010001 0x00000002 0x00000020) (four_lengths 896 896 881 0) 13 2 (four 896 896 882 0 ++ four 0 0 17 0))
    -- "04h where not allowed": with bit 10 = 1, 4 at word 1 of the first macroblock
    ∷ refused (set (field_moved 0x41010001 0x00000002 0x00000020) 7 0xFF333400) (four_lengths 896 896 896 896) 4 28
    ∷ []

-- What the definitions answer and what is due: of the check, of decoding, and the log afterwards.
abbrev pub answered : Case → List (List ℕ)
answered k =
    let b = k.batch in
    answered_to b ∷ shown (decoded b.lengths b.words k.lent) ∷ decoded_log b.lengths b.words k.lent ∷ []

abbrev pub expected : Case → List (List ℕ)
expected k = due_to k.batch ∷ (k.number ∷ k.place ∷ k.batch.reported) ∷ k.afterwards ∷ []
