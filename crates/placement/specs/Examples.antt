-- Worked examples of MACROBLOCK commands in their pictures.
-- To be believed: numbers and places are document 01's own, touched bytes are reckoned by document 02's tiles (R-3).
use Rattle.std.specs.Prelude.{ℕ, Bool, true, false, List, [], ◌∷◌, ◌++◌}
use Rattle.prediction.specs.declared.Extent.{Extent}
use Rattle.answers.specs.Examples.{Example, keeping, breaking}
use Rattle.picture.specs.Pictures.{codes}
use Rattle.picture.specs.declared.Codes.{Codes}
use Rattle.picture.specs.declared.Frame.{Frame}
use Rattle.picture.specs.declared.Picture.{Picture}
use Rattle.progress.specs.declared.Extents.{Extents}
use Rattle.progress.specs.declared.Previous.{Previous}
use Rattle.progress.specs.declared.Progress.{Progress}
use Rattle.progress.specs.declared.Stage.{Stage}

-- A picture of 90 by 150 samples, so of 6 by 10 macroblocks, with pitch 256 and its chroma from row 160 on. The four f codes
-- of B differ: forward x from −16 to 15, forward y −32 to 31, backward x −64 to 63, backward y −128 to 127.
abbrev pub example_frame : Frame
example_frame = record { width = 90; height = 150; surface = record { pitch = 256; chroma_row = 160 } }

abbrev pub picture_with : Bool → ℕ → Codes → Codes → Picture
picture_with frames coding forward backward =
    record { coding = coding; forward = forward; backward = backward; grid = record { columns = 6; rows = 10 }; frame_pred_frame_dct = frames }

abbrev pub picture_i : Picture
picture_i = picture_with true 1 (codes 15 15) (codes 15 15)

abbrev pub picture_p : Picture
picture_p = picture_with true 2 (codes 1 2) (codes 15 15)

abbrev pub picture_b : Picture
picture_b = picture_with true 3 (codes 1 2) (codes 3 4)

-- The same pictures with bit 10 = 0. A field's forward y goes from −16 to 15.
abbrev fields_i : Picture
fields_i = picture_with false 1 (codes 15 15) (codes 15 15)

abbrev fields_p : Picture
fields_p = picture_with false 2 (codes 1 2) (codes 15 15)

abbrev fields_b : Picture
fields_b = picture_with false 3 (codes 1 2) (codes 3 4)

-- How far a batch has come behind its first SLICEGROUP: whether a group is open, whether SLICEGROUP came last, whether a slice is
-- open.
abbrev pub group_stage : Bool → Bool → Bool → Stage
group_stage group start slice =
    record {
      surfaced = true;
      pictured = true;
      grouped = true;
      in_group = group;
      group_start = start;
      in_slice = slice;
      ended = false;
    }

abbrev pub group_begins : Stage
group_begins = group_stage true true false

abbrev pub slice_open : Stage
slice_open = group_stage true false true

abbrev pub slice_closed : Stage
slice_closed = group_stage true false false

abbrev pub group_closed : Stage
group_closed = group_stage false false false

-- The macroblock before. None and an intra one are both of kind 0, with zero words.
abbrev pub was : ℕ → ℕ → ℕ → ℕ → ℕ → Previous
was kind five six seven eight = record { kind = kind; five = five; six = six; seven = seven; eight = eight }

abbrev pub was_none : Previous
was_none = was 0 0 0 0 0

-- The first byte that is touched so far of a buffer, and one more than the last: document 02's window (R-8). Where none is, both are 0.
abbrev pub window : ℕ → ℕ → Extent
window first end = record { first = first; end = end }

abbrev pub no_window : Extent
no_window = window 0 0

-- What is touched so far of buffers 0 to 3.
abbrev pub touched : Extent → Extent → Extent → Extent → Extents
touched a b c d = record { source = a; reconstructed = b; forward = c; backward = d }

abbrev pub none_touched : Extents
none_touched = touched no_window no_window no_window no_window

-- The next macroblock's place is this column and row; and nothing is touched yet.
abbrev pub progress_at : Picture → Stage → ℕ → ℕ → Previous → Extents → Progress
progress_at picture stage column row previous extents =
    record {
      stage = stage;
      frame = example_frame;
      picture = picture;
      position = record { column = column; row = row };
      previous = previous;
      extents = extents;
    }

abbrev pub untouched_at : Picture → Stage → ℕ → ℕ → Progress
untouched_at picture stage column row = progress_at picture stage column row was_none none_touched

-- In an open slice, at column 3 and row 5, and behind this macroblock.
abbrev mid_slice : Picture → Progress
mid_slice picture = untouched_at picture slice_open 3 5

abbrev following : Picture → Previous → Progress
following picture previous = progress_at picture slice_open 3 5 previous none_touched

-- A command by its words 1 to 4 and its vectors, and the vectors of type 1 or 2 and of type 3.
abbrev pub macroblock_words : ℕ → ℕ → ℕ → ℕ → List ℕ → List ℕ
macroblock_words one two three four vectors = 0x73490007 ∷ one ∷ two ∷ three ∷ four ∷ vectors

abbrev pub alike : ℕ → List ℕ
alike v = v ∷ v ∷ v ∷ v ∷ []

abbrev pub paired : ℕ → ℕ → List ℕ
paired f b = f ∷ b ∷ f ∷ b ∷ []

-- At column 3 and row 5: intra with this word 4, intra, and inter with this word 1, both with quantiser 1 and no flag.
abbrev pub intra_with : ℕ → List ℕ
intra_with four = macroblock_words 0x3A00 0x00050003 0xFC0 four (alike 0)

abbrev intra : List ℕ
intra = intra_with 1

abbrev inter : ℕ → List ℕ → List ℕ
inter one vectors = macroblock_words one 0x00050003 0 1 vectors

-- How far a batch has come, and the words of the command that comes next.
abbrev pub Judged : Type 0
Judged = Example (Progress × List ℕ)

-- "I allows intra only, P intra and 1, B all."
abbrev kind_examples : List Judged
kind_examples =
    keeping (mid_slice picture_i, intra)
    ∷ breaking 5 1 (mid_slice picture_i, inter 0x100 (alike 0))
    ∷ breaking 5 1 (mid_slice picture_i, inter 0x200 (alike 0))
    ∷ breaking 5 1 (mid_slice picture_i, inter 0x300 (alike 0))
    ∷ keeping (mid_slice picture_p, intra)
    ∷ keeping (mid_slice picture_p, inter 0x100 (alike 0))
    ∷ breaking 5 1 (mid_slice picture_p, inter 0x200 (alike 0))
    ∷ breaking 5 1 (mid_slice picture_p, inter 0x300 (alike 0))
    ∷ keeping (mid_slice picture_b, intra)
    ∷ keeping (mid_slice picture_b, inter 0x100 (alike 0))
    ∷ keeping (mid_slice picture_b, inter 0x200 (alike 0))
    ∷ keeping (mid_slice picture_b, inter 0x300 (alike 0))
    ∷ []

-- "MACROBLOCK only in an open group and before W×H of them have come": no group is open; the sixtieth, which is the last, and one
-- more.
abbrev sequence_examples : List Judged
sequence_examples =
    breaking 3 0 (untouched_at picture_i group_closed 3 5, intra_with 0x40000001)
    ∷ keeping (untouched_at picture_i slice_open 5 9, macroblock_words 0x3A00 0x00090005 0xFC0 0x80000001 (alike 0))
    ∷ breaking 3 0 (untouched_at picture_i slice_closed 0 10, macroblock_words 0x3A00 0x000A0000 0xFC0 0x40000001 (alike 0))
    ∷ []

-- "in P words 5 to 8 all zero": whatever came before; a vector; words 5, 6, 7 and 8 alone, which are then no copies (8).
abbrev skip_examples_p : List Judged
skip_examples_p =
    keeping (mid_slice picture_p, inter 0x104 (alike 0))
    ∷ keeping (following picture_p (was 1 7 7 7 7), inter 0x104 (alike 0))
    ∷ breaking 11 1 (following picture_p (was 1 7 7 7 7), inter 0x104 (alike 7))
    ∷ record { given = (mid_slice picture_p, inter 0x104 (7 ∷ 0 ∷ 0 ∷ 0 ∷ [])); breaks = (11, 1) ∷ (8, 6) ∷ (8, 7) ∷ (8, 8) ∷ [] }
    ∷ record { given = (mid_slice picture_p, inter 0x104 (0 ∷ 7 ∷ 0 ∷ 0 ∷ [])); breaks = (11, 1) ∷ (8, 6) ∷ [] }
    ∷ record { given = (mid_slice picture_p, inter 0x104 (0 ∷ 0 ∷ 7 ∷ 0 ∷ [])); breaks = (11, 1) ∷ (8, 7) ∷ [] }
    ∷ record { given = (mid_slice picture_p, inter 0x104 (0 ∷ 0 ∷ 0 ∷ 7 ∷ [])); breaks = (11, 1) ∷ (8, 8) ∷ [] }
    ∷ []

-- "in B the macroblock before it is inter with the same type and the same words 5 to 8": each type again; another type with the
-- same words; words 5, 6, 7 and 8 other than before; intra before it, also before an intra one, which is not skipped (5) and has a
-- pattern (5); none before it, where a slice should begin (7).
abbrev skip_examples_b : List Judged
skip_examples_b =
    keeping (following picture_b (was 1 7 7 7 7), inter 0x104 (alike 7))
    ∷ keeping (following picture_b (was 2 7 7 7 7), inter 0x204 (alike 7))
    ∷ keeping (following picture_b (was 3 7 9 7 9), inter 0x304 (paired 7 9))
    ∷ breaking 11 1 (following picture_b (was 2 7 7 7 7), inter 0x104 (alike 7))
    ∷ breaking 11 1 (following picture_b (was 3 7 7 7 7), inter 0x204 (alike 7))
    ∷ breaking 11 1 (following picture_b (was 1 7 7 7 7), inter 0x304 (paired 7 7))
    ∷ breaking 11 1 (following picture_b (was 1 6 7 7 7), inter 0x104 (alike 7))
    ∷ breaking 11 1 (following picture_b (was 1 7 6 7 7), inter 0x104 (alike 7))
    ∷ breaking 11 1 (following picture_b (was 1 7 7 6 7), inter 0x104 (alike 7))
    ∷ breaking 11 1 (following picture_b (was 1 7 7 7 6), inter 0x104 (alike 7))
    ∷ breaking 11 1 (mid_slice picture_b, inter 0x104 (alike 0))
    ∷ record { given = (mid_slice picture_b, inter 0x3A04 (alike 0)); breaks = (11, 1) ∷ (5, 1) ∷ (5, 3) ∷ [] }
    ∷ record { given = (untouched_at picture_b group_begins 0 0, macroblock_words 0x104 0 0 0x01000001 (alike 0)); breaks = (11, 1) ∷ (7, 4) ∷ [] }
    ∷ []

-- "The k-th macroblock, from 0, is at column k mod W, row k div W": a column and a row too many and too few, and both exchanged.
abbrev position_examples : List Judged
position_examples =
    breaking 6 2 (mid_slice picture_p, macroblock_words 0x100 0x00050004 0 1 (alike 0))
    ∷ breaking 6 2 (mid_slice picture_p, macroblock_words 0x100 0x00050002 0 1 (alike 0))
    ∷ breaking 6 2 (mid_slice picture_p, macroblock_words 0x100 0x00060003 0 1 (alike 0))
    ∷ breaking 6 2 (mid_slice picture_p, macroblock_words 0x100 0x00040003 0 1 (alike 0))
    ∷ breaking 6 2 (mid_slice picture_p, macroblock_words 0x100 0x00030005 0 1 (alike 0))
    ∷ []

-- "25 no skip conversion (zero in I)"
abbrev conversion_examples : List Judged
conversion_examples =
    breaking 5 4 (mid_slice picture_i, intra_with 0x02000001)
    ∷ keeping (mid_slice picture_p, intra_with 0x02000001)
    ∷ keeping (mid_slice picture_b, intra_with 0x02000001)
    ∷ []

-- "first-in-slice exactly when no slice is open; last-in-slice wherever the column is W−1", and elsewhere as one likes
abbrev slice_examples : List Judged
slice_examples =
    keeping (untouched_at picture_i slice_closed 3 5, intra_with 0x40000001)
    ∷ breaking 7 4 (untouched_at picture_i slice_closed 3 5, intra_with 1)
    ∷ breaking 7 4 (mid_slice picture_i, intra_with 0x40000001)
    ∷ keeping (mid_slice picture_i, intra_with 0x80000001)
    ∷ keeping (untouched_at picture_i slice_open 4 5, macroblock_words 0x3A00 0x00050004 0xFC0 1 (alike 0))
    ∷ breaking 7 4 (untouched_at picture_i slice_open 5 5, macroblock_words 0x3A00 0x00050005 0xFC0 1 (alike 0))
    ∷ keeping (untouched_at picture_i slice_open 5 5, macroblock_words 0x3A00 0x00050005 0xFC0 0x80000001 (alike 0))
    ∷ []

-- "first-in-group exactly on the first macroblock after SLICEGROUP; last-in-group only with last-in-slice"
abbrev group_examples : List Judged
group_examples =
    keeping (untouched_at picture_i group_begins 3 5, intra_with 0x41000001)
    ∷ breaking 7 4 (untouched_at picture_i group_begins 3 5, intra_with 0x40000001)
    ∷ breaking 7 4 (untouched_at picture_i slice_closed 3 5, intra_with 0x41000001)
    ∷ breaking 7 4 (mid_slice picture_i, intra_with 0x01000001)
    ∷ keeping (mid_slice picture_i, intra_with 0x84000001)
    ∷ breaking 7 4 (mid_slice picture_i, intra_with 0x04000001)
    ∷ []

-- "9 vector beyond f code", of x and of y: the forward vector at both ends of its range and beyond, the backward vector, and both.
abbrev range_examples : List Judged
range_examples =
    keeping (mid_slice picture_b, inter 0x100 (alike 0x001F000F))
    ∷ keeping (mid_slice picture_b, inter 0x100 (alike 0xFFE0FFF0))
    ∷ breaking 9 5 (mid_slice picture_b, inter 0x100 (alike 0x00000010))
    ∷ breaking 9 5 (mid_slice picture_b, inter 0x100 (alike 0x0000FFEF))
    ∷ breaking 9 5 (mid_slice picture_b, inter 0x100 (alike 0x00200000))
    ∷ breaking 9 5 (mid_slice picture_b, inter 0x100 (alike 0xFFDF0000))
    ∷ breaking 9 5 (mid_slice picture_p, inter 0x100 (alike 0x00000010))
    ∷ keeping (mid_slice picture_b, inter 0x200 (alike 0x007F003F))
    ∷ keeping (mid_slice picture_b, inter 0x200 (alike 0xFF80FFC0))
    ∷ breaking 9 6 (mid_slice picture_b, inter 0x200 (alike 0x00000040))
    ∷ breaking 9 6 (mid_slice picture_b, inter 0x200 (alike 0x0000FFBF))
    ∷ breaking 9 6 (mid_slice picture_b, inter 0x200 (alike 0x00800000))
    ∷ breaking 9 6 (mid_slice picture_b, inter 0x200 (alike 0xFF7F0000))
    ∷ keeping (mid_slice picture_b, inter 0x300 (paired 0x001F000F 0x007F003F))
    ∷ breaking 9 5 (mid_slice picture_b, inter 0x300 (paired 0x00000010 0x007F003F))
    ∷ breaking 9 5 (mid_slice picture_b, inter 0x300 (paired 0x00200000 0x007F003F))
    ∷ breaking 9 6 (mid_slice picture_b, inter 0x300 (paired 0x001F000F 0x00000040))
    ∷ breaking 9 6 (mid_slice picture_b, inter 0x300 (paired 0x001F000F 0x00800000))
    ∷ []

-- The first macroblock of the picture, and its last.
abbrev top_left : ℕ → List ℕ → Progress × List ℕ
top_left one vectors = (untouched_at picture_b group_begins 0 0, macroblock_words one 0 0 0x41000001 vectors)

abbrev bottom_right : ℕ → List ℕ → Progress × List ℕ
bottom_right one vectors = (untouched_at picture_b slice_open 5 9, macroblock_words one 0x00090005 0 0x84000001 vectors)

-- "10 luma block outside picture": half a sample to the left, above, to the right and below, and the furthest that is inside, from
-- the last column but one (row).
abbrev outside_examples : List Judged
outside_examples =
    keeping (top_left 0x300 (paired 0x00010001 0x00200020))
    ∷ breaking 10 5 (top_left 0x100 (alike 0x0000FFFF))
    ∷ breaking 10 5 (top_left 0x100 (alike 0xFFFF0000))
    ∷ breaking 10 6 (top_left 0x200 (alike 0x0000FFFF))
    ∷ breaking 10 6 (top_left 0x200 (alike 0xFFFF0000))
    ∷ keeping (bottom_right 0x300 (paired 0xFFFFFFFF 0xFFE0FFE0))
    ∷ breaking 10 5 (bottom_right 0x300 (paired 0x00000001 0))
    ∷ breaking 10 5 (bottom_right 0x300 (paired 0x00010000 0))
    ∷ breaking 10 6 (bottom_right 0x300 (paired 0 0x00000001))
    ∷ breaking 10 6 (bottom_right 0x300 (paired 0 0x00010000))
    ∷ keeping (untouched_at picture_b slice_open 4 8, macroblock_words 0x200 0x00080004 0 1 (alike 0x00200020))
    ∷ breaking 10 6 (untouched_at picture_b slice_open 4 8, macroblock_words 0x200 0x00080004 0 1 (alike 0x00200021))
    ∷ breaking 10 6 (untouched_at picture_b slice_open 4 8, macroblock_words 0x200 0x00080004 0 1 (alike 0x00210020))
    ∷ []

-- Type 04h at column 3 and row 5, with these vectors of the top and the bottom field, and of this word 4.
abbrev field_vectors : ℕ → ℕ → List ℕ
field_vectors top bottom = top ∷ top ∷ bottom ∷ top ∷ []

abbrev fields : ℕ → ℕ → List ℕ
fields top bottom = inter 0x4401 (field_vectors top bottom)

abbrev chosen : ℕ → List ℕ
chosen four = macroblock_words 0x4401 0x00050003 0 four (field_vectors 0x000F000F 0xFFF0FFF0)

-- Document 02: "type 04h is allowed in P with bit 14 = 1 and bits 1:0 = 1", where bit 10 is 0; "Intra, other types, and 04h where not allowed keep
-- bits 14 and 1:0 zero"; elsewhere 04h is no type (5), and in I there is none but intra (5).
abbrev field_kind_examples : List Judged
field_kind_examples =
    keeping (mid_slice fields_p, fields 0 0)
    ∷ keeping (mid_slice fields_p, inter 0x100 (alike 0))
    ∷ breaking 5 1 (mid_slice fields_p, inter 0x200 (alike 0))
    ∷ breaking 4 1 (mid_slice fields_p, inter 0x400 (alike 0))
    ∷ breaking 4 1 (mid_slice fields_p, inter 0x4100 (alike 0))
    ∷ breaking 5 1 (mid_slice picture_p, inter 0x400 (alike 0))
    ∷ record { given = (mid_slice picture_p, fields 0 0); breaks = (4, 1) ∷ (5, 1) ∷ [] }
    ∷ breaking 5 1 (mid_slice fields_b, inter 0x400 (alike 0))
    ∷ record { given = (mid_slice fields_b, fields 0 0); breaks = (4, 1) ∷ (5, 1) ∷ [] }
    ∷ record { given = (mid_slice fields_i, inter 0x400 (alike 0)); breaks = (5, 1) ∷ (5, 1) ∷ [] }
    ∷ record { given = (mid_slice fields_i, fields 0 0); breaks = (5, 1) ∷ (4, 1) ∷ (5, 1) ∷ [] }
    ∷ breaking 11 1 (mid_slice fields_p, inter 0x4405 (alike 0))
    ∷ []

-- "bit 15 (dct type) is free on macroblocks that are not skipped", in each type of picture with bit 10 = 0.
abbrev dct_examples : List Judged
dct_examples =
    keeping (mid_slice fields_i, macroblock_words 0xBA00 0x00050003 0xFC0 1 (alike 0))
    ∷ keeping (mid_slice fields_p, inter 0x8100 (alike 0))
    ∷ keeping (mid_slice fields_p, inter 0xC401 (alike 0))
    ∷ keeping (mid_slice fields_b, inter 0x8300 (alike 0))
    ∷ keeping (mid_slice fields_b, macroblock_words 0xBA00 0x00050003 0xFC0 1 (alike 0))
    ∷ breaking 4 1 (mid_slice fields_p, inter 0x8104 (alike 0))
    ∷ breaking 4 1 (following fields_b (was 1 7 7 7 7), inter 0x8104 (alike 7))
    ∷ breaking 4 1 (mid_slice picture_i, macroblock_words 0xBA00 0x00050003 0xFC0 1 (alike 0))
    ∷ breaking 4 1 (mid_slice picture_p, inter 0x8100 (alike 0))
    ∷ breaking 4 1 (mid_slice picture_b, inter 0x8300 (alike 0))
    ∷ []

-- "word 4 bits 16 and 18 choose the reference field for the two, 17 and 19 stay zero"; "word 4 bits 16 or 18 set on another type, give 4"
abbrev choice_examples : List Judged
choice_examples =
    keeping (mid_slice fields_p, chosen 0x10001)
    ∷ keeping (mid_slice fields_p, chosen 0x40001)
    ∷ keeping (mid_slice fields_p, chosen 0x50001)
    ∷ breaking 4 4 (mid_slice fields_p, chosen 0x20001)
    ∷ breaking 4 4 (mid_slice fields_p, chosen 0x80001)
    ∷ breaking 4 4 (mid_slice fields_p, macroblock_words 0x100 0x00050003 0 0x10001 (alike 0))
    ∷ breaking 4 4 (mid_slice fields_p, intra_with 0x40001)
    ∷ breaking 4 4 (mid_slice picture_p, intra_with 0x10001)
    ∷ []

-- "Vertical components keep half the f code's range"; "The range and inside tests report word 5 or 7"; "6 and 8 copy 5".
abbrev field_range_examples : List Judged
field_range_examples =
    keeping (mid_slice fields_p, fields 0x000F000F 0xFFF0FFF0)
    ∷ keeping (mid_slice fields_p, fields 0xFFF0FFF0 0x000F000F)
    ∷ breaking 9 5 (mid_slice fields_p, fields 0x00000010 0)
    ∷ breaking 9 5 (mid_slice fields_p, fields 0x00100000 0)
    ∷ breaking 9 5 (mid_slice fields_p, fields 0xFFEF0000 0)
    ∷ breaking 9 7 (mid_slice fields_p, fields 0 0x0000FFEF)
    ∷ breaking 9 7 (mid_slice fields_p, fields 0 0x00100000)
    ∷ breaking 9 7 (mid_slice fields_p, fields 0 0xFFEF0000)
    ∷ breaking 8 6 (mid_slice fields_p, inter 0x4401 (7 ∷ 0 ∷ 0 ∷ 7 ∷ []))
    ∷ breaking 8 8 (mid_slice fields_p, inter 0x4401 (7 ∷ 7 ∷ 9 ∷ 9 ∷ []))
    ∷ []

-- "inside 8H field rows": half a row above the first and below the last, and half a column to either side; the furthest that is inside from
-- the last row but one.
abbrev fields_top_left : ℕ → ℕ → Progress × List ℕ
fields_top_left top bottom = (untouched_at fields_p group_begins 0 0, macroblock_words 0x4401 0 0 0x41000001 (field_vectors top bottom))

abbrev fields_bottom_right : ℕ → ℕ → Progress × List ℕ
fields_bottom_right top bottom = (untouched_at fields_p slice_open 5 9, macroblock_words 0x4401 0x00090005 0 0x84000001 (field_vectors top bottom))

abbrev field_outside_examples : List Judged
field_outside_examples =
    keeping (fields_top_left 0x00010001 0x000F000F)
    ∷ breaking 10 5 (fields_top_left 0xFFFF0000 0)
    ∷ breaking 10 5 (fields_top_left 0x0000FFFF 0)
    ∷ breaking 10 7 (fields_top_left 0 0xFFFF0000)
    ∷ breaking 10 7 (fields_top_left 0 0x0000FFFF)
    ∷ keeping (fields_bottom_right 0xFFFFFFFF 0xFFF0FFF0)
    ∷ breaking 10 5 (fields_bottom_right 0x00010000 0)
    ∷ breaking 10 7 (fields_bottom_right 0 0x00010000)
    ∷ breaking 10 7 (fields_bottom_right 0 0x00000001)
    ∷ keeping (untouched_at fields_p slice_open 3 8, macroblock_words 0x4401 0x00080003 0 1 (field_vectors 0x000F0000 0x000F0000))
    ∷ []

-- The rules of a command alone are among those of its picture: a fixed bit of words 1, 3 and 4, a pattern, and an intra vector.
abbrev alone_examples : List Judged
alone_examples =
    breaking 4 1 (mid_slice picture_p, inter 0x101 (alike 0))
    ∷ breaking 4 3 (mid_slice picture_p, macroblock_words 0x100 0x00050003 1 1 (alike 0))
    ∷ breaking 5 3 (mid_slice picture_p, macroblock_words 0x3A00 0x00050003 0xF80 1 (alike 0))
    ∷ breaking 4 4 (mid_slice picture_p, intra_with 0x21)
    ∷ breaking 8 5 (mid_slice picture_p, macroblock_words 0x3A00 0x00050003 0xFC0 1 (7 ∷ 0 ∷ 0 ∷ 0 ∷ []))
    ∷ []

unfoldable pub placed_examples : List Judged
placed_examples =
    kind_examples
    ++ sequence_examples
    ++ skip_examples_p
    ++ skip_examples_b
    ++ position_examples
    ++ conversion_examples
    ++ slice_examples
    ++ group_examples
    ++ range_examples
    ++ outside_examples
    ++ field_kind_examples
    ++ dct_examples
    ++ choice_examples
    ++ field_range_examples
    ++ field_outside_examples
    ++ alone_examples

-- A command that is accepted, and how far the batch has come after it.
pub record Change : Type 0 where
  pub before : Progress
  pub words : List ℕ
  pub after : Progress

abbrev pub change : Progress → List ℕ → Progress → Change
change before words after = record { before = before; words = words; after = after }

-- The first byte of a block is its first luma sample: chroma has its own rows of tiles, behind those of luma.
--
-- The first macroblock of a group and of a slice, forward (2, 3): luma begins at column 1 and row 1, byte 16 + 1; chroma (1, 1) ends at
-- column 8 and row 8, Cr at byte 17 of row 168.
abbrev begun : Change
begun =
    change (untouched_at picture_b group_begins 0 0) (macroblock_words 0x100 0 0 0x41000001 (alike 0x00030002))
    (progress_at picture_b slice_open 1 0 (was 1 0x00030002 0x00030002 0x00030002 0x00030002) (touched (window 0 41088) (window 0 41088) (window 17 41602) no_window))

-- One inside a slice, forward (3, −5) and backward (−7, 11). Its own luma begins at byte 48 of row 80, 2·8192 + 3·512 + 16·16, and its Cr
-- ends at byte 63 of row 207, 6·8192 + 3·512 + 15·16 + 15; forward, chroma (1, −2), from byte 49 of row 77, 2·8192 + 3·512 + 13·16 + 1, to
-- byte 65 of row 206, 6·8192 + 4·512 + 14·16 + 1; backward, chroma (−3, 5), from byte 44 of row 85, 2·8192 + 2·512 + 21·16 + 12, to byte 61 of
-- row 210, 6·8192 + 3·512 + 18·16 + 13.
abbrev between_both : Change
between_both =
    change (mid_slice picture_b) (inter 0x300 (paired 0xFFFB0003 0x000BFFF9))
    (progress_at picture_b slice_open 4 5 (was 3 0xFFFB0003 0x000BFFF9 0xFFFB0003 0x000BFFF9) (touched (window 18176 50944) (window 18176 50944) (window 18129 51426) (window 17756 50990)))

-- A skipped one touches no less.
abbrev skipped : Change
skipped =
    change (mid_slice picture_p) (inter 0x104 (alike 0))
    (progress_at picture_p slice_open 4 5 (was 1 0 0 0 0) (touched (window 18176 50944) (window 18176 50944) (window 18176 50944) no_window))

-- Intra at the end of a row and of a slice: luma begins at byte 80 of row 80, 2·8192 + 5·512 + 16·16 = 19200, and Cr ends at byte 95 of row
-- 207, 6·8192 + 5·512 + 15·16 + 15 = 51967. What was touched before stays, its first byte where it is lower and its end where it is higher.
abbrev row_ends : Change
row_ends =
    change (progress_at picture_p slice_open 5 5 (was 1 7 7 7 7) (touched (window 19201 60000) (window 19199 51967) (window 6 7) (window 0 8)))
    (macroblock_words 0x3A00 0x00050005 0xFC0 0x80000001 (alike 0))
    (progress_at picture_p slice_closed 0 6 was_none (touched (window 19200 60000) (window 19199 51968) (window 6 7) (window 0 8)))

-- The last of the picture, of its slice and of its group, backward (−4, 0): its own luma begins at byte 80 of row 144, 4·8192 + 5·512 + 16·16,
-- and its Cr ends at byte 95 of row 239; backward, chroma (−2, 0), from byte 78 of row 144, 4·8192 + 4·512 + 16·16 + 14, to byte 93 of row 239.
abbrev picture_ends : Change
picture_ends =
    change (untouched_at picture_b slice_open 5 9) (macroblock_words 0x200 0x00090005 0 0x84000001 (alike 0x0000FFFC))
    (progress_at picture_b group_closed 0 10 (was 2 0x0000FFFC 0x0000FFFC 0x0000FFFC 0x0000FFFC) (touched (window 35584 60160) (window 35584 60160) no_window (window 35086 60158)))

-- Two fields: the top field's vector (3, −5) in the bottom field, luma from field row 37, so row 75, to 45, so row 91, and chroma (1, −2) from
-- field row 19, so row 160 + 39, to 22, so row 160 + 45; the bottom field's (−7, 11) in the top field, luma from field row 45, so row 90, to 53,
-- so row 106, and chroma (−3, 5) from field row 22, so row 160 + 44, to 26, so row 160 + 52. The first byte is 44 of row 90, 2·8192 + 2·512 +
-- 26·16 + 12, the last Cr's byte 65 of row 205, 6·8192 + 4·512 + 13·16 + 1.
abbrev from_fields : Change
from_fields =
    change (mid_slice fields_p) (macroblock_words 0x4401 0x00050003 0 0x10001 (field_vectors 0xFFFB0003 0x000BFFF9))
    (progress_at fields_p slice_open 4 5 (was 4 0xFFFB0003 0xFFFB0003 0x000BFFF9 0xFFFB0003) (touched (window 18176 50944) (window 18176 50944) (window 17836 51410) no_window))

unfoldable pub placed_changes : List Change
placed_changes = begun ∷ between_both ∷ skipped ∷ row_ends ∷ picture_ends ∷ from_fields ∷ []
