-- Worked examples of commands in the sequence of a batch, by their headers.
-- To be believed: numbers and places are document 01's own, and of PICTURE's bit 10 and of type 04h document 02's (R-6).
use Rattle.std.specs.Prelude.{ℕ, Bool, true, false, List, [], ◌∷◌, replicate}
use Rattle.answers.specs.Examples.{keeping, breaking}
use Rattle.headers.specs.declared.Header.{Header}
use Rattle.headers.specs.declared.Header.TheVariants.{Known, Carried}
use Rattle.headers.specs.declared.Opcode.TheVariants.{Noop, End, Surface, Picture, SliceGroup, Macroblock}
use Rattle.picture.specs.Pictures.{codes}
use Rattle.progress.specs.Progress.{fresh}
use Rattle.progress.specs.declared.Extents.{Extents}
use Rattle.progress.specs.declared.Progress.{Progress}
use Rattle.progress.specs.declared.Stage.{Stage}
use Rattle.placement.specs.Examples.{picture_with, picture_b, group_begins, slice_open, slice_closed, group_closed, was, was_none, window, no_window, touched, progress_at, untouched_at, macroblock_words, alike, intra_with, Judged, Change, change}

-- How far a batch has come, in the picture of `placement`'s examples: which commands have come, where no group and no slice is open.
abbrev idle_stage : Bool → Bool → Bool → Bool → Stage
idle_stage surfaced pictured grouped ended =
    record {
      surfaced = surfaced;
      pictured = pictured;
      grouped = grouped;
      in_group = false;
      group_start = false;
      in_slice = false;
      ended = ended;
    }

-- No macroblock has come: before PICTURE, and behind it.
abbrev unpictured : Stage → Progress
unpictured s = untouched_at fresh.picture s 0 0

abbrev unbegun : Stage → Progress
unbegun s = untouched_at picture_b s 0 0

-- Nothing has come; SURFACE has; PICTURE has.
abbrev none_come : Progress
none_come = fresh

abbrev surface_come : Progress
surface_come = unpictured (idle_stage true false false false)

abbrev picture_come : Progress
picture_come = unbegun (idle_stage true true false false)

-- A P picture with bit 10 zero has come, and a SLICEGROUP behind it.
abbrev adaptive : Stage → Progress
adaptive s = untouched_at (picture_with false 2 (codes 1 2) (codes 15 15)) s 0 0

abbrev adaptive_picture_come : Progress
adaptive_picture_come = adaptive (idle_stage true true false false)

abbrev adaptive_group_come : Progress
adaptive_group_come = adaptive group_begins

-- Behind PICTURE: at a column and a row, after a forward macroblock.
abbrev touched_before : Extents
touched_before = touched (window 0 60160) (window 0 60160) (window 3 60161) no_window

abbrev come_to : Stage → ℕ → ℕ → Progress
come_to s column row = progress_at picture_b s column row (was 1 7 7 7 7) touched_before

-- SLICEGROUP has come; a group with an open slice, and between two slices; a group is closed in the middle of the picture; all have
-- come but the last, all with the group open, and all; END has come.
abbrev group_come : Progress
group_come = unbegun group_begins

abbrev midway : Progress
midway = come_to slice_open 3 5

abbrev between_slices : Progress
between_slices = come_to slice_closed 0 5

abbrev group_over : Progress
group_over = come_to group_closed 0 5

abbrev one_missing : Progress
one_missing = come_to group_closed 5 9

abbrev all_in_group : Progress
all_in_group = come_to slice_closed 0 10

abbrev all_come : Progress
all_come = come_to group_closed 0 10

abbrev end_come : Progress
end_come = come_to (idle_stage true true true true) 0 10

-- The commands: 90 by 150 samples, pitch 256, C 160; B, f codes 1, 2, 3 and 4, 6 by 10 macroblocks; SLICEGROUP and a carried command.
abbrev surface_words : List ℕ
surface_words = 0x70010004 ∷ 0 ∷ 0x02540590 ∷ 0x480007FB ∷ 0xA0 ∷ 0 ∷ []

abbrev picture_words : List ℕ
picture_words = 0x7300000B ∷ 0x43213400 ∷ 0x600 ∷ 0x00090005 ∷ replicate 9 0

-- .. P, with bit 10 zero.
abbrev adaptive_picture_words : List ℕ
adaptive_picture_words = 0x7300000B ∷ 0xFF213000 ∷ 0x400 ∷ 0x00090005 ∷ replicate 9 0

abbrev group_words : List ℕ
group_words = 0x73430006 ∷ replicate 7 0

abbrev carried_words : List ℕ
carried_words = 0x70000003 ∷ replicate 4 0xFFFFFFFF

-- The first macroblock of its group, of type 04h: the top field's vector (3, 5) and the bottom field's (2, 0), both in the reference's bottom
-- field.
abbrev field_words : List ℕ
field_words = macroblock_words 0x4401 0 0 0x41050001 (0x00050003 ∷ 0x00050003 ∷ 2 ∷ 0x00050003 ∷ [])

-- "NOOP may stand anywhere."
unfoldable pub noops : List Judged
noops =
    keeping (none_come, 0 ∷ [])
    ∷ keeping (surface_come, 0 ∷ [])
    ∷ keeping (group_come, 0 ∷ [])
    ∷ keeping (midway, 0 ∷ [])
    ∷ keeping (all_come, 0 ∷ [])
    ∷ []

-- "SURFACE once", and its rules: word 1, bit 3 of word 2, bit 2 of word 3, a pitch of 255, a bit above C.
unfoldable pub surfaces : List Judged
surfaces =
    keeping (none_come, surface_words)
    ∷ breaking 3 0 (surface_come, surface_words)
    ∷ breaking 3 0 (picture_come, surface_words)
    ∷ breaking 3 0 (all_come, surface_words)
    ∷ breaking 4 1 (none_come, 0x70010004 ∷ 1 ∷ 0x02540590 ∷ 0x480007FB ∷ 0xA0 ∷ 0 ∷ [])
    ∷ breaking 4 2 (none_come, 0x70010004 ∷ 0 ∷ 0x02540598 ∷ 0x480007FB ∷ 0xA0 ∷ 0 ∷ [])
    ∷ breaking 4 3 (none_come, 0x70010004 ∷ 0 ∷ 0x02540590 ∷ 0x480007FF ∷ 0xA0 ∷ 0 ∷ [])
    ∷ breaking 5 3 (none_come, 0x70010004 ∷ 0 ∷ 0x02540590 ∷ 0x480007F3 ∷ 0xA0 ∷ 0 ∷ [])
    ∷ breaking 4 4 (none_come, 0x70010004 ∷ 0 ∷ 0x02540590 ∷ 0x480007FB ∷ 0x80A0 ∷ 0 ∷ [])
    ∷ []

-- "PICTURE once, after it", and its rules: bit 9 of word 1, a type that is none, a column too many for the surface. Without a
-- surface no size fits (5). Document 02 (R-6): "PICTURE bit 10 may now be 0".
unfoldable pub pictures : List Judged
pictures =
    keeping (surface_come, picture_words)
    ∷ keeping (surface_come, adaptive_picture_words)
    ∷ record { given = (none_come, picture_words); breaks = (3, 0) ∷ (5, 3) ∷ [] }
    ∷ breaking 3 0 (unpictured (idle_stage false false false false), picture_words)
    ∷ breaking 3 0 (picture_come, picture_words)
    ∷ breaking 3 0 (picture_come, adaptive_picture_words)
    ∷ breaking 3 0 (adaptive_picture_come, picture_words)
    ∷ breaking 3 0 (all_come, picture_words)
    ∷ breaking 4 1 (surface_come, 0x7300000B ∷ 0x43213600 ∷ 0x600 ∷ 0x00090005 ∷ replicate 9 0)
    ∷ breaking 5 2 (surface_come, 0x7300000B ∷ 0x43213400 ∷ 0 ∷ 0x00090005 ∷ replicate 9 0)
    ∷ breaking 5 3 (surface_come, 0x7300000B ∷ 0x43213400 ∷ 0x600 ∷ 0x00090006 ∷ replicate 9 0)
    ∷ []

-- "SLICEGROUP only after PICTURE, with no group open and the picture unfinished"
unfoldable pub groups : List Judged
groups =
    breaking 3 0 (none_come, group_words)
    ∷ breaking 3 0 (surface_come, group_words)
    ∷ breaking 3 0 (unbegun (idle_stage true false false false), group_words)
    ∷ keeping (picture_come, group_words)
    ∷ keeping (adaptive_picture_come, group_words)
    ∷ breaking 3 0 (group_come, group_words)
    ∷ breaking 3 0 (midway, group_words)
    ∷ breaking 3 0 (between_slices, group_words)
    ∷ keeping (group_over, group_words)
    ∷ keeping (one_missing, group_words)
    ∷ breaking 3 0 (all_in_group, group_words)
    ∷ breaking 3 0 (all_come, group_words)
    ∷ []

-- "MACROBLOCK only in an open group and before W×H of them have come": in one; without the flags of one that has just begun (7); before
-- SURFACE, before the first SLICEGROUP and behind a closed group; one too many. Document 02 (R-6): "type 04h is allowed in P" behind a PICTURE
-- with bit 10 zero, and in sequence only; in B "Wrong bits .. 14 or 1:0, and word 4 bits 16 or 18 set" (4), and it is no type (5). The other
-- rules are `placement`'s.
unfoldable pub macroblocks : List Judged
macroblocks =
    keeping (midway, intra_with 1)
    ∷ breaking 7 4 (come_to group_begins 3 5, intra_with 1)
    ∷ breaking 3 0 (none_come, macroblock_words 0x3A00 0 0xFC0 0x40000001 (alike 0))
    ∷ breaking 3 0 (picture_come, macroblock_words 0x3A00 0 0xFC0 0x40000001 (alike 0))
    ∷ breaking 3 0 (come_to group_closed 3 5, intra_with 0x40000001)
    ∷ breaking 3 0 (all_in_group, macroblock_words 0x3A00 0x000A0000 0xFC0 0x40000001 (alike 0))
    ∷ keeping (adaptive_group_come, field_words)
    ∷ record { given = (adaptive_picture_come, field_words); breaks = (3, 0) ∷ (7, 4) ∷ [] }
    ∷ record { given = (group_come, field_words); breaks = (4, 1) ∷ (5, 1) ∷ (4, 4) ∷ [] }
    ∷ []

-- "carried commands only before the first SLICEGROUP", before SURFACE too
unfoldable pub carrieds : List Judged
carrieds =
    keeping (none_come, carried_words)
    ∷ keeping (surface_come, carried_words)
    ∷ keeping (picture_come, carried_words)
    ∷ breaking 3 0 (group_come, carried_words)
    ∷ breaking 3 0 (midway, carried_words)
    ∷ breaking 3 0 (group_over, carried_words)
    ∷ breaking 3 0 (all_come, carried_words)
    ∷ []

-- "END only with exactly W×H seen and no group open". Before PICTURE there is no W×H.
unfoldable pub ends : List Judged
ends =
    breaking 3 0 (none_come, 0x05000000 ∷ [])
    ∷ breaking 3 0 (surface_come, 0x05000000 ∷ [])
    ∷ breaking 3 0 (picture_come, 0x05000000 ∷ [])
    ∷ breaking 3 0 (midway, 0x05000000 ∷ [])
    ∷ breaking 3 0 (group_over, 0x05000000 ∷ [])
    ∷ breaking 3 0 (one_missing, 0x05000000 ∷ [])
    ∷ breaking 3 0 (all_in_group, 0x05000000 ∷ [])
    ∷ keeping (all_come, 0x05000000 ∷ [])
    ∷ []

-- "2 unknown header: header"
unfoldable pub unknowns : List Judged
unknowns = breaking 2 0 (none_come, 1 ∷ []) ∷ breaking 2 0 (midway, 0x73490006 ∷ []) ∷ breaking 2 0 (all_come, 0x05000001 ∷ []) ∷ []

-- The first macroblock has come, of type 04h. The bottom field's luma begins at column 1 and field row 0, row 1, byte 16 + 1; the top field's
-- chroma (1, 2) ends at column 8 and field row 4, row 160 + 9, Cr at byte 17 of it, 5·8192 + 512 + 9·16 + 1 = 41617.
abbrev fields_come : Progress
fields_come =
    progress_at adaptive_group_come.picture slice_open 1 0 (was 4 0x00050003 0x00050003 2 0x00050003)
    (touched (window 0 41088) (window 0 41088) (window 17 41618) no_window)

-- NOOP and carried commands change nothing; SURFACE, PICTURE and END what they say; SLICEGROUP opens a group, also a later one; a
-- macroblock moves on, here by an intra one at the end of a slice and of its group, and by one of type 04h.
unfoldable pub sequence_changes : List (Header × Change)
sequence_changes =
    (Known Noop 1, change none_come (0 ∷ []) none_come)
    ∷ (Known Noop 1, change midway (0 ∷ []) midway)
    ∷ (Carried 5, change none_come carried_words none_come)
    ∷ (Carried 5, change picture_come carried_words picture_come)
    ∷ (Known Surface 6, change none_come surface_words surface_come)
    ∷ (Known Picture 13, change surface_come picture_words picture_come)
    ∷ (Known Picture 13, change surface_come adaptive_picture_words adaptive_picture_come)
    ∷ (Known SliceGroup 8, change picture_come group_words group_come)
    ∷ (Known SliceGroup 8, change adaptive_picture_come group_words adaptive_group_come)
    ∷ (Known SliceGroup 8, change group_over group_words (come_to group_begins 0 5))
    ∷ (Known Macroblock 9, change midway (intra_with 0x84000001) (progress_at picture_b group_closed 4 5 was_none touched_before))
    ∷ (Known Macroblock 9, change adaptive_group_come field_words fields_come)
    ∷ (Known End 1, change all_come (0x05000000 ∷ []) end_come)
    ∷ []
