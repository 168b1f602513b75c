-- Lines of document 01's cases and of a B picture, computed from the definitions.
use mathlib.Core.Path.{◌≡◌, refl}
use mathlib.Core.List.{List, [], ◌∷◌, ◌++◌, map, flatten}
use Prim.Native.Nat.{ℕ}
use Prim.Native.String.{String}
use lib.ListN.{take, set, replicate}
use Rattle.fields.specs.Bytes.{bytes_of}
use Rattle.prediction.specs.Vectors.{vector_of}
use Rattle.prediction.specs.Ranges.{vector_in_range}
use Rattle.prediction.specs.Addresses.{address}
use Rattle.prediction.specs.Extents.{empty_extent, joined}
use Rattle.prediction.specs.Blocks.{block_at, block_extent}
use Rattle.prediction.specs.declared.Extent.{Extent}
use Rattle.headers.specs.Headers.{table, look_up, header_of}
use Rattle.macroblock.specs.Cases.{motion_of, case_of, vector_words}
use Rattle.macroblock.specs.Macroblocks.{macroblock_of}
use Rattle.macroblock.specs.Rules.{kept_by, field_rules, vector_rules, command_rules}
use Rattle.picture.specs.Surfaces.{surface_of, surface_rules}
use Rattle.picture.specs.Pictures.{picture_of, picture_rules}
use Rattle.progress.specs.Progress.{fresh}
use Rattle.placement.specs.Blocks.{forward_of, backward_of, bottom_of, predicted, blocks_of}
use Rattle.placement.specs.Placing.{allowed_in, placed_rules, macroblock_rules}
use Rattle.placement.specs.Progressing.{position_after, stage_after, extents_after, progress_after, macroblock_next}
use Rattle.sequence.specs.Sequence.{surface_next, picture_next, group_next, end_next}
use Rattle.sequence.specs.Judging.{rules_of, next_of, judge}
use Rattle.batch.specs.Batches.{b_picture}
use Rattle.batch.specs.Walk.{after, step}
use Rattle.batch.specs.Reports.{buffer_rules, measured, verdict_of, report}
use Rattle.std.specs.Prelude.{Ok}
use Rattle.input.specs.Text.{ascii, decimal}
use Rattle.input.specs.Line.{lengths_of, answer_to, input_report, text_of, input_line}
use Rattle.input.specs.Input.{output_line}

-- numbers as bytes, k to each, lowest first
abbrev bytes : ℕ → List ℕ → List ℕ
bytes k ns = flatten (map (bytes_of k) ns)

-- buffer 0's length stands first, and so it is printed
in_order : lengths_of (bytes 8 (1 ∷ 2 ∷ 3 ∷ 0xFFFFFFFFFFFFFFFF ∷ []))
    ≡ record { source = 1; reconstructed = 2; forward = 3; backward = 0xFFFFFFFFFFFFFFFF }
unfolding flatten
in_order = refl

abbrev extent : ℕ → ℕ → Extent
extent first end = record { first = first; end = end }

printed_in_order : text_of (Ok (record { extents = record { source = extent 0 1; reconstructed = extent 5 20; forward = extent 42 300; backward = extent 0xFFFFFFFFFFFFFFFE 0xFFFFFFFFFFFFFFFF } }))
    ≡ ascii "accept 1 20 300 18446744073709551615 0 5 42 18446744073709551614"
unfolding decimal
printed_in_order = refl

-- a text of two bytes stands first, and zeros behind it
zeros_behind : output_line (72 ∷ 10 ∷ []) ≡ record { bytes = 72 ∷ 10 ∷ replicate 254 0; len = 2 }
zeros_behind = refl

-- "P1, whole, 37 words in hex"
p1 : List ℕ
p1 =
    (0x70010004 ∷ 0 ∷ 0x003C00F0 ∷ 0x480003FB ∷ 0x10 ∷ 0 ∷ [])
    ++ (0x7300000B ∷ 0xFFFF3400 ∷ 0x200 ∷ replicate 10 0)
    ++ (0x73430006 ∷ replicate 7 0)
    ++ (0x73490007 ∷ 0x00003A00 ∷ 0 ∷ 0xFC0 ∷ 0xC5000001 ∷ replicate 4 0)
    ++ (0x05000000 ∷ [])

-- four lengths and words
abbrev input : List ℕ → List ℕ → List ℕ
input lengths words = bytes 8 lengths ++ bytes 4 words

abbrev enough : List ℕ
enough = 384 ∷ 384 ∷ 0 ∷ 0 ∷ []

record Case : Type 0 where
  given : List ℕ
  line : String

cases : List Case
cases =
    -- P1: document 02, "P1 becomes 384 384 0 0" (R-3), "P1: 0 0 0 0" (R-8)
    record { given = input enough p1; line = "accept 384 384 0 0 0 0 0 0\n" }
    -- P2: "buffer 1 at 2959: 13, place 1", "P2 uses 383", and what is needed
    ∷ record { given = input (384 ∷ 383 ∷ 0 ∷ 0 ∷ []) p1; line = "refuse 13 1 384 384 0 0 0 0 0 0\n" }
    -- P3: "empty: 1 at 0"
    ∷ record { given = input enough []; line = "refuse 1 0\n" }
    -- P6: "word 32 set to 1: 8 at 32"
    ∷ record { given = input enough (set p1 32 1); line = "refuse 8 32\n" }
    -- "16 fewer than 32 bytes before the batch: bytes read"
    ∷ record { given = []; line = "refuse 16 0\n" }
    ∷ record { given = take 31 (input enough p1); line = "refuse 16 31\n" }
    -- "One to three leftover bytes get 1, placed at the whole words, if nothing else was refused."
    ∷ record { given = input enough p1 ++ (0 ∷ []); line = "refuse 1 37\n" }
    ∷ record { given = input enough p1 ++ (0 ∷ 0 ∷ 0 ∷ []); line = "refuse 1 37\n" }
    ∷ record { given = input (383 ∷ 384 ∷ 0 ∷ 0 ∷ []) p1 ++ (0 ∷ []); line = "refuse 13 0 384 384 0 0 0 0 0 0\n" }
    ∷ record { given = input enough (0x05000000 ∷ []) ++ (0 ∷ []); line = "refuse 3 0\n" }
    -- First bytes that are no zeros: the B picture of `batch`, which works them out.
    ∷ record { given = input (9600 ∷ 9600 ∷ 9592 ∷ 9472 ∷ []) b_picture; line = "accept 9600 9600 9592 9472 0 0 231 15\n" }
    ∷ []

every_line : map (λ k. input_line k.given) cases ≡ map (λ k. ascii k.line) cases
unfolding flatten cases p1 b_picture input_line input_report answer_to decimal
    report verdict_of measured buffer_rules step after
    judge rules_of next_of surface_next picture_next group_next end_next
    macroblock_rules placed_rules macroblock_next progress_after extents_after stage_after position_after
    blocks_of predicted forward_of backward_of bottom_of allowed_in fresh
    surface_rules surface_of picture_rules picture_of
    header_of look_up table command_rules field_rules vector_rules kept_by macroblock_of case_of motion_of vector_words
    vector_of vector_in_range block_at block_extent joined empty_extent address
every_line = refl
