-- Vectors judged by numbers that are made once for a line of blocks, a row or a column of macroblocks alike. They say nothing
-- new: the laws of proofs/LineLaws.antt give back the range of the f code, the inside test and the block's extent.
-- Proved: against the range, the inside test and the block, by `lines_exact`, `in_lines` and `above_floor` (proofs/LineLaws.antt).
use Rattle.std.specs.Prelude.{ℕ, ◌+◌, ◌-◌, ◌*◌, ◌/◌, ◌^◌, min, Bool, cond, ◌&&◌, ℤ, pos, ◌+ℤ◌, leb}
use Rattle.std.proofs.Math.IntN.{sub_ℕ}
use Rattle.std.specs.Int.Signed.{le_z}
use Rattle.prediction.specs.declared.Structure.{Structure}
use Rattle.prediction.specs.declared.Surface.{Surface}
use Rattle.prediction.specs.declared.Position.{Position}
use Rattle.prediction.specs.declared.Extent.{Extent}
use Rattle.prediction.specs.declared.Line.{Line}
use Rattle.prediction.specs.Vectors.{vector_of}
use Rattle.prediction.specs.Spans.{first_of}
use Rattle.prediction.specs.Extents.{empty_extent}
use Rattle.prediction.specs.Addresses.{luma, address}
use Rattle.prediction.specs.Structures.{columns_in, rows_in, row_of}
use Rattle.prediction.specs.Blocks.{block_extent}

-- The limit of an f code for blocks of a size (specs/Ranges.antt), at most 32768: no component of a word lies further from 0.
abbrev pub limit_of : ℕ → ℕ → ℕ
limit_of size c = min 32768 (size * 2 ^ (c - 1))

-- The line of n blocks of a size for f code c: components, counted from −32768, go from low to low + span, and the last
-- block's place is n − 1 (0 where there is none).
unfoldable pub line_of : ℕ → ℕ → ℕ → Line
line_of size n c = record { low = 32768 - limit_of size c; span = 2 * limit_of size c - 1; last = n - 1 }

-- The line of n rows of macroblocks in rows of a structure; that of columns is the frame's, as a frame's block has as many columns as rows.
unfoldable pub line_in : Structure → ℕ → ℕ → Line
line_in k n c = line_of (rows_in k luma) n c

-- Component v at a place of the line: v keeps the code's range, and the block starts no half sample before the first
-- block and none behind the last one's start. A sample has two half samples.
abbrev pub in_line : ℕ → Line → ℕ → ℤ → Bool
in_line size l place v =
    (le_z (sub_ℕ l.low 32768) v && le_z v (sub_ℕ (l.low + l.span) 32768))
    && (le_z (pos 0) (pos (2 * (size * place)) +ℤ v) && le_z (pos (2 * (size * place)) +ℤ v) (pos (2 * (size * l.last))))

-- The vector of a word at a column and a row.
unfoldable pub vector_in_lines : Structure → Line → Line → ℕ → ℕ → ℕ → Bool
vector_in_lines k x y column row w = in_line (columns_in luma) x column (vector_of w).x && in_line (rows_in k luma) y row (vector_of w).y

-- What the block touches that the word's vector displaces, where it starts in the picture; nothing where it starts before it.
unfoldable pub reach_of : Structure → Surface → Position → ℕ → Extent
reach_of k s at w =
    cond (le_z (pos 0) (first_of (columns_in luma) at.column (vector_of w).x) && le_z (pos 0) (first_of (rows_in k luma) at.row (vector_of w).y))
    (block_extent k s at (vector_of w))
    empty_extent

-- A byte before which no block of a macroblock at this column or further right begins, in its row, whose vector's x and y, counted from −32768, are
-- a and b or more: that of the first luma sample that such a block can have, or of the first chroma row. On a surface too narrow for a
-- strip it is 0.
unfoldable pub floor_of : Structure → Surface → ℕ → ℕ → ℕ → ℕ → ℕ
floor_of k s column a row b =
    cond (leb 16 s.pitch)
    (min (address s.pitch ((32 * column + a - 32768) / 2) (row_of k ((2 * (rows_in k luma * row) + b - 32768) / 2))) (address s.pitch 0 s.chroma_row))
    0
