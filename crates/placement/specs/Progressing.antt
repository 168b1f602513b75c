-- How far a batch has come after a MACROBLOCK command.
-- To be believed: what opens and closes groups and slices. The position is proved to be k mod W, k div W, by `position_of`
-- (proofs/PositionLaws.antt).
use Rattle.std.specs.Prelude.{ℕ, ◌+◌, ◌*◌, ◌<◌, false, cond, not, List, ltb, ◌⊎◌, ◌≡◌}
use Rattle.prediction.specs.Extents.{joined}
use Rattle.prediction.specs.declared.Grid.{Grid}
use Rattle.prediction.specs.declared.Position.{Position}
use Rattle.macroblock.specs.Cases.{motion_of}
use Rattle.headers.specs.Words.{word_at}
use Rattle.macroblock.specs.Macroblocks.{macroblock_of}
use Rattle.macroblock.specs.declared.Flags.{Flags}
use Rattle.macroblock.specs.declared.Macroblock.{Macroblock}
use Rattle.progress.specs.declared.Extents.{Extents}
use Rattle.progress.specs.declared.Previous.{Previous}
use Rattle.progress.specs.declared.Progress.{Progress}
use Rattle.progress.specs.declared.Stage.{Stage}
use Rattle.placement.specs.Blocks.{blocks_of}
use Rattle.placement.specs.declared.Blocks.{Blocks}

-- The position after a position: the next column, or the first of the next row. Behind the last row there is none.
unfoldable pub position_after : Grid → Position → Position
position_after g at =
    cond (ltb at.row g.rows)
    (cond (ltb (at.column + 1) g.columns)
    (record { column = at.column + 1; row = at.row })
    (record { column = 0; row = at.row + 1 }))
    at

-- How many macroblocks come before a position, in a picture of w columns.
abbrev pub count_before : ℕ → Position → ℕ
count_before w at = at.row * w + at.column

-- Document 01: "SLICEGROUP opens a group and LastMbInSG closes it." A slice likewise ends with its last macroblock.
unfoldable pub stage_after : Stage → Flags → Stage
stage_after s f =
    record {
      surfaced = s.surfaced;
      pictured = s.pictured;
      grouped = s.grouped;
      in_group = not f.last_in_group;
      group_start = false;
      in_slice = not f.last_in_slice;
      ended = s.ended;
    }

abbrev pub previous_of : ℕ → List ℕ → Previous
previous_of k ws = record { kind = k; five = word_at ws 5; six = word_at ws 6; seven = word_at ws 7; eight = word_at ws 8 }

-- "touches its 16×16 luma and 8×8 chroma samples in buffers 0 and 1, and its predicted blocks in 2 (forward) and 3 (backward)"
unfoldable pub extents_after : Extents → Blocks → Extents
extents_after e b =
    record {
      source = joined e.source b.own;
      reconstructed = joined e.reconstructed b.own;
      forward = joined (joined e.forward b.forward.extent) b.bottom.extent;
      backward = joined e.backward b.backward.extent;
    }

unfoldable pub progress_after : Progress → Blocks → Macroblock → List ℕ → Progress
progress_after p b m ws =
    record {
      stage = stage_after p.stage m.flags;
      frame = p.frame;
      picture = p.picture;
      position = position_after p.picture.grid p.position;
      previous = previous_of (motion_of m.case).kind ws;
      extents = extents_after p.extents b;
    }

unfoldable pub macroblock_next : Progress → List ℕ → Progress
macroblock_next p ws = progress_after p (blocks_of p (macroblock_of ws).case) (macroblock_of ws) ws

-- A position of a picture, or the one after all of them: the first of the row behind the last.
abbrev pub Reached : Grid → Position → Type 0
Reached g at = (at.row < g.rows) ⊎ ((at.row ≡ g.rows) × (at.column ≡ 0))
