-- Which bytes of the picture buffers a batch touches, from the list of commands that its words cut into.
-- To be believed: demand 3's samples. Nothing of the walk is in it.
use Rattle.std.specs.Prelude.{ℕ, ◌/◌, ◌%◌, ◌<◌, List, [], length, get_or}
use Rattle.prediction.specs.declared.Position.{Position}
use Rattle.macroblock.specs.Macroblocks.{macroblock_of}
use Rattle.progress.specs.Buffers.{Buffer}
use Rattle.placement.specs.Touching.{references_in, TouchedBy}
use Rattle.commands.specs.Commands.{commands_of, macroblocks_in, batch_frame, batch_picture}

-- Document 01: "The k-th macroblock, from 0, is at column k mod W, row k div W."
abbrev pub position_in : ℕ → ℕ → Position
position_in w k = record { column = k % w; row = k / w }

-- "A batch touches what its W·H macroblocks touch; the samples read or written in demand 3 are these and no others." Pitch and first
-- chroma row are those of the batch's SURFACE, W is that of its PICTURE, and the k-th MACROBLOCK command is read alone.
pub record Touched (ws : List ℕ) (b : Buffer) (byte : ℕ) : Type 0 where
  pub k : ℕ
  pub comes : k < length (macroblocks_in (commands_of ws))
  pub touches : TouchedBy (batch_frame ws).surface (position_in (batch_picture ws).grid.columns k) (references_in b (macroblock_of (get_or (macroblocks_in (commands_of ws)) k [])).case) byte
