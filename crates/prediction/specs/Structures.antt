-- Frames and fields: how many samples a block has, and where its rows stand in the frame.
-- To be believed: document 02's sizes and rows, R-6.
use Rattle.std.specs.Prelude.{ℕ, ◌+◌, ◌*◌}
use Rattle.prediction.specs.declared.Structure.{Structure}
use Rattle.prediction.specs.declared.Structure.TheVariants.{Frame, TopField, BottomField}
use Rattle.prediction.specs.Addresses.{Plane, luma, cb, cr}

-- Document 01: "touches its 16×16 luma and 8×8 chroma samples". Document 02, R-6: "a 16-column, 8-row field block", "chroma is 8 by 4".
abbrev pub columns_in : Plane → ℕ
columns_in luma = 16
columns_in cb = 8
columns_in cr = 8

-- The chroma rows of a block; luma has twice as many.
abbrev pub half_rows : Structure → ℕ
half_rows Frame = 8
half_rows TopField = 4
half_rows BottomField = 4

abbrev pub rows_in : Structure → Plane → ℕ
rows_in k luma = 2 * half_rows k
rows_in k cb = half_rows k
rows_in k cr = half_rows k

-- The row of the frame. "Reference row is twice the field row plus the chosen field": top is 0, bottom 1.
abbrev pub row_of : Structure → ℕ → ℕ
row_of Frame r = r
row_of TopField r = 2 * r
row_of BottomField r = 2 * r + 1
