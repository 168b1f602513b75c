-- What a macroblock touches. Prediction is used through what its crate promises: `vector_in_range`, `block_at` and laws about them.
-- To be believed: which vector belongs to which reference. What is touched is proved against samples, by `next_exact` (proofs/TouchLaws.antt).
use Rattle.std.specs.Prelude.{ℕ, Bool, true, false, cond, Some, None, Option}
use Rattle.prediction.specs.declared.Vector.{Vector}
use Rattle.answers.specs.Answers.{Accepted, refused, Answer}
use Rattle.prediction.specs.Vectors.{still}
use Rattle.prediction.specs.Ranges.{vector_in_range}
use Rattle.prediction.specs.Extents.{empty_extent}
use Rattle.prediction.specs.Blocks.{block_at}
use Rattle.prediction.specs.declared.Extent.{Extent}
use Rattle.prediction.specs.declared.Grid.{Grid}
use Rattle.prediction.specs.declared.Position.{Position}
use Rattle.prediction.specs.declared.Surface.{Surface}
use Rattle.prediction.specs.declared.Structure.{Structure}
use Rattle.prediction.specs.declared.Structure.TheVariants.{Frame, TopField, BottomField}
use Rattle.macroblock.specs.declared.Case.{Case}
use Rattle.macroblock.specs.declared.Case.TheVariants.{Intra, Inter}
use Rattle.macroblock.specs.declared.Prediction.TheVariants.{Forward, Backward, Both, Field}
use Rattle.picture.specs.declared.Codes.{Codes}
use Rattle.progress.specs.declared.Progress.{Progress}
use Rattle.placement.specs.declared.Blocks.{Blocks}
use Rattle.placement.specs.declared.Predicted.{Predicted}

-- A reference picture as one macroblock uses it: at a vector, in rows of a structure, or not at all.
abbrev pub Reference : Type 0
Reference = Option (Structure × Vector)

-- The field that is chosen. Document 02, R-6: "word 4 bits 16 and 18 choose the reference field for the two".
abbrev pub field_of : Bool → Structure
field_of bottom = cond bottom BottomField TopField

-- Document 01: "An inter macroblock carries its prediction, and that is forward, backward or both, with the vectors it has and no
-- others." Document 02: "Word 5 is the top field's vector, word 7 the bottom's".
unfoldable pub forward_of : Case → Reference
forward_of Intra = None
forward_of (Inter (Forward f)) = Some (Frame, f)
forward_of (Inter (Backward b)) = None
forward_of (Inter (Both f b)) = Some (Frame, f)
forward_of (Inter (Field t b i j)) = Some (field_of i, t)

unfoldable pub backward_of : Case → Reference
backward_of Intra = None
backward_of (Inter (Forward f)) = None
backward_of (Inter (Backward b)) = Some (Frame, b)
backward_of (Inter (Both f b)) = Some (Frame, b)
backward_of (Inter (Field t b i j)) = None

-- The second block in the forward reference.
unfoldable pub bottom_of : Case → Reference
bottom_of Intra = None
bottom_of (Inter (Forward f)) = None
bottom_of (Inter (Backward b)) = None
bottom_of (Inter (Both f b)) = None
bottom_of (Inter (Field t b i j)) = Some (field_of j, b)

-- A block that lies in the picture, and what it touches.
abbrev pub is_inside : Option Extent → Bool
is_inside None = false
is_inside (Some e) = true

abbrev pub extent_in : Option Extent → Extent
extent_in None = empty_extent
extent_in (Some e) = e

-- Document 01's number and place of a block, of the vector at this word of its command: "10 luma block outside picture: word 5 or 6";
-- document 02: "The range and inside tests report word 5 or 7."
abbrev pub block_answer : ℕ → Option Extent → Answer
block_answer word None = refused 10 word
block_answer word (Some e) = Accepted

abbrev pub predicted_in : Bool → Option Extent → Predicted
predicted_in ranged b = record { in_range = ranged; inside = is_inside b; extent = extent_in b }

-- The block that a macroblock at a position is predicted from in one reference, under that reference's f codes.
unfoldable pub predicted : Surface → Grid → Position → Codes → Reference → Predicted
predicted s g at c None = record { in_range = true; inside = true; extent = empty_extent }
predicted s g at c (Some (k, v)) = predicted_in (vector_in_range k v c.x c.y) (block_at k s g at v)

-- "Every macroblock, skipped ones too, touches its 16×16 luma and 8×8 chroma samples in buffers 0 and 1, and its predicted blocks
-- in 2 (forward) and 3 (backward)."
unfoldable pub blocks_of : Progress → Case → Blocks
blocks_of p case =
    record {
      own = extent_in (block_at Frame p.frame.surface p.picture.grid p.position still);
      forward = predicted p.frame.surface p.picture.grid p.position p.picture.forward (forward_of case);
      backward = predicted p.frame.surface p.picture.grid p.position p.picture.backward (backward_of case);
      bottom = predicted p.frame.surface p.picture.grid p.position p.picture.forward (bottom_of case);
    }
