-- A macroblock's block in a picture buffer: where it lies and which bytes it touches.
-- To be believed: `Occupies` and `InPicture`. `block_at` is proved against them, by `block_exact` and `inside_exactly` (proofs/BlockLaws.antt).
use Rattle.std.specs.Prelude.{ℕ, ◌+◌, ◌-◌, ◌*◌, ◌≡◌, Bool, cond, ◌&&◌, ℤ, pos, nat_abs, ◌≤ℤ◌, ◌<ℤ◌, Some, None, Option}
use Rattle.prediction.specs.declared.Structure.{Structure}
use Rattle.prediction.specs.declared.Vector.{Vector}
use Rattle.prediction.specs.declared.Surface.{Surface}
use Rattle.prediction.specs.declared.Grid.{Grid}
use Rattle.prediction.specs.declared.Position.{Position}
use Rattle.prediction.specs.declared.Extent.{Extent}
use Rattle.prediction.specs.Spans.{first_of, end_of, inside, halved, Covers}
use Rattle.prediction.specs.Addresses.{Plane, luma, cb, cr, sample_byte}
use Rattle.prediction.specs.Structures.{columns_in, rows_in, row_of}
use Rattle.prediction.specs.Extents.{joined}

-- A block that a vector points at: what it touches, if it is in the picture.
abbrev pub Block : Type 0
Block = Option Extent

-- Chroma moves by the halved component.
abbrev pub component_in : Plane → ℤ → ℤ
component_in luma v = v
component_in cb v = halved v
component_in cr v = halved v

-- A sample of one plane of the block stands at the byte. The block is the one that vector v displaces from a position, in rows of structure k.
pub record OccupiesIn (k : Structure) (p : Plane) (s : Surface) (at : Position) (v : Vector) (byte : ℕ) : Type 0 where
  pub x : ℕ
  pub y : ℕ
  pub in_columns : Covers (columns_in p) at.column (component_in p v.x) (pos x)
  pub in_rows : Covers (rows_in k p) at.row (component_in p v.y) (pos y)
  pub stands : sample_byte s p x (row_of k y) ≡ byte

-- Some luma, Cb or Cr sample of the block stands at the byte: in document 01's word, the block touches it.
abbrev pub Occupies : Structure → Surface → Position → Vector → ℕ → Type 0
Occupies k s at v byte = (p : Plane) × OccupiesIn k p s at v byte

-- Every sample that the block covers in one direction is one of the samples 0 to size·n − 1.
abbrev pub Within : ℕ → ℕ → ℕ → ℤ → Type 0
Within size place n v = (i : ℤ) → Covers size place v i → (pos 0 ≤ℤ i) × (i <ℤ pos (size * n))

-- Every luma sample of the block lies in columns 0 to 16W−1 and rows 0 to 16H−1, of a field "inside 8H field rows".
abbrev pub InPicture : Structure → Grid → Position → Vector → Type 0
InPicture k g at v = Within (columns_in luma) at.column g.columns v.x × Within (rows_in k luma) at.row g.rows v.y

-- The same by a test, even where the surface is less high.
abbrev pub block_inside : Structure → Grid → Position → Vector → Bool
block_inside k g at v = inside (columns_in luma) at.column g.columns v.x && inside (rows_in k luma) at.row g.rows v.y

-- The first and the last sample of a block that starts at 0 or above.
abbrev pub start_of : ℕ → ℕ → ℤ → ℕ
start_of size place v = nat_abs (first_of size place v)

abbrev pub last_of : ℕ → ℕ → ℤ → ℕ
last_of size place v = nat_abs (end_of size place v) - 1

-- The bytes of a plane's first sample, the first column of the first row, and of its last, the last column of the last row.
abbrev pub first_byte : Structure → Surface → Position → Vector → Plane → ℕ
first_byte k s at v p =
    sample_byte s p (start_of (columns_in p) at.column (component_in p v.x)) (row_of k (start_of (rows_in k p) at.row (component_in p v.y)))

abbrev pub last_byte : Structure → Surface → Position → Vector → Plane → ℕ
last_byte k s at v p =
    sample_byte s p (last_of (columns_in p) at.column (component_in p v.x)) (row_of k (last_of (rows_in k p) at.row (component_in p v.y)))

-- What the block touches through one plane: from its first sample to its last.
abbrev pub plane_extent : Structure → Surface → Position → Vector → Plane → Extent
plane_extent k s at v p = record { first = first_byte k s at v p; end = last_byte k s at v p + 1 }

-- What the block touches: what it does through any of the three planes.
unfoldable pub block_extent : Structure → Surface → Position → Vector → Extent
block_extent k s at v = joined (plane_extent k s at v luma) (joined (plane_extent k s at v cb) (plane_extent k s at v cr))

-- The answer for a block: rule 10's `Outside`, or what it touches.
unfoldable pub block_at : Structure → Surface → Grid → Position → Vector → Block
block_at k s g at v = cond (block_inside k g at v) (Some (block_extent k s at v)) None
