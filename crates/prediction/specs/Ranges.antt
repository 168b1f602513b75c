-- The range of a vector's components under the picture's f codes.
-- To be believed: the range of an f code.
use Rattle.std.specs.Prelude.{ℕ, ◌-◌, ◌*◌, ◌^◌, Bool, ◌&&◌, ℤ, pos, neg_ℤ}
use Rattle.std.specs.Int.Signed.{le_z, lt_z}
use Rattle.prediction.specs.declared.Structure.{Structure}
use Rattle.prediction.specs.declared.Vector.{Vector}
use Rattle.prediction.specs.Addresses.{luma}
use Rattle.prediction.specs.Structures.{columns_in, rows_in}

-- Document 01: "With f code c a component lies from −16·2^(c−1) to 16·2^(c−1)−1." Document 02, R-6, of
-- fields: "Vertical components keep half the f code's range, −8·2^(c−1) to 8·2^(c−1)−1." So the size is the block's, of either structure.
-- Codes that a picture may hold are 1 to 9. Any other number is judged by the same formula, 0 as 1.
abbrev pub in_range : ℕ → ℕ → ℤ → Bool
in_range size c v = le_z (neg_ℤ (pos (size * 2 ^ (c - 1)))) v && lt_z v (pos (size * 2 ^ (c - 1)))

-- A vector under the codes of its two components.
unfoldable pub vector_in_range : Structure → Vector → ℕ → ℕ → Bool
vector_in_range k v cx cy = in_range (columns_in luma) cx v.x && in_range (rows_in k luma) cy v.y
