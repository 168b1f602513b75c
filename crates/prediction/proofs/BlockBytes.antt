-- The extent of a block that lies inside is exact for the bytes that the block occupies: from the two address laws alone.
use mathlib.Core.Path.{◌≡◌, refl, ap, ap₂, ◌∙◌}
use mathlib.Core.Bool.{true}
use mathlib.Core.Logic.{◌⊎◌, inl, inr}
use Prim.Native.Nat.{ℕ, ◌+◌, ◌*◌, ◌≤◌, ◌<◌, min, max}
use native.Mathlib.Nat.{le_trans}
use native.Mathlib.Omega.{arith}
use lib.IntN.{ℤ}
use Rattle.prediction.specs.Spans.{inside}
use Rattle.prediction.specs.Addresses.{Plane, luma, cb, cr, address, sample_byte}
use Rattle.prediction.specs.Extents.{joined, Exact}
use Rattle.prediction.specs.Structures.{columns_in, half_rows, rows_in, row_of}
use Rattle.prediction.specs.Blocks.{component_in, OccupiesIn, Occupies, block_inside, start_of, last_of, first_byte, last_byte, plane_extent, block_extent}
use Rattle.prediction.specs.declared.Structure.{Structure}
use Rattle.prediction.specs.declared.Structure.TheVariants.{Frame, TopField, BottomField}
use Rattle.prediction.specs.declared.Vector.{Vector}
use Rattle.prediction.specs.declared.Surface.{Surface}
use Rattle.prediction.specs.declared.Grid.{Grid}
use Rattle.prediction.specs.declared.Position.{Position}
use Rattle.prediction.proofs.Integers.{both}
use Rattle.prediction.proofs.SpanLaws.{first_covered, from_first, last_covered, up_to_last}
use Rattle.prediction.proofs.ChromaInside.{chroma_inside}
use Rattle.prediction.proofs.AddressGrows.{address_column, address_row}
use Rattle.prediction.proofs.ExtentLaws.{between, join_both, join_exact, exact_same}

-- ---- bytes grow with the samples, in each plane
grows : {pitch a b c d : ℕ} → 16 ≤ pitch → a ≤ b → c ≤ d → address pitch a c ≤ address pitch b d
grows {pitch} {a} {b} {c} {d} wide h k = le_trans (address_column pitch c a b h) (address_row pitch b c d wide k)

pub sample_grows : (s : Surface) (p : Plane) {x x' y y' : ℕ} → 16 ≤ s.pitch → x ≤ x' → y ≤ y' → sample_byte s p x y ≤ sample_byte s p x' y'
sample_grows s luma wide h k = grows wide h k
sample_grows s cb wide h k = grows wide (omega arith) (omega arith)
sample_grows s cr wide h k = grows wide (omega arith) (omega arith)

-- A structure's rows stand in the frame in their order.
pub row_grows : (k : Structure) {y y' : ℕ} → y ≤ y' → row_of k y ≤ row_of k y'
row_grows Frame h = h
row_grows TopField h = omega arith
row_grows BottomField h = omega arith

pub half_pos : (k : Structure) → (0 < half_rows k) × (half_rows k ≤ 8)
half_pos Frame = (omega arith, omega arith)
half_pos TopField = (omega arith, omega arith)
half_pos BottomField = (omega arith, omega arith)

-- Cr stands behind Cb, so that chroma begins with Cb and ends with Cr. This is all that the code and the tests by lines use of a
-- block's extent, and it holds at every pitch.
cb_cr : (s : Surface) (x y : ℕ) → sample_byte s cb x y ≤ sample_byte s cr x y
cb_cr s x y = address_column s.pitch (s.chroma_row + y) (2 * x) (2 * x + 1) (omega arith)

pub block_is : (k : Structure) (s : Surface) (at : Position) (v : Vector)
    → block_extent k s at v
    ≡ record { first = min (first_byte k s at v luma) (first_byte k s at v cb); end = max (last_byte k s at v luma + 1) (last_byte k s at v cr + 1) }
unfolding block_extent
block_is k s at v =
    let cx = component_in cb v.x in
    let cy = component_in cb v.y in
    let begins = cb_cr s (start_of 8 at.column cx) (row_of k (start_of (half_rows k) at.row cy)) in
    let ends = cb_cr s (last_of 8 at.column cx) (row_of k (last_of (half_rows k) at.row cy)) in
    let l = plane_extent k s at v luma in
    let b = plane_extent k s at v cb in
    let r = plane_extent k s at v cr in
    let first : min l.first (min b.first r.first) ≡ min l.first b.first = omega (arith, begins) in
    let end : max l.end (max b.end r.end) ≡ max l.end r.end = omega (arith, ends) in
    ap (joined l) (join_both b r (omega arith) (omega arith))
    ∙ join_both l (between (min b.first r.first) (max b.end r.end)) (omega arith) (omega arith)
    ∙ ap₂ between first end

-- ---- where the luma block lies inside, each plane's block does
columns_inside : (place n : ℕ) (v : ℤ) → inside 16 place n v ≡ true → (p : Plane) → inside (columns_in p) place n (component_in p v) ≡ true
columns_inside place n v t luma = t
columns_inside place n v t cb = chroma_inside 8 place n v t
columns_inside place n v t cr = chroma_inside 8 place n v t

rows_inside : (k : Structure) (place n : ℕ) (v : ℤ) → inside (rows_in k luma) place n v ≡ true → (p : Plane) → inside (rows_in k p) place n (component_in p v) ≡ true
rows_inside k place n v t luma = t
rows_inside k place n v t cb = chroma_inside (half_rows k) place n v t
rows_inside k place n v t cr = chroma_inside (half_rows k) place n v t

pub tests : (k : Structure) (g : Grid) (at : Position) (v : Vector)
    → block_inside k g at v ≡ true
    → (inside 16 at.column g.columns v.x ≡ true) × (inside (rows_in k luma) at.row g.rows v.y ≡ true)
tests k g at v = both (inside 16 at.column g.columns v.x) (inside (rows_in k luma) at.row g.rows v.y)

columns_pos : (p : Plane) → 0 < columns_in p
columns_pos luma = omega arith
columns_pos cb = omega arith
columns_pos cr = omega arith

pub rows_pos : (k : Structure) (p : Plane) → 0 < rows_in k p
rows_pos k luma = omega (arith, half_pos k)
rows_pos k cb = (half_pos k).0
rows_pos k cr = (half_pos k).0

-- ---- what a plane touches
module _ (k : Structure) (s : Surface) (g : Grid) (at : Position) (v : Vector) (wide : 16 ≤ s.pitch) (t : block_inside k g at v ≡ true) where
  columns : (p : Plane) → inside (columns_in p) at.column g.columns (component_in p v.x) ≡ true
  columns = columns_inside at.column g.columns v.x (tests k g at v t).0

  rows : (p : Plane) → inside (rows_in k p) at.row g.rows (component_in p v.y) ≡ true
  rows = rows_inside k at.row g.rows v.y (tests k g at v t).1

  plane_below : (p : Plane) (byte : ℕ) → OccupiesIn k p s at v byte → byte < (plane_extent k s at v p).end
  plane_below p byte o =
      let x = up_to_last (columns_in p) at.column g.columns (component_in p v.x) (columns p) o.x o.in_columns in
      let y = up_to_last (rows_in k p) at.row g.rows (component_in p v.y) (rows p) o.y o.in_rows in
      omega (arith, sample_grows s p wide x (row_grows k y), o.stands)

  plane_from : (p : Plane) (byte : ℕ) → OccupiesIn k p s at v byte → (plane_extent k s at v p).first ≤ byte
  plane_from p byte o =
      let x = from_first (columns_in p) at.column g.columns (component_in p v.x) (columns p) o.x o.in_columns in
      let y = from_first (rows_in k p) at.row g.rows (component_in p v.y) (rows p) o.y o.in_rows in
      omega (arith, sample_grows s p wide x (row_grows k y), o.stands)

  last_sample : (p : Plane) → OccupiesIn k p s at v (last_byte k s at v p)
  last_sample p =
      record {
        x = last_of (columns_in p) at.column (component_in p v.x);
        y = last_of (rows_in k p) at.row (component_in p v.y);
        in_columns = last_covered (columns_in p) at.column g.columns (component_in p v.x) (columns_pos p) (columns p);
        in_rows = last_covered (rows_in k p) at.row g.rows (component_in p v.y) (rows_pos k p) (rows p);
        stands = refl;
      }

  first_sample : (p : Plane) → OccupiesIn k p s at v (first_byte k s at v p)
  first_sample p =
      record {
        x = start_of (columns_in p) at.column (component_in p v.x);
        y = start_of (rows_in k p) at.row (component_in p v.y);
        in_columns = first_covered (columns_in p) at.column g.columns (component_in p v.x) (columns_pos p) (columns p);
        in_rows = first_covered (rows_in k p) at.row g.rows (component_in p v.y) (rows_pos k p) (rows p);
        stands = refl;
      }

  plane_exact : (p : Plane) → Exact (OccupiesIn k p s at v) (plane_extent k s at v p)
  plane_exact p =
      record {
        below = plane_below p;
        reached = λ h. (_, last_sample p, refl);
        from = plane_from p;
        begun = λ h. first_sample p;
        untouched = λ e. absurd (omega arith);
      }

  pub extent_exact : Exact (Occupies k s at v) (block_extent k s at v)
  unfolding block_extent
  extent_exact = exact_same joins parts (join_exact (plane_exact luma) (join_exact (plane_exact cb) (plane_exact cr)))
    where
      joins : (byte : ℕ) → OccupiesIn k luma s at v byte ⊎ (OccupiesIn k cb s at v byte ⊎ OccupiesIn k cr s at v byte) → Occupies k s at v byte
      joins byte (inl o) = (luma, o)
      joins byte (inr (inl o)) = (cb, o)
      joins byte (inr (inr o)) = (cr, o)

      in_part : (byte : ℕ) (p : Plane) → OccupiesIn k p s at v byte → OccupiesIn k luma s at v byte ⊎ (OccupiesIn k cb s at v byte ⊎ OccupiesIn k cr s at v byte)
      in_part byte luma o = inl o
      in_part byte cb o = inr (inl o)
      in_part byte cr o = inr (inr o)

      parts : (byte : ℕ) → Occupies k s at v byte → OccupiesIn k luma s at v byte ⊎ (OccupiesIn k cb s at v byte ⊎ OccupiesIn k cr s at v byte)
      parts byte o = in_part byte o.0 o.1
