-- The test by lines is the range test and the inside test, the reach of a block that lies inside is its extent, and it begins at or
-- behind the floor of its row.
use mathlib.Core.Path.{◌≡◌, refl, sym, ap, ap₂, subst, ◌∙◌}
use mathlib.Core.Bool.{Bool, true, false, cond, ◌&&◌}
use mathlib.Core.Logic.{◌⊎◌, inl, inr}
use Prim.Native.Nat.{ℕ, ◌+◌, ◌*◌, ◌-◌, ◌/◌, ◌^◌, ◌≤◌, ◌<◌, min, max}
use native.Mathlib.Nat.{le_trans, mul-add}
use native.Mathlib.Omega.{arith}
use borrow.Author.Tests.{leb-true, le-leb, lt-leb, ltb-true, lt-ltb}
use lib.Dec.{leb, ltb}
use lib.IntN.{ℤ, pos, sub_ℕ}
use lib.Signed.{mag, le_z}
use Rattle.lists.proofs.Booleans.{same}
use Rattle.prediction.specs.Vectors.{vector_of, still}
use Rattle.prediction.specs.Ranges.{in_range, vector_in_range}
use Rattle.prediction.specs.Spans.{first_of, inside}
use Rattle.prediction.specs.Addresses.{luma, cb, cr}
use Rattle.prediction.specs.Structures.{rows_in, row_of}
use Rattle.prediction.specs.Extents.{empty_extent, joined}
use Rattle.prediction.specs.Blocks.{block_inside, block_extent, block_at, start_of, last_of}
use Rattle.prediction.specs.Lines.{line_of, line_in, in_line, vector_in_lines, reach_of, floor_of}
use Rattle.prediction.specs.declared.Structure.{Structure}
use Rattle.prediction.specs.declared.Structure.TheVariants.{Frame, TopField, BottomField}
use Rattle.prediction.specs.declared.Surface.{Surface}
use Rattle.prediction.specs.declared.Grid.{Grid}
use Rattle.prediction.specs.declared.Position.{Position}
use Rattle.prediction.specs.declared.Extent.{Extent}
use Rattle.prediction.specs.declared.Line.{Line}
use Rattle.std.specs.Prelude.{Some, None}
use Rattle.prediction.proofs.Integers.{split, both, product_le}
use Rattle.prediction.proofs.Components.{bias_of, bias_lt, bias_back, inside_means, inside_holds}
use Rattle.prediction.proofs.CodeRange.{code_test}
use Rattle.prediction.proofs.TwosComplement.{pair, vector_fits}
use Rattle.prediction.proofs.BlockBytes.{tests, rows_pos, row_grows, sample_grows, block_is}
use Rattle.prediction.proofs.AddressGrows.{address_parts, address_column, address_row}
use Rattle.prediction.proofs.BlockLaws.{answer, own_inside}
use Rattle.prediction.proofs.ExtentLaws.{between, join_both}
use Rattle.prediction.proofs.LineCode.{line_means, line_holds, limit_up, first_at, reach_inside, reach_before, reach_starts}

-- ---- a line's test is the range of its code and the inside test
swapped : (a b c d : Bool) → ((a && b) && (c && d)) ≡ ((a && c) && (b && d))
swapped true true c d = refl
swapped true false true d = refl
swapped true false false d = refl
swapped false b c d = refl

module _ (size n c place b : ℕ) (hs : 0 < size) (hn : 0 < n) (hb : b < 65536) where
  last_place : size * n ≡ size * (n - 1) + size
  last_place = ap (λ (m : ℕ). size * m) (before hn) ∙ mul-add size (n - 1) 1 ∙ omega arith
    where
      before : 0 < n → n ≡ n - 1 + 1
      before h = omega arith

  exact_to : in_line size (line_of size n c) place (sub_ℕ b 32768) ≡ true → (in_range size c (sub_ℕ b 32768) && inside size place n (sub_ℕ b 32768)) ≡ true
  unfolding line_of
  exact_to t =
      let f = line_means size (line_of size n c) place b t in
      let p = limit_up size (c - 1) in
      ap₂ ◌&&◌
      (code_test size c b (c - 1) hs hb refl
      ∙ ap₂ ◌&&◌ (le-leb 32768 (b + size * 2 ^ (c - 1)) (omega arith)) (lt-ltb b (32768 + size * 2 ^ (c - 1)) (omega arith)))
      (inside_holds size place b 16384 n (omega arith) (omega (arith, last_place)))

  exact_from : (in_range size c (sub_ℕ b 32768) && inside size place n (sub_ℕ b 32768)) ≡ true → in_line size (line_of size n c) place (sub_ℕ b 32768) ≡ true
  unfolding line_of
  exact_from t =
      let two = both (in_range size c (sub_ℕ b 32768)) (inside size place n (sub_ℕ b 32768)) t in
      let code =
      both (leb 32768 (b + size * 2 ^ (c - 1))) (ltb b (32768 + size * 2 ^ (c - 1))) (sym (code_test size c b (c - 1) hs hb refl) ∙ two.0) in
      let low = leb-true 32768 (b + size * 2 ^ (c - 1)) code.0 in
      let high = ltb-true b (32768 + size * 2 ^ (c - 1)) code.1 in
      let i = inside_means size place b 16384 n two.1 in
      line_holds size (line_of size n c) place b (record { from = omega arith; to = omega arith; first = omega arith; last = omega (arith, last_place) })

  line_exact : in_line size (line_of size n c) place (sub_ℕ b 32768) ≡ (in_range size c (sub_ℕ b 32768) && inside size place n (sub_ℕ b 32768))
  line_exact = same _ _ exact_to exact_from

component_exact : (size n c place : ℕ) (v : ℤ) → 0 < size → 0 < n → mag v < 32768 → in_line size (line_of size n c) place v ≡ (in_range size c v && inside size place n v)
component_exact size n c place v hs hn hv =
    subst (λ (z : ℤ). in_line size (line_of size n c) place z ≡ (in_range size c z && inside size place n z)) (bias_back v hv) (line_exact size n c place (bias_of v) hs hn (bias_lt v hv))

-- The test by lines of a picture's columns and rows holds exactly where both the range test and the inside test do.
pub lines_exact : (k : Structure) (g : Grid) (at : Position) (cx cy w : ℕ)
    → 0 < g.columns
    → 0 < g.rows
    → vector_in_lines k (line_in Frame g.columns cx) (line_in k g.rows cy) at.column at.row w
    ≡ (vector_in_range k (vector_of w) cx cy && block_inside k g at (vector_of w))
unfolding line_in vector_in_lines vector_in_range
lines_exact k g at cx cy w hx hy =
    let v = vector_of w in
    let f = vector_fits w in
    ap₂ ◌&&◌ (component_exact 16 g.columns cx at.column v.x (omega arith) hx f.0.sfits)
    (component_exact (rows_in k luma) g.rows cy at.row v.y (rows_pos k luma) hy f.1.sfits)
    ∙ swapped (in_range 16 cx v.x) (inside 16 at.column g.columns v.x) (in_range (rows_in k luma) cy v.y) (inside (rows_in k luma) at.row g.rows v.y)

-- Both fields have one line.
pub field_lines : (n c : ℕ) → line_in TopField n c ≡ line_in BottomField n c
unfolding line_in
field_lines n c = refl

-- ---- reach
-- The reach of a block that lies inside is what the block touches.
pub inside_reach : (k : Structure) (s : Surface) (g : Grid) (at : Position) (w : ℕ) → block_inside k g at (vector_of w) ≡ true → block_at k s g at (vector_of w) ≡ Some (reach_of k s at w)
unfolding block_at reach_of
inside_reach k s g at w t =
    let v = vector_of w in
    let two = tests k g at v t in
    let x = both (le_z (pos 0) (first_of 16 at.column v.x)) _ two.0 in
    let y = both (le_z (pos 0) (first_of (rows_in k luma) at.row v.y)) _ two.1 in
    ap (λ (u : Bool). cond u (Some (block_extent k s at v)) None) t
    ∙ ap (λ (u : Bool). Some (cond u (block_extent k s at v) empty_extent)) (sym (ap₂ ◌&&◌ x.0 y.0))

-- A vector that keeps the lines keeps its codes' ranges, and its block lies inside and touches its reach.
pub in_lines : (k : Structure) (s : Surface) (g : Grid) (at : Position) (cx cy w : ℕ)
    → 0 < g.columns
    → 0 < g.rows
    → vector_in_lines k (line_in Frame g.columns cx) (line_in k g.rows cy) at.column at.row w ≡ true
    → (vector_in_range k (vector_of w) cx cy ≡ true) × (block_at k s g at (vector_of w) ≡ Some (reach_of k s at w))
in_lines k s g at cx cy w hx hy t =
    let two = both (vector_in_range k (vector_of w) cx cy) (block_inside k g at (vector_of w)) (sym (lines_exact k g at cx cy w hx hy) ∙ t) in
    (two.0, inside_reach k s g at w two.1)

-- A macroblock's own samples are the reach of the zero word in the frame.
pub still_reach : (s : Surface) (g : Grid) (at : Position) → at.column < g.columns → at.row < g.rows → block_at Frame s g at still ≡ Some (reach_of Frame s at 0)
unfolding block_at vector_of
still_reach s g at hx hy =
    let own = own_inside s g at hx hy in
    inside_reach Frame s g at 0 (answer (block_inside Frame g at still) (block_extent Frame s at still) own.0 own.1).0

-- ---- own samples along a row
abbrev own_of : Surface → ℕ → ℕ → Extent
own_of s x y = reach_of Frame s (record { column = x; row = y }) 0

own_is : (s : Surface) (x y : ℕ) → own_of s x y ≡ block_extent Frame s (record { column = x; row = y }) still
unfolding reach_of vector_of
own_is s x y = ap (λ (t : Bool). cond t (block_extent Frame s (record { column = x; row = y }) still) empty_extent) (ap₂ ◌&&◌ (here x) (here y))
  where
    here : (place : ℕ) → le_z (pos 0) (first_of 16 place (pos 0)) ≡ true
    here place = le-leb 0 (16 * place + 0) (omega arith)

-- both ends grow with the column, as the address does
module _ (s : Surface) (x x' y : ℕ) (h : x ≤ x') where
  own_first : 16 ≤ s.pitch → (own_of s x y).first ≤ (own_of s x' y).first
  own_first wide =
      omega (
        arith,
        ap (λ (e : Extent). e.first) (own_is s x y ∙ block_is Frame s (record { column = x; row = y }) still),
        ap (λ (e : Extent). e.first) (own_is s x' y ∙ block_is Frame s (record { column = x'; row = y }) still),
        sample_grows s luma {x = start_of 16 x (pos 0)} {x' = start_of 16 x' (pos 0)} {y = start_of 16 y (pos 0)} {y' = start_of 16 y (pos 0)} wide (omega arith) (omega arith),
        sample_grows s cb {x = start_of 8 x (pos 0)} {x' = start_of 8 x' (pos 0)} {y = start_of 8 y (pos 0)} {y' = start_of 8 y (pos 0)} wide (omega arith) (omega arith),
      )

  own_end : 16 ≤ s.pitch → (own_of s x y).end ≤ (own_of s x' y).end
  own_end wide =
      omega (
        arith,
        ap (λ (e : Extent). e.end) (own_is s x y ∙ block_is Frame s (record { column = x; row = y }) still),
        ap (λ (e : Extent). e.end) (own_is s x' y ∙ block_is Frame s (record { column = x'; row = y }) still),
        sample_grows s luma {x = last_of 16 x (pos 0)} {x' = last_of 16 x' (pos 0)} {y = last_of 16 y (pos 0)} {y' = last_of 16 y (pos 0)} wide (omega arith) (omega arith),
        sample_grows s cr {x = last_of 8 x (pos 0)} {x' = last_of 8 x' (pos 0)} {y = last_of 8 y (pos 0)} {y' = last_of 8 y (pos 0)} wide (omega arith) (omega arith),
      )

own_touches : (s : Surface) (x y : ℕ) → 0 < (own_of s x y).end
own_touches s x y = omega (arith, ap (λ (e : Extent). e.end) (own_is s x y ∙ block_is Frame s (record { column = x; row = y }) still))

-- The own samples of macroblocks in a row, one more of them: from the first byte of the first to the end of the last.
pub own_along : (s : Surface) (x m z y : ℕ)
    → 16 ≤ s.pitch
    → x ≤ z
    → m ≤ z
    → joined (record { first = (reach_of Frame s (record { column = x; row = y }) 0).first; end = (reach_of Frame s (record { column = m; row = y }) 0).end })
    (reach_of Frame s (record { column = z; row = y }) 0)
    ≡ record { first = (reach_of Frame s (record { column = x; row = y }) 0).first; end = (reach_of Frame s (record { column = z; row = y }) 0).end }
own_along s x m z y wide h k =
    let first : min (own_of s x y).first (own_of s z y).first ≡ (own_of s x y).first = omega (arith, own_first s x z y h wide) in
    let end : max (own_of s m y).end (own_of s z y).end ≡ (own_of s z y).end = omega (arith, own_end s m z y k wide) in
    join_both (between (own_of s x y).first (own_of s m y).end) (own_of s z y) (own_touches s m y) (own_touches s z y) ∙ ap₂ between first end

-- ---- where blocks begin
-- A block that starts in the picture, in half samples from the edges, begins at or behind the floor of every column before it and every lower x and y.
module _ (k : Structure) (s : Surface) (at : Position) (column x y a b u v : ℕ) (hx : x < 65536) (hy : y < 65536)
    (eu : u + 32768 ≡ 32 * at.column + x) (ev : v + 32768 ≡ 2 * (rows_in k luma * at.row) + y)
    (right : column ≤ at.column) (across : a ≤ x) (down : b ≤ y) where
  above_wide : 16 ≤ s.pitch → floor_of k s column a at.row b ≤ (block_extent k s at (pair (sub_ℕ x 32768) (sub_ℕ y 32768))).first
  unfolding floor_of
  above_wide wide =
      let left = 32 * column + a - 32768 in
      let top = 2 * (rows_in k luma * at.row) + b - 32768 in
      let cx = (u + (1 - x / 32768)) / 4 in
      let cy = row_of k ((v + (1 - y / 32768)) / 4) in
      let luma = le_trans (address_column s.pitch (row_of k (top / 2)) (left / 2) (u / 2) (omega arith))
      (address_row s.pitch (u / 2) (row_of k (top / 2)) (row_of k (v / 2)) wide (row_grows k {y = top / 2} {y' = v / 2} (omega arith))) in
      let chroma = le_trans (address_column s.pitch s.chroma_row 0 (2 * cx) (omega arith))
      (address_row s.pitch (2 * cx) s.chroma_row (s.chroma_row + cy) wide (omega arith)) in
      let first = first_at k s at x y u v (u / 2) (v / 2) cx ((v + (1 - y / 32768)) / 4) hx hy eu ev refl refl refl refl in
      simp (le-leb 16 s.pitch wide) (omega (arith, luma, chroma, first))

  above_narrow : s.pitch < 16 → floor_of k s column a at.row b ≤ (block_extent k s at (pair (sub_ℕ x 32768) (sub_ℕ y 32768))).first
  unfolding floor_of
  above_narrow narrow = simp (lt-leb 16 s.pitch narrow) (omega arith)

  above_start : floor_of k s column a at.row b ≤ (block_extent k s at (pair (sub_ℕ x 32768) (sub_ℕ y 32768))).first
  above_start = by (split s.pitch 16)
    where
      by : (s.pitch < 16) ⊎ (16 ≤ s.pitch) → floor_of k s column a at.row b ≤ (block_extent k s at (pair (sub_ℕ x 32768) (sub_ℕ y 32768))).first
      by (inl narrow) = above_narrow narrow
      by (inr wide) = above_wide wide

-- A block whose vector keeps two lines begins at or behind the floor of its row from every column before it on, and touches some byte.
pub above_floor : (k : Structure) (s : Surface) (at : Position) (column : ℕ) (l m : Line) (w : ℕ)
    → column ≤ at.column
    → vector_in_lines k l m at.column at.row w ≡ true
    → (floor_of k s column l.low at.row m.low ≤ (reach_of k s at w).first) × (0 < (reach_of k s at w).end)
unfolding vector_in_lines
above_floor k s at column l m w right t =
    let f = vector_fits w in
    let x = bias_of (vector_of w).x in
    let y = bias_of (vector_of w).y in
    let ex = bias_back (vector_of w).x f.0.sfits in
    let ey = bias_back (vector_of w).y f.1.sfits in
    let two = both (in_line 16 l at.column (vector_of w).x) (in_line (rows_in k luma) m at.row (vector_of w).y) t in
    let columns = line_means 16 l at.column x (ap (in_line 16 l at.column) ex ∙ two.0) in
    let rows = line_means (rows_in k luma) m at.row y (ap (in_line (rows_in k luma) m at.row) ey ∙ two.1) in
    let u = 32 * at.column + x - 32768 in
    let v = 2 * (rows_in k luma * at.row) + y - 32768 in
    let eu : u + 32768 ≡ 32 * at.column + x = omega (arith, columns.first) in
    let ev : v + 32768 ≡ 2 * (rows_in k luma * at.row) + y = omega (arith, rows.first) in
    let is = reach_inside k s at w x y ex ey (omega (arith, columns.first)) rows.first in
    let start =
    above_start k s at column x y l.low m.low u v (bias_lt (vector_of w).x f.0.sfits) (bias_lt (vector_of w).y f.1.sfits) eu ev right columns.from rows.from in (
      subst (λ (e : Extent). floor_of k s column l.low at.row m.low ≤ e.first) (sym is) start,
      omega (arith, ap (λ (e : Extent). e.end) (is ∙ block_is k s at (pair (sub_ℕ x 32768) (sub_ℕ y 32768)))),
    )

floors_wide : (s : Surface) (column a row b : ℕ) → 16 ≤ s.pitch → floor_of TopField s column a row b ≤ floor_of BottomField s column a row b
unfolding floor_of
floors_wide s column a row b wide =
    let r = (2 * (8 * row) + b - 32768) / 2 in
    simp (le-leb 16 s.pitch wide) (omega (arith, address_row s.pitch ((32 * column + a - 32768) / 2) (2 * r) (2 * r + 1) wide (omega arith)))

floors_narrow : (s : Surface) (column a row b : ℕ) → s.pitch < 16 → floor_of TopField s column a row b ≤ floor_of BottomField s column a row b
unfolding floor_of
floors_narrow s column a row b narrow = simp (lt-leb 16 s.pitch narrow) (omega arith)

-- The top field's floor is one of the bottom field too.
pub field_floor : (s : Surface) (column a row b : ℕ) → floor_of TopField s column a row b ≤ floor_of BottomField s column a row b
field_floor s column a row b = by (split s.pitch 16)
  where
    by : (s.pitch < 16) ⊎ (16 ≤ s.pitch) → floor_of TopField s column a row b ≤ floor_of BottomField s column a row b
    by (inl h) = floors_narrow s column a row b h
    by (inr h) = floors_wide s column a row b h

-- On a surface whose pitch is a 32-bit number the first byte is a 64-bit number.
row_fits : (k : Structure) (place v y : ℕ) → place < 65536 → y < 65536 → v + 32768 ≡ 2 * (rows_in k luma * place) + y → row_of k (v / 2) ≤ 1081343
row_fits Frame place v y hp hy e = omega arith
row_fits TopField place v y hp hy e = omega arith
row_fits BottomField place v y hp hy e = omega arith

module _ (k : Structure) (s : Surface) (at : Position) (w : ℕ) (hp : s.pitch < 2 ^ 32) (hx : at.column < 2 ^ 16) (hy : at.row < 2 ^ 16) where
  fits_by : (x y : ℕ) → x < 65536 → y < 65536 → sub_ℕ x 32768 ≡ (vector_of w).x → sub_ℕ y 32768 ≡ (vector_of w).y
      → (t : Bool) → (leb 32768 (32 * at.column + x) && leb 32768 (2 * (rows_in k luma * at.row) + y)) ≡ t → (reach_of k s at w).first < 2 ^ 64
  unfolding empty_extent
  fits_by x y lx ly ex ey false e = omega (arith, ap (λ (f : Extent). f.first) (reach_before k s at w x y ex ey e))
  fits_by x y lx ly ex ey true e =
      let is = reach_starts k s at w x y ex ey e in
      let u = 32 * at.column + x - 32768 in
      let v = 2 * (rows_in k luma * at.row) + y - 32768 in
      let eu : u + 32768 ≡ 32 * at.column + x = omega (arith, is.0) in
      let ev : v + 32768 ≡ 2 * (rows_in k luma * at.row) + y = omega (arith, is.1) in
      let first = first_at k s at x y u v (u / 2) (v / 2) ((u + (1 - x / 32768)) / 4) ((v + (1 - y / 32768)) / 4) lx ly eu ev refl refl refl refl in
      let row = row_fits k at.row v y hy ly ev in
      let tiles : row_of k (v / 2) / 32 * 32 * s.pitch ≤ 2097151 * 4294967295 = product_le 2097151 4294967295 (omega (arith, row)) (omega arith) in
      omega (arith, ap (λ (f : Extent). f.first) is.2, first, address_parts s.pitch (u / 2) (row_of k (v / 2)), tiles)

  pub first_fits : (reach_of k s at w).first < 2 ^ 64
  first_fits =
      let f = vector_fits w in
      fits_by (bias_of (vector_of w).x) (bias_of (vector_of w).y) (bias_lt (vector_of w).x f.0.sfits) (bias_lt (vector_of w).y f.1.sfits)
      (bias_back (vector_of w).x f.0.sfits) (bias_back (vector_of w).y f.1.sfits) _ refl
