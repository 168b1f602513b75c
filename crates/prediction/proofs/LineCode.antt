-- What the code of src/lines.rt tests and counts, in ℕ, against the definitions. The component is b - 32768.
use mathlib.Core.Path.{◌≡◌, refl, sym, ap, ap₂, ◌∙◌}
use mathlib.Core.Bool.{Bool, true, false, cond, ◌&&◌}
use mathlib.Core.Logic.{◌⊎◌, inl, inr}
use Prim.Native.Nat.{ℕ, ◌+◌, ◌*◌, ◌-◌, ◌/◌, ◌%◌, ◌^◌, ◌≤◌, ◌<◌, min, max}
use native.Mathlib.Nat.{mul_assoc}
use native.Mathlib.Omega.{arith}
use borrow.Author.Tests.{leb-true, le-leb, lt-leb}
use lib.Dec.{leb}
use lib.Pow.{pow_mono}
use lib.IntN.{pos, sub_ℕ}
use lib.Signed.{le_z}
use Rattle.lists.proofs.Booleans.{same}
use Rattle.prediction.specs.Vectors.{vector_of}
use Rattle.prediction.specs.Spans.{first_of, halved}
use Rattle.prediction.specs.Extents.{empty_extent}
use Rattle.prediction.specs.Addresses.{luma, address}
use Rattle.prediction.specs.Structures.{half_rows, rows_in, row_of}
use Rattle.prediction.specs.Blocks.{block_extent, start_of, last_of}
use Rattle.prediction.specs.Lines.{in_line, reach_of}
use Rattle.prediction.specs.declared.Structure.{Structure}
use Rattle.prediction.specs.declared.Structure.TheVariants.{Frame, TopField, BottomField}
use Rattle.prediction.specs.declared.Vector.{Vector}
use Rattle.prediction.specs.declared.Surface.{Surface}
use Rattle.prediction.specs.declared.Position.{Position}
use Rattle.prediction.specs.declared.Line.{Line}
use Rattle.prediction.specs.declared.Extent.{Extent}
use Rattle.prediction.proofs.Integers.{split, pos_sub, add_sub, le_sums, both, product_le}
use Rattle.prediction.proofs.Components.{half_below, half_above, first_is, start_at, last_at}
use Rattle.prediction.proofs.TwosComplement.{pair}
use Rattle.prediction.proofs.BlockBytes.{half_pos, rows_pos, block_is}

-- ---- rows of the frame, without a choice
pub row_steps : (k : Structure) (r : ℕ) → ((row_of k 1 - row_of k 0) * r + row_of k 0 ≡ row_of k r) × (row_of k r ≤ 2 * r + 1)
row_steps Frame r = (omega arith, omega arith)
row_steps TopField r = (omega arith, omega arith)
row_steps BottomField r = (omega arith, omega arith)

-- ---- the test of a line, in ℕ: the component is b - 32768
pub record Fits (size : ℕ) (l : Line) (place b : ℕ) : Type 0 where
  pub from : l.low ≤ b
  pub to : b ≤ l.low + l.span
  pub first : 32768 ≤ 2 * (size * place) + b
  pub last : 2 * (size * place) + b ≤ 2 * (size * l.last) + 32768

module _ (size : ℕ) (l : Line) (place b : ℕ) where
  line_test : in_line size l place (sub_ℕ b 32768)
      ≡ ((leb (l.low + 32768) (b + 32768) && leb (b + 32768) (l.low + l.span + 32768))
      && (leb (0 + 32768) (2 * (size * place) + b + 0) && leb (2 * (size * place) + b + 0) (2 * (size * l.last) + 32768)))
  line_test =
      ap₂ ◌&&◌ (ap₂ ◌&&◌ (le_sums l.low 32768 b 32768) (le_sums b 32768 (l.low + l.span) 32768))
      (ap₂ ◌&&◌ (ap₂ le_z (pos_sub 0) (add_sub (2 * (size * place)) b 32768) ∙ le_sums 0 0 (2 * (size * place) + b) 32768)
      (ap₂ le_z (add_sub (2 * (size * place)) b 32768) (pos_sub (2 * (size * l.last))) ∙ le_sums (2 * (size * place) + b) 32768 (2 * (size * l.last)) 0))

  pub line_means : in_line size l place (sub_ℕ b 32768) ≡ true → Fits size l place b
  line_means t =
      let two = both (leb (l.low + 32768) (b + 32768) && leb (b + 32768) (l.low + l.span + 32768)) _ (sym line_test ∙ t) in
      let code = both (leb (l.low + 32768) (b + 32768)) _ two.0 in
      let place' = both (leb (0 + 32768) (2 * (size * place) + b + 0)) _ two.1 in
      record {
        from = omega (arith, leb-true (l.low + 32768) (b + 32768) code.0);
        to = omega (arith, leb-true (b + 32768) (l.low + l.span + 32768) code.1);
        first = omega (arith, leb-true (0 + 32768) (2 * (size * place) + b + 0) place'.0);
        last = omega (arith, leb-true (2 * (size * place) + b + 0) (2 * (size * l.last) + 32768) place'.1);
      }

  pub line_holds : Fits size l place b → in_line size l place (sub_ℕ b 32768) ≡ true
  line_holds f =
      line_test
      ∙ ap₂ ◌&&◌ (ap₂ ◌&&◌ (le-leb (l.low + 32768) (b + 32768) (omega arith)) (le-leb (b + 32768) (l.low + l.span + 32768) (omega arith)))
      (ap₂ ◌&&◌ (le-leb (0 + 32768) (2 * (size * place) + b + 0) (omega arith)) (le-leb (2 * (size * place) + b + 0) (2 * (size * l.last) + 32768) (omega arith)))

unequal : ◌≡◌ {A = Bool} true false → ⊥
unequal t = let z : ◌≡◌ {A = ℕ} 0 1 = cc in omega arith

-- ---- as the code tests: r is b less low, and u the block's start, both around 2^32
module _ (size : ℕ) (l : Line) (place b : ℕ) (hb : b < 65536) where
  pub near : (r u : ℕ)
      → l.low < 65536
      → l.span < 65536
      → size * l.last ≤ 255 * 65535
      → size * place ≤ 255 * 65535
      → r < 2 ^ 32
      → u < 2 ^ 32
      → (r + l.low) % 2 ^ 32 ≡ b
      → r ≤ l.span
      → (u + 32768) % 2 ^ 32 ≡ 2 * (size * place) + b
      → leb u (2 * (size * l.last)) ≡ in_line size l place (sub_ℕ b 32768)
  near r u hl hs hn hp hr hu e h s =
      same (leb u (2 * (size * l.last))) (in_line size l place (sub_ℕ b 32768))
      (λ t. line_holds size l place b (let k = leb-true u (2 * (size * l.last)) t in record { from = omega arith; to = omega arith; first = omega arith; last = omega arith }))
      (λ t. let f = line_means size l place b t in le-leb u (2 * (size * l.last)) (omega arith))

-- ---- as the code counts a block that starts u half samples from the edge: its first and last luma and chroma samples
pub luma_from : (size place b u r : ℕ) → u + 32768 ≡ 2 * (size * place) + b → r ≡ u / 2 → r ≡ start_of size place (sub_ℕ b 32768)
luma_from size place b u r s e = start_at size place b r (omega arith) (omega arith)

pub luma_at : (size place b u r : ℕ) → 0 < size → u + 32768 ≡ 2 * (size * place) + b → r ≡ (u + 1) / 2 + (size - 1) → r ≡ last_of size place (sub_ℕ b 32768)
luma_at size place b u r hs s e = last_at size place b r (omega arith) (omega arith)

-- a sample more where the component is odd
rounded_up : (c : ℕ) → c / 2 + c % 2 ≡ (c + 1) / 2
rounded_up c = omega arith

last_below : (m b u : ℕ) → u + 32768 ≡ 4 * m + b → (u + 1 + 2) / 4 + 16384 ≡ m + ((b + 1) / 2 + 16384 + 1) / 2
last_below m b u s = omega arith

last_above : (m b u : ℕ) → u + 32768 ≡ 4 * m + b → (u + 0 + 2) / 4 + 16384 ≡ m + (b / 2 + 16384 + 1) / 2
last_above m b u s = omega arith

last_sum : (m half c n r : ℕ) → 0 < half → n + 16384 ≡ m + (c + 1) / 2 → r ≡ n + (half - 1) → r ≡ m + c / 2 + (half + c % 2) - 16385
last_sum m half c n r hs e f = omega (arith, rounded_up c)

-- a chroma block has half as many samples
module _ (half place b u r : ℕ) (hb : b < 65536) (s : u + 32768 ≡ 2 * (2 * half * place) + b) where
  half_start : u + 32768 ≡ 4 * (half * place) + b
  half_start = omega (arith, s, mul_assoc 2 half place)

  pub chroma_from : r ≡ (u + (1 - b / 32768)) / 4 → r ≡ start_of half place (halved (sub_ℕ b 32768))
  chroma_from e = by (split b 32768)
    where
      by : (b < 32768) ⊎ (32768 ≤ b) → r ≡ start_of half place (halved (sub_ℕ b 32768))
      by (inl h) = start_at half place ((b + 1) / 2 + 16384) r (omega (arith, half_start)) (omega (arith, half_start)) ∙ ap (start_of half place) (sym (half_below b 16384 h))
      by (inr h) = start_at half place (b / 2 + 16384) r (omega (arith, half_start)) (omega (arith, half_start)) ∙ ap (start_of half place) (sym (half_above b 16384 h))

  pub chroma_at : 0 < half → r ≡ (u + (1 - b / 32768) + 2) / 4 + (half - 1) → r ≡ last_of half place (halved (sub_ℕ b 32768))
  chroma_at hs e = by (split b 32768)
    where
      by : (b < 32768) ⊎ (32768 ≤ b) → r ≡ last_of half place (halved (sub_ℕ b 32768))
      by (inl h) =
          let sign : 1 - b / 32768 ≡ 1 = omega (arith, h) in
          let c = (b + 1) / 2 + 16384 in
          let from : 16384 ≤ half * place + c / 2 = omega (arith, half_start) in
          last_at half place c r from
          (last_sum (half * place) half c ((u + 1 + 2) / 4) r hs (last_below (half * place) b u half_start) (e ∙ ap (λ (n : ℕ). (u + n + 2) / 4 + (half - 1)) sign))
          ∙ ap (last_of half place) (sym (half_below b 16384 h))
      by (inr h) =
          let sign : 1 - b / 32768 ≡ 0 = omega (arith, h) in
          let c = b / 2 + 16384 in
          let from : 16384 ≤ half * place + c / 2 = omega (arith, half_start) in
          last_at half place c r from
          (last_sum (half * place) half c ((u + 0 + 2) / 4) r hs (last_above (half * place) b u half_start) (e ∙ ap (λ (n : ℕ). (u + n + 2) / 4 + (half - 1)) sign))
          ∙ ap (last_of half place) (sym (half_above b 16384 h))

-- ---- both ends of a block that starts u and v half samples from the edges: a and b are its luma column and row, c and d the chroma ones
module _ (k : Structure) (s : Surface) (at : Position) (x y u v a b c d : ℕ) (hx : x < 65536) (hy : y < 65536)
    (eu : u + 32768 ≡ 32 * at.column + x) (ev : v + 32768 ≡ 2 * (rows_in k luma * at.row) + y) where
  across : u + 32768 ≡ 2 * (16 * at.column) + x
  across = omega (arith, eu)

  pub first_at : a ≡ u / 2 → b ≡ v / 2 → c ≡ (u + (1 - x / 32768)) / 4 → d ≡ (v + (1 - y / 32768)) / 4
      → (block_extent k s at (pair (sub_ℕ x 32768) (sub_ℕ y 32768))).first
      ≡ min (address s.pitch a (row_of k b)) (address s.pitch (2 * c) (s.chroma_row + row_of k d))
  first_at ea eb ec ed =
      ap (λ (e : Extent). e.first) (block_is k s at (pair (sub_ℕ x 32768) (sub_ℕ y 32768)))
      ∙ sym
      (ap₂ min
      (ap₂ (λ (m n : ℕ). address s.pitch m (row_of k n)) (luma_from 16 at.column x u a across ea) (luma_from (rows_in k luma) at.row y v b ev eb))
      (ap₂ (λ (m n : ℕ). address s.pitch (2 * m) (s.chroma_row + row_of k n)) (chroma_from 8 at.column x u c hx across ec) (chroma_from (half_rows k) at.row y v d hy ev ed)))

  pub end_at : a ≡ (u + 1) / 2 + 15
      → b ≡ (v + 1) / 2 + (rows_in k luma - 1)
      → c ≡ (u + (1 - x / 32768) + 2) / 4 + 7
      → d ≡ (v + (1 - y / 32768) + 2) / 4 + (half_rows k - 1)
      → (block_extent k s at (pair (sub_ℕ x 32768) (sub_ℕ y 32768))).end
      ≡ max (address s.pitch a (row_of k b) + 1) (address s.pitch (2 * c + 1) (s.chroma_row + row_of k d) + 1)
  end_at ea eb ec ed =
      ap (λ (e : Extent). e.end) (block_is k s at (pair (sub_ℕ x 32768) (sub_ℕ y 32768)))
      ∙ sym
      (ap₂ (λ (m n : ℕ). max (m + 1) (n + 1))
      (ap₂ (λ (m n : ℕ). address s.pitch m (row_of k n)) (luma_at 16 at.column x u a (omega arith) across ea) (luma_at (rows_in k luma) at.row y v b (rows_pos k luma) ev eb))
      (ap₂ (λ (m n : ℕ). address s.pitch (2 * m + 1) (s.chroma_row + row_of k n))
      (chroma_at 8 at.column x u c hx across (omega arith) ec)
      (chroma_at (half_rows k) at.row y v d hy ev (half_pos k).0 ed)))

-- ---- the reach of a word, by the test of where a block starts
pub reach_is : (k : Structure) (s : Surface) (at : Position) (w : ℕ) (v : Vector) (t : Bool)
    → v ≡ vector_of w
    → t ≡ (le_z (pos 0) (first_of 16 at.column v.x) && le_z (pos 0) (first_of (rows_in k luma) at.row v.y))
    → cond t (block_extent k s at v) empty_extent ≡ reach_of k s at w
unfolding reach_of
reach_is k s at w v t e h =
    ap (λ (u : Bool). cond u (block_extent k s at v) empty_extent) h
    ∙ ap (λ (z : Vector). cond (le_z (pos 0) (first_of 16 at.column z.x) && le_z (pos 0) (first_of (rows_in k luma) at.row z.y)) (block_extent k s at z) empty_extent) e

-- ---- the reach of a word whose components are x - 32768 and y - 32768
starts : (size place b : ℕ) → 32768 ≤ 2 * (size * place) + b → le_z (pos 0) (first_of size place (sub_ℕ b 32768)) ≡ true
starts size place b h =
    ap₂ le_z (pos_sub 0) (first_is size place b 16384) ∙ le_sums 0 0 (size * place + b / 2) 16384 ∙ le-leb (0 + 16384) (size * place + b / 2 + 0) (omega arith)

starts_before : (size place b : ℕ) → 2 * (size * place) + b < 32768 → le_z (pos 0) (first_of size place (sub_ℕ b 32768)) ≡ false
starts_before size place b h =
    ap₂ le_z (pos_sub 0) (first_is size place b 16384) ∙ le_sums 0 0 (size * place + b / 2) 16384 ∙ lt-leb (0 + 16384) (size * place + b / 2 + 0) (omega arith)

module _ (k : Structure) (s : Surface) (at : Position) (w x y : ℕ) (ex : sub_ℕ x 32768 ≡ (vector_of w).x) (ey : sub_ℕ y 32768 ≡ (vector_of w).y) where
  reach_by : (t u : Bool)
      → le_z (pos 0) (first_of 16 at.column (sub_ℕ x 32768)) ≡ t
      → le_z (pos 0) (first_of (rows_in k luma) at.row (sub_ℕ y 32768)) ≡ u
      → reach_of k s at w ≡ cond (t && u) (block_extent k s at (pair (sub_ℕ x 32768) (sub_ℕ y 32768))) empty_extent
  unfolding reach_of
  reach_by t u et eu =
      sym
      (ap
      (λ (v : Vector). cond (le_z (pos 0) (first_of 16 at.column v.x) && le_z (pos 0) (first_of (rows_in k luma) at.row v.y)) (block_extent k s at v) empty_extent)
      (ap₂ pair ex ey))
      ∙ ap₂ (λ (p q : Bool). cond (p && q) (block_extent k s at (pair (sub_ℕ x 32768) (sub_ℕ y 32768))) empty_extent) et eu

  pub reach_inside : 32768 ≤ 32 * at.column + x → 32768 ≤ 2 * (rows_in k luma * at.row) + y → reach_of k s at w ≡ block_extent k s at (pair (sub_ℕ x 32768) (sub_ℕ y 32768))
  reach_inside h l = reach_by true true (starts 16 at.column x (omega (arith, h))) (starts (rows_in k luma) at.row y l)

  -- by the test of the code
  pub reach_before : (leb 32768 (32 * at.column + x) && leb 32768 (2 * (rows_in k luma * at.row) + y)) ≡ false → reach_of k s at w ≡ empty_extent
  reach_before e = by (split (32 * at.column + x) 32768) (split (2 * (rows_in k luma * at.row) + y) 32768)
    where
      by : (32 * at.column + x < 32768) ⊎ (32768 ≤ 32 * at.column + x)
          → (2 * (rows_in k luma * at.row) + y < 32768) ⊎ (32768 ≤ 2 * (rows_in k luma * at.row) + y)
          → reach_of k s at w ≡ empty_extent
      by (inl h) l = reach_by false _ (starts_before 16 at.column x (omega (arith, h))) refl
      by (inr h) (inl l) = reach_by true false (starts 16 at.column x (omega (arith, h))) (starts_before (rows_in k luma) at.row y l)
      by (inr h) (inr l) =
          let z : ◌≡◌ {A = Bool} true false = sym (ap₂ ◌&&◌ (le-leb 32768 (32 * at.column + x) h) (le-leb 32768 (2 * (rows_in k luma * at.row) + y) l)) ∙ e in
          absurd (unequal z)

  pub reach_starts : (leb 32768 (32 * at.column + x) && leb 32768 (2 * (rows_in k luma * at.row) + y)) ≡ true
      → (32768 ≤ 32 * at.column + x) × (32768 ≤ 2 * (rows_in k luma * at.row) + y) × (reach_of k s at w ≡ block_extent k s at (pair (sub_ℕ x 32768) (sub_ℕ y 32768)))
  reach_starts t =
      let two = both (leb 32768 (32 * at.column + x)) (leb 32768 (2 * (rows_in k luma * at.row) + y)) t in
      let h = leb-true 32768 (32 * at.column + x) two.0 in
      let l = leb-true 32768 (2 * (rows_in k luma * at.row) + y) two.1 in
      (h, l, reach_inside h l)

-- ---- a line as the code makes it: p is one less than the code
pub one_up : (p : ℕ) → 1 ≤ 2 ^ p
one_up p = pow_mono {i = 0} {j = p} (omega arith)

-- the limit of a code: at least the size, and beyond any component for large codes
pub limit_up : (size p : ℕ) → size ≤ size * 2 ^ p
limit_up size p = omega (arith, product_le {a = size} {b = 1} size (2 ^ p) (omega arith) (one_up p))

pub limit_wide : (size p : ℕ) → 0 < size → 16 ≤ p → 32768 ≤ size * 2 ^ p
limit_wide size p hs h = omega (arith, product_le {a = 1} {b = 65536} size (2 ^ p) hs (pow_mono {i = 16} {j = p} h))
