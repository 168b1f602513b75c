-- What holds of a block's answer.
use mathlib.Core.Path.{◌≡◌, refl, sym, ap, ap₂, subst, ◌∙◌}
use mathlib.Core.Bool.{Bool, true, false, cond, ◌&&◌}
use Prim.Native.Nat.{ℕ, ◌≤◌, ◌<◌}
use native.Mathlib.Omega.{arith}
use lib.IntN.{pos}
use Rattle.prediction.specs.Vectors.{still}
use Rattle.prediction.specs.Spans.{inside}
use Rattle.prediction.specs.Addresses.{luma}
use Rattle.prediction.specs.Structures.{rows_in}
use Rattle.prediction.specs.Extents.{Exact}
use Rattle.prediction.specs.Blocks.{Occupies, InPicture, block_inside, block_extent, block_at}
use Rattle.prediction.specs.declared.Structure.{Structure}
use Rattle.prediction.specs.declared.Structure.TheVariants.{Frame}
use Rattle.prediction.specs.declared.Vector.{Vector}
use Rattle.prediction.specs.declared.Surface.{Surface}
use Rattle.prediction.specs.declared.Grid.{Grid}
use Rattle.prediction.specs.declared.Position.{Position}
use Rattle.prediction.specs.declared.Extent.{Extent}
use Rattle.std.specs.Prelude.{Some, None}
use Rattle.prediction.proofs.Integers.{pos_sub}
use Rattle.prediction.proofs.Components.{inside_holds}
use Rattle.prediction.proofs.SpanLaws.{inside_within, within_inside}
use Rattle.prediction.proofs.BlockBytes.{tests, rows_pos, block_is, extent_exact}

-- an answer that is inside: the test holds, and the extent is the block's
pub answer : (t : Bool) (full e : Extent) → cond t (Some full) None ≡ Some e → (t ≡ true) × (full ≡ e)
answer true full e h = (refl, cc)
answer false full e h = let z : ◌≡◌ {A = ℕ} 0 1 = cc in absurd (omega arith)

-- Inside, every occupied byte lies from the first byte to below the end, and the first byte and the one just below the end are occupied.
pub block_exact : (k : Structure) (s : Surface) (g : Grid) (at : Position) (v : Vector) (e : Extent) → 16 ≤ s.pitch → block_at k s g at v ≡ Some e → Exact (Occupies k s at v) e
unfolding block_at
block_exact k s g at v e wide h =
    let a = answer (block_inside k g at v) (block_extent k s at v) e h in
    subst (Exact (Occupies k s at v)) a.1 (extent_exact k s g at v wide a.0)

-- A block that lies inside touches some byte.
pub block_touches : (k : Structure) (s : Surface) (g : Grid) (at : Position) (v : Vector) (e : Extent) → block_at k s g at v ≡ Some e → 0 < e.end
unfolding block_at
block_touches k s g at v e h =
    let a = answer (block_inside k g at v) (block_extent k s at v) e h in
    omega (arith, ap (λ (x : Extent). x.end) (sym (block_is k s at v) ∙ a.1))

-- It is inside exactly when every luma sample lies in columns 0 to 16W−1 and rows 0 to 16H−1, of a field 0 to 8H−1.
pub inside_exactly : (k : Structure) (s : Surface) (g : Grid) (at : Position) (v : Vector)
    → (((e : Extent) × (block_at k s g at v ≡ Some e)) → InPicture k g at v) × (InPicture k g at v → (e : Extent) × (block_at k s g at v ≡ Some e))
unfolding block_at
inside_exactly k s g at v = (only, all)
  where
    only : ((e : Extent) × (block_at k s g at v ≡ Some e)) → InPicture k g at v
    only h =
        let t = tests k g at v (answer (block_inside k g at v) (block_extent k s at v) h.0 h.1).0 in
        (inside_within 16 at.column g.columns v.x t.0, inside_within (rows_in k luma) at.row g.rows v.y t.1)

    all : InPicture k g at v → (e : Extent) × (block_at k s g at v ≡ Some e)
    all w =
        let x = within_inside 16 at.column g.columns v.x (omega arith) w.0 in
        let y = within_inside (rows_in k luma) at.row g.rows v.y (rows_pos k luma) w.1 in
        (block_extent k s at v, ap (λ (t : Bool). cond t (Some (block_extent k s at v)) None) (ap₂ ◌&&◌ x y))

-- A macroblock's own samples lie inside.
pub own_inside : (s : Surface) (g : Grid) (at : Position) → at.column < g.columns → at.row < g.rows → (e : Extent) × (block_at Frame s g at still ≡ Some e)
unfolding block_at
own_inside s g at hx hy = (
  block_extent Frame s at still,
  ap (λ (t : Bool). cond t (Some (block_extent Frame s at still)) None) (ap₂ ◌&&◌ (here at.column g.columns hx) (here at.row g.rows hy)),
)
  where
    here : (place n : ℕ) → place < n → inside 16 place n (pos 0) ≡ true
    here place n h = ap (inside 16 place n) (pos_sub 0) ∙ inside_holds 16 place 0 0 n (omega arith) (omega arith)
