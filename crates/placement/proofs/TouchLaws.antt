-- What a macroblock that is accepted touches of each buffer is joined to what was touched before, exactly.
use mathlib.Core.Bool.{true}
use mathlib.Core.List.{List, [], ◌∷◌}
use mathlib.Core.Logic.{◌⊎◌, inl, inr}
use mathlib.Core.Path.{◌≡◌, refl, ap}
use Prim.Native.Nat.{ℕ, ◌≤◌, ◌<◌}
use Rattle.lists.proofs.Booleans.{no}
use Rattle.prediction.specs.Vectors.{still}
use Rattle.prediction.specs.Extents.{joined, Exact}
use Rattle.prediction.specs.Blocks.{Occupies, block_at}
use Rattle.std.specs.Prelude.{Some, None, Option}
use Rattle.prediction.specs.declared.Extent.{Extent}
use Rattle.prediction.specs.declared.Grid.{Grid}
use Rattle.prediction.specs.declared.Position.{Position}
use Rattle.prediction.specs.declared.Surface.{Surface}
use Rattle.prediction.specs.declared.Vector.{Vector}
use Rattle.prediction.proofs.BlockLaws.{block_exact, own_inside}
use Rattle.prediction.proofs.ExtentLaws.{empty_exact, exact_same, join_exact}
use Rattle.prediction.specs.declared.Structure.{Structure}
use Rattle.prediction.specs.declared.Structure.TheVariants.{Frame}
use Rattle.answers.specs.Answers.{judged, Accepted}
use Rattle.answers.proofs.Judging.{rule_kept}
use Rattle.macroblock.specs.Macroblocks.{macroblock_of}
use Rattle.picture.specs.declared.Codes.{Codes}
use Rattle.progress.specs.Buffers.{Buffer, source, reconstructed, forward, backward, extent_of}
use Rattle.progress.specs.declared.Progress.{Progress}
use Rattle.placement.specs.Blocks.{forward_of, backward_of, bottom_of, is_inside, extent_in, predicted, blocks_of, Reference}
use Rattle.placement.specs.Placing.{placed_rules, macroblock_rules}
use Rattle.placement.specs.Progressing.{extents_after, progress_after, macroblock_next}
use Rattle.placement.specs.Touching.{references_in, TouchedThrough, TouchedBy}
use Rattle.placement.proofs.MacroblockLaws.{row_left}

-- a block that lies inside
inside_exact : (k : Structure) (s : Surface) (g : Grid) (at : Position) (v : Vector) → 16 ≤ s.pitch → is_inside (block_at k s g at v) ≡ true
    → Exact (Occupies k s at v) (extent_in (block_at k s g at v))
inside_exact k s g at v wide = by (block_at k s g at v) refl
  where
    by : (b : Option Extent) → block_at k s g at v ≡ b → is_inside b ≡ true → Exact (Occupies k s at v) (extent_in b)
    by None e h = absurd (no h)
    by (Some x) e h = block_exact k s g at v x wide e

-- a macroblock's own samples
own_exact : (s : Surface) (g : Grid) (at : Position) → 16 ≤ s.pitch → at.column < g.columns → at.row < g.rows
    → Exact (Occupies Frame s at still) (extent_in (block_at Frame s g at still))
own_exact s g at wide x y = let e = own_inside s g at x y in inside_exact Frame s g at still wide (ap is_inside e.1)

-- the block that it is predicted from in one reference
predicted_exact : (s : Surface) (g : Grid) (at : Position) (c : Codes) (r : Reference) → 16 ≤ s.pitch → (predicted s g at c r).inside ≡ true
    → Exact (TouchedThrough s at r) (predicted s g at c r).extent
unfolding predicted
predicted_exact s g at c None wide h = empty_exact
predicted_exact s g at c (Some (k, v)) wide h = inside_exact k s g at v wide h

-- one block, and two, joined to what was touched before
module _ {Before : ℕ → Type 0} {e : Extent} (before : Exact Before e) (s : Surface) (at : Position) where
  one_more : (r : Reference) {x : Extent} → Exact (TouchedThrough s at r) x → Exact (λ (byte : ℕ). Before byte ⊎ TouchedBy s at (r ∷ []) byte) (joined e x)
  one_more r p = exact_same to from (join_exact before p)
    where
      to : (byte : ℕ) → Before byte ⊎ TouchedThrough s at r byte → Before byte ⊎ (TouchedThrough s at r byte ⊎ ⊥)
      to byte (inl h) = inl h
      to byte (inr h) = inr (inl h)

      from : (byte : ℕ) → Before byte ⊎ (TouchedThrough s at r byte ⊎ ⊥) → Before byte ⊎ TouchedThrough s at r byte
      from byte (inl h) = inl h
      from byte (inr (inl h)) = inr h
      from byte (inr (inr h)) = absurd h

  two_more : (r q : Reference) {x y : Extent} → Exact (TouchedThrough s at r) x → Exact (TouchedThrough s at q) y
      → Exact (λ (byte : ℕ). Before byte ⊎ TouchedBy s at (r ∷ q ∷ []) byte) (joined (joined e x) y)
  two_more r q p o = exact_same to from (join_exact (join_exact before p) o)
    where
      to : (byte : ℕ) → (Before byte ⊎ TouchedThrough s at r byte) ⊎ TouchedThrough s at q byte
          → Before byte ⊎ (TouchedThrough s at r byte ⊎ (TouchedThrough s at q byte ⊎ ⊥))
      to byte (inl (inl h)) = inl h
      to byte (inl (inr h)) = inr (inl h)
      to byte (inr h) = inr (inr (inl h))

      from : (byte : ℕ) → Before byte ⊎ (TouchedThrough s at r byte ⊎ (TouchedThrough s at q byte ⊎ ⊥))
          → (Before byte ⊎ TouchedThrough s at r byte) ⊎ TouchedThrough s at q byte
      from byte (inl h) = inl (inl h)
      from byte (inr (inl h)) = inl (inr h)
      from byte (inr (inr (inl h))) = inr h
      from byte (inr (inr (inr h))) = absurd h

-- What is touched after a macroblock that is accepted: what was touched before, and the samples of its own blocks.
pub next_exact : (p : Progress) (ws : List ℕ) → judged (macroblock_rules p ws) ≡ Accepted
    → 16 ≤ p.frame.surface.pitch → p.position.column < p.picture.grid.columns
    → (b : Buffer) {Before : ℕ → Type 0} → Exact Before (extent_of b p.extents)
    → Exact (λ (byte : ℕ). Before byte ⊎ TouchedBy p.frame.surface p.position (references_in b (macroblock_of ws).case) byte) (extent_of b (macroblock_next p ws).extents)
unfolding macroblock_rules placed_rules macroblock_next progress_after extents_after blocks_of
next_exact p ws accepted wide in_row b before = by b before
  where
    s : Surface
    s = p.frame.surface

    own : Exact (Occupies Frame s p.position still) (extent_in (block_at Frame s p.picture.grid p.position still))
    own = own_exact s p.picture.grid p.position wide in_row (row_left p ws accepted)

    through : (c : Codes) (r : Reference) → (predicted s p.picture.grid p.position c r).inside ≡ true → Exact (TouchedThrough s p.position r) (predicted s p.picture.grid p.position c r).extent
    through c r = predicted_exact s p.picture.grid p.position c r wide

    by : (b : Buffer) {Before : ℕ → Type 0} → Exact Before (extent_of b p.extents)
        → Exact (λ (byte : ℕ). Before byte ⊎ TouchedBy s p.position (references_in b (macroblock_of ws).case) byte) (extent_of b (macroblock_next p ws).extents)
    by source before = one_more before s p.position (Some (Frame, still)) own
    by reconstructed before = one_more before s p.position (Some (Frame, still)) own
    by forward before =
        two_more before s p.position (forward_of (macroblock_of ws).case) (bottom_of (macroblock_of ws).case)
        (through p.picture.forward (forward_of (macroblock_of ws).case) (rule_kept 10 5 (macroblock_rules p ws) accepted))
        (through p.picture.forward (bottom_of (macroblock_of ws).case) (rule_kept 10 7 (macroblock_rules p ws) accepted))
    by backward before =
        one_more before s p.position (backward_of (macroblock_of ws).case)
        (through p.picture.backward (backward_of (macroblock_of ws).case) (rule_kept 10 6 (macroblock_rules p ws) accepted))
