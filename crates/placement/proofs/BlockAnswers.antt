-- The number and the place of a predicted block.
use mathlib.Core.Path.{◌≡◌, refl, ap}
use Prim.Native.Nat.{ℕ}
use Rattle.prediction.specs.Blocks.{InPicture, block_at}
use Rattle.std.specs.Prelude.{Some, None, Option}
use Rattle.prediction.specs.declared.Extent.{Extent}
use Rattle.prediction.specs.declared.Grid.{Grid}
use Rattle.prediction.specs.declared.Position.{Position}
use Rattle.prediction.specs.declared.Structure.{Structure}
use Rattle.prediction.specs.declared.Surface.{Surface}
use Rattle.prediction.specs.declared.Vector.{Vector}
use Rattle.prediction.proofs.BlockLaws.{inside_exactly}
use Rattle.answers.specs.Answers.{rule, answer_by, Accepted, refused}
use Rattle.answers.proofs.Judging.{no_accepted}
use Rattle.placement.specs.Blocks.{is_inside, block_answer}

-- The rule on a block answers what the block answers.
pub block_ruled : (word : ℕ) (b : Option Extent) → answer_by (rule 10 word (is_inside b)) ≡ block_answer word b
block_ruled word None = refl
block_ruled word (Some e) = refl

-- A block is accepted exactly where every luma sample lies in the picture, and else refused by 10 at its vector's word.
pub block_accepted : (word : ℕ) (k : Structure) (s : Surface) (g : Grid) (at : Position) (v : Vector)
    → (block_answer word (block_at k s g at v) ≡ Accepted → InPicture k g at v) × (InPicture k g at v → block_answer word (block_at k s g at v) ≡ Accepted)
block_accepted word k s g at v = (by (block_at k s g at v) refl, λ h. ap (block_answer word) ((inside_exactly k s g at v).1 h).1)
  where
    by : (b : Option Extent) → block_at k s g at v ≡ b → block_answer word b ≡ Accepted → InPicture k g at v
    by None e h = absurd (no_accepted h)
    by (Some x) e h = (inside_exactly k s g at v).0 (x, e)

pub block_refused : (word : ℕ) (k : Structure) (s : Surface) (g : Grid) (at : Position) (v : Vector) → (InPicture k g at v → ⊥)
    → block_answer word (block_at k s g at v) ≡ refused 10 word
block_refused word k s g at v outside = by (block_at k s g at v) refl
  where
    by : (b : Option Extent) → block_at k s g at v ≡ b → block_answer word b ≡ refused 10 word
    by None e = refl
    by (Some x) e = absurd (outside ((inside_exactly k s g at v).0 (x, e)))
