-- Demand 3 of the check in parts: "holds alike for the batch whole and for every list of parts, handed over in order, that make it up".
use mathlib.Core.List.{List}
use mathlib.Core.Path.{◌≡◌, ap, subst, ◌∙◌}
use Prim.Native.Nat.{ℕ}
use Rattle.batch.specs.Demand.{reading_of, KeepsOthers, Demand3}
use Rattle.batch.specs.Reports.{report, Report}
use Rattle.batch.specs.declared.Lengths.{Lengths}
use Rattle.batch.proofs.BufferLengths.{settles_nothing, demand_by}
use Rattle.parts.specs.States.{InParts}
use Rattle.parts.proofs.Parts.{parts_whole}

-- an answer in parts is the answer to the whole batch
as_whole : (ws : List ℕ) (l : Lengths) (r : Report) → InParts ws l r → r ≡ report l ws
as_whole ws l r a = parts_whole l a.0 a.2.0 r a.2.1 a.2.2 ∙ ap (report l) a.1

-- One claim over all lists of parts that make the batch up, whatever states the functions returned on the way, and whichever of these
-- lists the batch was seen to keep the other rules with.
pub demand_parts : (ws : List ℕ) (l₀ : Lengths) (r₀ : Report) → InParts ws l₀ r₀ → KeepsOthers (reading_of r₀) → Demand3 reading_of ws (Unit {0}) (InParts ws)
demand_parts ws l₀ r₀ a kept =
    demand_by ws (Unit {0}) (λ r. r) settles_nothing (InParts ws) (as_whole ws) l₀ (subst (λ (r : Report). KeepsOthers (reading_of r)) (as_whole ws l₀ r₀ a) kept)
