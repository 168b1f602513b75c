-- Where counting begins, what is open then and what is touched.
use mathlib.Core.Bool.{false}
use mathlib.Core.List.{[], ◌∷◌, map}
use mathlib.Core.Path.{◌≡◌, refl}
use Rattle.prediction.specs.Extents.{empty_extent}
use Rattle.progress.specs.Buffers.{buffers, extent_of}
use Rattle.progress.specs.Progress.{fresh}

beginning : fresh.position.column ∷ fresh.position.row ∷ [] ≡ 0 ∷ 0 ∷ []
unfolding fresh
beginning = refl

nothing_open : fresh.stage.in_group ∷ fresh.stage.in_slice ∷ fresh.stage.ended ∷ [] ≡ false ∷ false ∷ false ∷ []
unfolding fresh
nothing_open = refl

nothing_touched : map (λ b. extent_of b fresh.extents) buffers ≡ empty_extent ∷ empty_extent ∷ empty_extent ∷ empty_extent ∷ []
unfolding fresh
nothing_touched = refl
