-- A worked list of calls: each adds its number to the state that was handed on.
use mathlib.Core.List.{[], ◌∷◌}
use mathlib.Core.Path.{◌≡◌, refl}
use Prim.Native.Nat.{ℕ, ◌+◌}
use Rattle.lists.specs.Calls.{Along}

added : Along (λ (s c t : ℕ). t ≡ s + c) 5 (1 ∷ 2 ∷ []) 8
added = (6, refl, (8, refl, refl))
