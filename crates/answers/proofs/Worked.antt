-- "words upwards, and in a word the smaller number first", computed from the definition.
use mathlib.Core.Path.{◌≡◌, refl}
use mathlib.Core.Bool.{true, false}
use mathlib.Core.List.{[], ◌∷◌}
use Rattle.answers.specs.Answers.{rule, judged, refused}

order : judged (rule 8 5 false ∷ rule 5 1 false ∷ rule 4 1 false ∷ rule 4 0 true ∷ rule 4 3 false ∷ []) ≡ refused 4 1
order = refl

-- the skip rule stands at word 1 and so before a fixed bit of word 3
skip : judged (rule 4 3 false ∷ rule 11 1 false ∷ []) ≡ refused 11 1
skip = refl
