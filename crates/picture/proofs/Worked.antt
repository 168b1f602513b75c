-- The documents' own numbers, computed from the definitions.
use mathlib.Core.Path.{◌≡◌, refl}
use mathlib.Core.Bool.{true}
use Rattle.answers.specs.Examples.{found, due, all_shown}
use Rattle.headers.specs.Examples.{read_by, said}
use Rattle.picture.specs.Examples.{p1_surface, surface_readings, surfaces_kept, surface_examples, first_word, rules_on, picture_readings, bit_examples, bit10_examples, type_examples, size_examples, picture_examples}
use Rattle.picture.specs.Pictures.{picture_of, picture_rules}
use Rattle.picture.specs.Surfaces.{surface_of, surface_rules}

-- SURFACE: its fields; and each example breaks the rules that it says and no other, and every rule is shown
surface_fields : read_by surface_of surface_readings ≡ said surface_readings
unfolding surface_readings surface_of
surface_fields = refl

surface_rules_lem : (found surface_rules surface_examples ≡ due surface_examples) × (all_shown surface_examples (surface_rules p1_surface) ≡ true)
unfolding surface_examples surfaces_kept surface_rules surface_of
surface_rules_lem = (refl, refl)

-- PICTURE, likewise
picture_fields : read_by picture_of picture_readings ≡ said picture_readings
unfolding picture_readings picture_of
picture_fields = refl

picture_rules_lem : (found rules_on picture_examples ≡ due picture_examples) × (all_shown picture_examples (rules_on (first_word 0xFFFF3400)) ≡ true)
unfolding picture_examples bit_examples bit10_examples type_examples size_examples picture_rules picture_of
picture_rules_lem = (refl, refl)
