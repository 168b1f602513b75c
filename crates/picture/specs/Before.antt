-- PICTURE's rules before document 02's R-6, for the law alone that what they answer where bit 10 is 1 has stayed. What is quoted is
-- document 01.
-- Proved: against the rules as they are, by `picture_before` (proofs/Before.antt).
use Rattle.std.specs.Prelude.{ℕ, Bool, ◌&&◌, List, [], ◌∷◌}
use Rattle.fields.specs.Word.{has_bits, zero_bits}
use Rattle.answers.specs.Answers.{Rule, rule}
use Rattle.headers.specs.Words.{word_at}
use Rattle.picture.specs.Pictures.{picture_of, codes_permitted, size_permitted}
use Rattle.picture.specs.declared.Frame.{Frame}

-- "1: .. 13:12 = 3, 10 = 1, 9 = 0, 5:0 zero, others free".
abbrev pub picture_bits1_before : ℕ → Bool
picture_bits1_before one = (has_bits one 13 12 3 && has_bits one 10 10 1) && (has_bits one 9 9 0 && zero_bits one 5 0)

unfoldable pub picture_rules_before : Frame → List ℕ → List Rule
picture_rules_before f ws =
    rule 4 1 (picture_bits1_before (word_at ws 1))
    ∷ rule 5 2 (codes_permitted (picture_of ws).coding (picture_of ws).forward (picture_of ws).backward)
    ∷ rule 5 3 (size_permitted f (picture_of ws).grid)
    ∷ []
