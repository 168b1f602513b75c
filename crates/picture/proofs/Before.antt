-- What PICTURE's rules answered before document 02's R-6, against what they answer now.
use mathlib.Core.Bool.{Bool, true, false, ◌&&◌}
use mathlib.Core.List.{List, [], ◌∷◌}
use mathlib.Core.Path.{◌≡◌, refl, sym, ap, ◌∙◌}
use Prim.Native.Nat.{ℕ}
use lib.Dec.{eqb}
use Rattle.fields.specs.Word.{bits, has_bits, zero_bits}
use Rattle.answers.specs.Answers.{rule, judged, refused, Answer}
use Rattle.headers.specs.Words.{word_at}
use Rattle.picture.specs.Before.{picture_rules_before}
use Rattle.picture.specs.Pictures.{picture_of, codes_permitted, size_permitted, picture_rules}
use Rattle.picture.specs.declared.Frame.{Frame}

-- The tables differ in the bits of word 1 alone.
abbrev answered : Bool → Bool → Bool → Answer
answered fixed typed sized = judged (rule 4 1 fixed ∷ rule 5 2 typed ∷ rule 5 3 sized ∷ [])

with_true : (a b : Bool) → a && b ≡ (a && true) && b
with_true true b = refl
with_true false b = refl

with_false : (a b : Bool) → (a && false) && b ≡ false
with_false true b = refl
with_false false b = refl

refused_first : (typed sized : Bool) → answered false typed sized ≡ refused 4 1
refused_first true true = refl
refused_first true false = refl
refused_first false true = refl
refused_first false false = refl

-- Document 02, R-6: "All else stays for bit 10 = 1."
pub picture_before : (f : Frame) (ws : List ℕ) → bits (word_at ws 1) 10 10 ≡ 1 → judged (picture_rules f ws) ≡ judged (picture_rules_before f ws)
unfolding picture_rules picture_rules_before
picture_before f ws e =
    let p = picture_of ws in
    let one = word_at ws 1 in
    let upper = has_bits one 13 12 3 in
    let lower = has_bits one 9 9 0 && zero_bits one 5 0 in
    let typed = codes_permitted p.coding p.forward p.backward in
    let sized = size_permitted f p.grid in
    ap (λ (b : Bool). answered b typed sized) (with_true upper lower)
    ∙ ap (λ (n : ℕ). answered ((upper && eqb n 1) && lower) typed sized) (sym e)

-- "PICTURE bit 10 may now be 0": before, that gave 4 at word 1, whatever else the command broke.
pub picture_refused_before : (f : Frame) (ws : List ℕ) → bits (word_at ws 1) 10 10 ≡ 0 → judged (picture_rules_before f ws) ≡ refused 4 1
unfolding picture_rules_before
picture_refused_before f ws e =
    let p = picture_of ws in
    let one = word_at ws 1 in
    let upper = has_bits one 13 12 3 in
    let lower = has_bits one 9 9 0 && zero_bits one 5 0 in
    let typed = codes_permitted p.coding p.forward p.backward in
    let sized = size_permitted f p.grid in
    ap (λ (n : ℕ). answered ((upper && eqb n 1) && lower) typed sized) e
    ∙ ap (λ (b : Bool). answered b typed sized) (with_false upper lower)
    ∙ refused_first typed sized
