-- Two's complement at sixteen bits: the machine's reading of the bits is the definition's, and the two definitions undo
-- each other; so a vector's word and a word's vector do.
use mathlib.Core.Path.{◌≡◌, refl, sym, ap, ap₂, subst, ◌∙◌}
use mathlib.Core.Logic.{◌⊎◌, inl, inr}
use Prim.Native.Nat.{ℕ, ◌^◌, ◌<◌, ◌≤◌}
use native.Mathlib.Omega.{arith}
use borrow.Author.Rules.{sfits_of}
use borrow.Author.Tests.{lt-ltb, le-ltb}
use lib.IntN.{ℤ, pos, negsuc}
use lib.Signed.{mag}
use mir.Syntax.{w16}
use mir.Val.{to_z, of_z, SFits}
use mir.Facts.{to_z-of_z, of_z-to_z, sfits_to_z}
use Rattle.fields.specs.Word.{halves_of, word_of_halves}
use Rattle.fields.specs.declared.Halves.{Halves}
use Rattle.fields.proofs.Fields.{halves, halves_back, word_back, with_bits_lt}
use Rattle.prediction.specs.Vectors.{signed16, bits16, vector_of, word_of}
use Rattle.prediction.specs.declared.Vector.{Vector}
use Rattle.prediction.proofs.Integers.{split, sub_neg}

pub to_z_signed : (n : ℕ) → n < 65536 → to_z w16 n ≡ signed16 n
to_z_signed n h = by (split n 32768)
  where
    by : (n < 32768) ⊎ (32768 ≤ n) → to_z w16 n ≡ signed16 n
    by (inl l) = simp (lt-ltb n 32768 l)
    by (inr l) = simp (le-ltb n 32768 l) (sym (sub_neg n 65536 h))

pub of_z_bits : (v : ℤ) → of_z w16 v ≡ bits16 v
of_z_bits (pos n) = refl
of_z_bits (negsuc n) = omega arith

pub bits_lt : (v : ℤ) → SFits w16 v → bits16 v < 65536
bits_lt (pos n) f = omega (arith, f.sfits)
bits_lt (negsuc n) f = omega arith

pub signed_bits : (v : ℤ) → SFits w16 v → signed16 (bits16 v) ≡ v
signed_bits v f = sym (to_z_signed (bits16 v) (bits_lt v f)) ∙ ap (to_z w16) (sym (of_z_bits v)) ∙ to_z-of_z f

pub bits_signed : (n : ℕ) → n < 65536 → bits16 (signed16 n) ≡ n
bits_signed n h = sym (of_z_bits (signed16 n)) ∙ ap (of_z w16) (sym (to_z_signed n h)) ∙ of_z-to_z {w = w16} (record { fits = h })

-- a number that was held as bits
pub read_back : (z : ℤ) → mag z < 32768 → to_z w16 (of_z w16 z) ≡ z
read_back z h = to_z-of_z {w = w16} (sfits_of h)

-- what sixteen bits stand for fits sixteen bits
pub signed_fits : (n : ℕ) → n < 65536 → SFits w16 (signed16 n)
signed_fits n h = subst (SFits w16) (to_z_signed n h) (sfits_to_z {w = w16} (record { fits = h }))

pub vector_fits : (w : ℕ) → SFits w16 (vector_of w).x × SFits w16 (vector_of w).y
unfolding vector_of
vector_fits w = (signed_fits (halves_of w).low (omega arith), signed_fits (halves_of w).high (omega arith))

-- a vector's word is a word
pub word_lt : (v : Vector) → SFits w16 v.x → word_of v < 2 ^ 32
unfolding word_of
word_lt v fx = let low = bits_lt v.x fx in with_bits_lt (bits16 v.x) 31 16 (bits16 v.y) (omega arith)

abbrev pub pair : ℤ → ℤ → Vector
pair x y = record { x = x; y = y }

-- Word to vector to word, and vector to word to vector, give the same bits.
pub vector_back : (v : Vector) → SFits w16 v.x → SFits w16 v.y → vector_of (word_of v) ≡ v
unfolding vector_of word_of
vector_back v fx fy =
    let h = halves_back (halves (bits16 v.x) (bits16 v.y)) (bits_lt v.x fx) (bits_lt v.y fy) in
    ap (λ (g : Halves). pair (signed16 g.low) (signed16 g.high)) h ∙ ap₂ pair (signed_bits v.x fx) (signed_bits v.y fy)

pub vector_word_back : (w : ℕ) → w < 2 ^ 32 → word_of (vector_of w) ≡ w
unfolding vector_of word_of
vector_word_back w h =
    let low = bits_signed (halves_of w).low (omega arith) in
    let high = bits_signed (halves_of w).high (omega arith) in
    ap word_of_halves (ap₂ halves low high) ∙ word_back w h
