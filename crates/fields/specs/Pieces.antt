-- What packed fields read, and the pieces that make a word up.
-- Proved: against `packed`, by `packed_field` and `packed_is` (proofs/Packing.antt).
use Rattle.std.specs.Prelude.{◌≡◌, Bool, true, cond, ◌&&◌, ◌||◌, List, [], ◌∷◌, ℕ, ◌+◌, ◌%◌, ◌^◌, eqb, leb, ltb}
use Rattle.fields.specs.Word.{Field, width, bits}

-- What the listed fields put into `h:l`.
abbrev pub value_in : List Field → ℕ → ℕ → ℕ
value_in [] h l = 0
value_in (f ∷ fs) h l = cond (eqb h f.hi && eqb l f.lo) (f.value % 2 ^ width h l) (value_in fs h l)

-- `h:l` is a field of the list, or lies wholly apart from all that stand before it.
abbrev pub clear : List Field → ℕ → ℕ → Bool
clear [] h l = true
clear (f ∷ fs) h l = cond (eqb h f.hi && eqb l f.lo) true ((ltb h f.lo || ltb f.hi l) && clear fs h l)

-- Bits `hi:lo` of a word, and lists of them.
pub record Piece : Type 0 where
  pub hi : ℕ
  pub lo : ℕ

abbrev pub piece : ℕ → ℕ → Piece
piece hi lo = record { hi = hi; lo = lo }

-- The pieces follow each other from bit k up to bit 31, and each is clear of the fields.
abbrev pub tiles : List Field → ℕ → List Piece → Bool
tiles fs k [] = eqb k 32
tiles fs k (p ∷ ps) = eqb k p.lo && (leb p.lo p.hi && (ltb p.hi 32 && (clear fs p.hi p.lo && tiles fs (p.hi + 1) ps)))

-- The fields put into each piece what the word has there.
abbrev pub Agree : List Field → ℕ → List Piece → Type 0
Agree fs w [] = Unit {0}
Agree fs w (p ∷ ps) = (value_in fs p.hi p.lo ≡ bits w p.hi p.lo) × Agree fs w ps
