-- The bits of a 32-bit word, as document 01 writes them: `31:16` are bits 31 down to 16.
-- To be believed: what `hi:lo` of a word is. Writing a field and reading it undo each other, by `packed_back` (proofs/Fields.antt).
use Rattle.std.specs.Prelude.{ℕ, ◌+◌, ◌*◌, ◌-◌, ◌/◌, ◌%◌, ◌^◌, min, Bool, true, false, List, [], ◌∷◌, eqb}
use Rattle.fields.specs.declared.Halves.{Halves}

-- How many bits `hi:lo` names: hi + 1 - lo, but a word has none above bit 31. None where hi is below lo.
abbrev pub width : ℕ → ℕ → ℕ
width hi lo = min (hi + 1) 32 - lo

-- Bits `hi:lo` of a word, as a number.
abbrev pub bits : ℕ → ℕ → ℕ → ℕ
bits word hi lo = word / 2 ^ lo % 2 ^ width hi lo

-- The word with the lowest bits of value in `hi:lo`: what stands above, the field, what stands below.
abbrev pub with_bits : ℕ → ℕ → ℕ → ℕ → ℕ
with_bits word hi lo value =
    word / 2 ^ (width hi lo + lo) * 2 ^ (width hi lo + lo) + value % 2 ^ width hi lo * 2 ^ lo + word % 2 ^ lo

-- Whether bits hi:lo have a value, as document 01 writes "31:28 = 4".
abbrev pub has_bits : ℕ → ℕ → ℕ → ℕ → Bool
has_bits word hi lo value = eqb (bits word hi lo) value

-- Bits hi:lo are zero, as it writes "5:0 zero".
abbrev pub zero_bits : ℕ → ℕ → ℕ → Bool
zero_bits word hi lo = has_bits word hi lo 0

-- One bit as a flag, and a flag as a bit.
abbrev pub is_set : ℕ → Bool
is_set b = eqb b 1

abbrev pub flag : Bool → ℕ
flag true = 1
flag false = 0

-- A field and what it holds: bits `hi:lo` have the value.
pub record Field : Type 0 where
  pub hi : ℕ
  pub lo : ℕ
  pub value : ℕ

abbrev pub field : ℕ → ℕ → ℕ → Field
field hi lo value = record { hi = hi; lo = lo; value = value }

-- The word whose listed fields hold their values, and whose other bits are zero.
abbrev pub packed : List Field → ℕ
packed [] = 0
packed (f ∷ fs) = with_bits (packed fs) f.hi f.lo f.value

-- A word's halves, and the word of two halves.
abbrev pub halves_of : ℕ → Halves
halves_of word = record { low = bits word 15 0; high = bits word 31 16 }

abbrev pub word_of_halves : Halves → ℕ
word_of_halves h = with_bits h.low 31 16 h.high
