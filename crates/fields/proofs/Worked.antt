-- Fields of words that document 01's case P1 holds, computed from the definitions.
use mathlib.Core.Path.{◌≡◌, refl}
use mathlib.Core.List.{[], ◌∷◌}
use mathlib.Core.Bool.{true, false}
use Rattle.fields.specs.Word.{bits, has_bits, zero_bits, with_bits, halves_of}
use Rattle.fields.specs.Bytes.{bytes_of, number_in}
use Rattle.fields.proofs.Fields.{halves}

-- SURFACE word 2: "height−1 in 31:18, width−1 in 17:4"; word 3: "31:28 = 4, 27 = 1, .. pitch−1 in 19:3, .. 1:0 = 3"
surface : bits 0x003c00f0 31 18 ∷ bits 0x003c00f0 17 4 ∷ bits 0x480003fb 31 28 ∷ bits 0x480003fb 27 27 ∷ bits 0x480003fb 19 3 ∷ bits 0x480003fb 1 0 ∷ []
    ≡ 15 ∷ 15 ∷ 4 ∷ 1 ∷ 127 ∷ 3 ∷ []
surface = refl

-- "31:28 = 4, .. 26:20 zero, .. 1:0 = 3": they have these values, and not others
fixed : has_bits 0x480003fb 31 28 4 ∷ has_bits 0x480003fb 1 0 3 ∷ has_bits 0x480003fb 1 0 2 ∷ zero_bits 0x480003fb 26 20 ∷ zero_bits 0x480003fb 19 3 ∷ []
    ≡ true ∷ true ∷ false ∷ true ∷ false ∷ []
fixed = refl

-- the same words, packed
packed : with_bits (with_bits 0 17 4 15) 31 18 15 ∷ with_bits (with_bits (with_bits (with_bits 0 1 0 3) 19 3 127) 27 27 1) 31 28 4 ∷ []
    ≡ 0x003c00f0 ∷ 0x480003fb ∷ []
packed = refl

-- a field holds no more than its bits, and no more than the word has
cut : with_bits 0 12 8 0xfff ∷ with_bits 0 40 28 0xfff ∷ with_bits 7 40 32 1 ∷ bits 0xf0000000 40 28 ∷ bits 0xffffffff 3 4 ∷ []
    ≡ 0x1f00 ∷ 0xf0000000 ∷ 7 ∷ 15 ∷ 0 ∷ []
cut = refl

-- the low half is the lower sixteen bits, and the lowest byte stands first
low_half : halves_of 0x00010002 ≡ halves 2 1
low_half = refl

-- both halves have their sign bit
sign_bits : halves_of 0x80018002 ≡ halves 0x8002 0x8001
sign_bits = refl

lowest_first : bytes_of 4 0x12345678 ≡ 0x78 ∷ 0x56 ∷ 0x34 ∷ 0x12 ∷ []
lowest_first = refl

from_lowest : number_in (0x34 ∷ 0x12 ∷ []) ≡ 0x1234
from_lowest = refl
