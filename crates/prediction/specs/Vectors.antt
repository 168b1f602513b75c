-- Motion vectors in their words. Document 01: "x in the low half, y in the high half, two's complement, half samples."
-- To be believed: the halves of a word and their sign. A vector and its word undo each other, by `vector_back` (proofs/TwosComplement.antt).
use Rattle.std.specs.Prelude.{ℕ, ◌-◌, cond, ltb, ℤ, pos, negsuc, ◌-ℤ◌}
use Rattle.fields.specs.Word.{halves_of, word_of_halves}
use Rattle.prediction.specs.declared.Vector.{Vector}

-- The number that sixteen bits stand for in two's complement: n below 32768, else n - 65536.
abbrev pub signed16 : ℕ → ℤ
signed16 n = cond (ltb n 32768) (pos n) (pos n -ℤ pos 65536)

-- The sixteen bits of a number: v, or v + 65536 where v is negative (negsuc n is -(n + 1)).
abbrev pub bits16 : ℤ → ℕ
bits16 (pos n) = n
bits16 (negsuc n) = 65535 - n

-- The vector of a word.
unfoldable pub vector_of : ℕ → Vector
vector_of word = record { x = signed16 (halves_of word).low; y = signed16 (halves_of word).high }

-- The word of a vector.
unfoldable pub word_of : Vector → ℕ
word_of v = word_of_halves (record { low = bits16 v.x; high = bits16 v.y })

-- The vector that moves nothing: a macroblock's own samples are the block that it displaces.
abbrev pub still : Vector
still = record { x = pos 0; y = pos 0 }
