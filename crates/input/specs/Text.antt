-- Numbers and words as bytes of a text in ASCII.
-- To be believed: the bytes of a text. Decimal digits stand for their number, by `decimal_value` (crates/input_code/proofs/Texts.antt).
use Prim.Native.Char.{code}
use Rattle.std.specs.Prelude.{ℕ, zero, suc, ◌+◌, ◌*◌, ◌-◌, ◌/◌, ◌%◌, cond, ltb}
use Prim.Native.String as string
use mathlib.Core.List.{List, [], ◌∷◌, ◌++◌, foldl}

-- The bytes of a text.
abbrev pub ascii : string.String → List ℕ
ascii string.[] = []
ascii (string.◌∷◌ c s) = code c ∷ ascii s

-- The byte of a digit, `0` to `9`.
abbrev pub digit : ℕ → ℕ
digit d = 48 + d

-- A number below 10^k in decimal, without zeros in front.
abbrev pub digits : ℕ → ℕ → List ℕ
digits zero n = []
digits (suc k) n = cond (ltb n 10) (digit n ∷ []) (digits k (n / 10) ++ (digit (n % 10) ∷ []))

-- A number of 64 bits in decimal: at most twenty digits.
unfoldable pub decimal : ℕ → List ℕ
decimal n = digits 20 n

-- The number that digits stand for.
abbrev pub value_of : List ℕ → ℕ
value_of bytes = foldl (λ (v b : ℕ). 10 * v + (b - 48)) 0 bytes

-- Each number with a space before it.
abbrev pub spaced : List ℕ → List ℕ
spaced [] = []
spaced (n ∷ ns) = 32 ∷ (decimal n ++ spaced ns)
