-- Numbers as little-endian bytes: the lowest byte stands first.
-- To be believed: the order of bytes. Reading and writing undo each other, by `bytes_back` and `number_back` (proofs/LittleEndian.antt).
use Rattle.std.specs.Prelude.{ℕ, zero, suc, ◌+◌, ◌*◌, ◌/◌, ◌%◌, ◌<◌, List, [], ◌∷◌, get_or}

-- The k lowest bytes of n.
abbrev pub bytes_of : ℕ → ℕ → List ℕ
bytes_of zero n = []
bytes_of (suc k) n = n % 256 ∷ bytes_of k (n / 256)

-- The number that bytes stand for.
abbrev pub number_in : List ℕ → ℕ
number_in [] = 0
number_in (b ∷ bs) = b + 256 * number_in bs

-- The k elements of a list from index i on; 0 in place of one that is not there.
abbrev pub elements : List ℕ → ℕ → ℕ → List ℕ
elements xs i zero = []
elements xs i (suc k) = get_or xs i 0 ∷ elements xs (suc i) k

-- every element is a byte
abbrev pub Bytes : List ℕ → Type 0
Bytes [] = Unit {0}
Bytes (b ∷ bs) = (b < 256) × Bytes bs
