-- Where samples stand in a picture buffer.
-- To be believed: document 02's formula. Every byte is that of one column and row, by `address_once` and `address_every` (proofs/AddressOnce.antt).
use Rattle.std.specs.Prelude.{ℕ, ◌+◌, ◌*◌, ◌/◌, ◌%◌}
use Rattle.prediction.specs.declared.Surface.{Surface}

-- The byte at column b and row r of a buffer in Y tiles. Document 02, R-3: "A byte at column b, row r is at (r div 32)·32·pitch +
-- (b div 128)·4096 + ((b mod 128) div 16)·512 + (r mod 32)·16 + b mod 16". What is claimed of touched bytes rests on two laws
-- alone: it grows with the column and with the row (proofs/AddressGrows.antt).
unfoldable pub address : ℕ → ℕ → ℕ → ℕ
address pitch b r = r / 32 * 32 * pitch + b / 128 * 4096 + b % 128 / 16 * 512 + r % 32 * 16 + b % 16

pub data Plane : Type 0 where
  luma cb cr : Plane

-- ".. where chroma rows are C+y and columns are 2x and 2x+1 as before": 2x for Cb, "Cr the next" (document 01). A luma sample
-- (x, y) is at column x, row y.
abbrev pub sample_byte : Surface → Plane → ℕ → ℕ → ℕ
sample_byte s luma x y = address s.pitch x y
sample_byte s cb x y = address s.pitch (2 * x) (s.chroma_row + y)
sample_byte s cr x y = address s.pitch (2 * x + 1) (s.chroma_row + y)
