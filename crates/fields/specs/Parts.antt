-- Records of bytes: the parts of a record, each a number in some of its bytes, little-endian.
-- To be believed: what a record holds of numbers, and which number a part holds. `value_there` (proofs/PartLaws.antt) reads the parts of a record
-- that stands among others.
use Rattle.std.specs.Prelude.{ℕ, ◌*◌, List, [], ◌∷◌, replicate, take, drop}
use Rattle.std.proofs.lemmas.List.Edits.{sets}
use Rattle.fields.specs.Bytes.{bytes_of, number_in, elements}

-- A part of a record: its first byte, and how many bytes it has.
pub record Part : Type 0 where
  pub first : ℕ
  pub count : ℕ

abbrev pub part : ℕ → ℕ → Part
part first count = record { first = first; count = count }

-- A part with the number that it holds.
pub record Entry : Type 0 where
  pub place : Part
  pub value : ℕ

abbrev pub entry : Part → ℕ → Entry
entry p v = record { place = p; value = v }

-- A record of n bytes in which the listed parts hold their numbers and all other bytes are zero.
abbrev pub laid : ℕ → List Entry → List ℕ
laid n [] = replicate n 0
laid n (e ∷ es) = sets (laid n es) e.place.first (bytes_of e.place.count e.value)

-- The number that a part of a record holds.
abbrev pub value_at : Part → List ℕ → ℕ
value_at p bytes = number_in (elements bytes p.first p.count)

-- The k-th of records of n bytes, one behind the other.
abbrev pub record_at : ℕ → List ℕ → ℕ → List ℕ
record_at n bytes k = take n (drop (n * k) bytes)
