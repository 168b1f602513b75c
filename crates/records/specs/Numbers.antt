-- Which numbers and places reading one command alone and writing one record alone can answer with. What is quoted is document 01.
-- Proved: of `read_answer` and `write_answer`, by `read_numbers` and `write_numbers` (proofs/Numbers.antt).
use Rattle.std.specs.Prelude.{ℕ, cond, List, [], ◌∷◌, map, eqb, length}
use Rattle.records.specs.Layout.{record_length}

-- "One command read alone keeps 2, 1, 4, 5 (without picture type), 8 and the first two skip rules .. 14 follows all these." 1 at the
-- words given, 2 at the header, 4 and 5 at words 1, 3 and 4, 8 at words 5 to 8, 11 at word 1, 14 with the bytes needed.
abbrev pub read_places : List ℕ → List (ℕ × ℕ)
read_places words =
    (0, 0) ∷ (1, length words) ∷ (2, 0)
    ∷ (4, 1) ∷ (4, 3) ∷ (4, 4)
    ∷ (5, 1) ∷ (5, 3) ∷ (5, 4)
    ∷ (8, 5) ∷ (8, 6) ∷ (8, 7) ∷ (8, 8)
    ∷ (11, 1)
    ∷ (14, record_length)
    ∷ []

-- The bytes of a record that can be its first bad one: "6 kind .. 7 skip; 8 pattern", "11 quantiser; 12 flags .. 13 to 15 zero", and
-- 16 to 23, a vector each four, "zero when absent".
abbrev pub bad_bytes : List ℕ
bad_bytes = 6 ∷ 7 ∷ 8 ∷ 11 ∷ 12 ∷ 13 ∷ 14 ∷ 15 ∷ 16 ∷ 17 ∷ 18 ∷ 19 ∷ 20 ∷ 21 ∷ 22 ∷ 23 ∷ []

-- Writing a record of 24 bytes: 15 at such a byte, 14 with the nine words needed. "A length other than 24 gets 15 at byte 0."
abbrev pub record_places : List (ℕ × ℕ)
record_places = (0, 0) ∷ (14, 9) ∷ map (λ b. (15, b)) bad_bytes

abbrev pub write_places : List ℕ → List (ℕ × ℕ)
write_places bytes = cond (eqb (length bytes) record_length) record_places ((15, 0) ∷ [])
