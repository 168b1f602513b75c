-- Which numbers and places are answered: a list of them, and answers that are in it.
-- Proved: against `judged`, by `table_listed` (proofs/NumberLaws.antt).
use Rattle.std.specs.Prelude.{ℕ, ◌≤◌, Bool, true, false, ◌&&◌, ◌||◌, List, [], ◌∷◌, ◌⊎◌, ◌≡◌, eqb, leb, Err}
use Rattle.answers.specs.Answers.{Rule, Accepted, Answer}

-- A number with its place is in a list.
abbrev pub Among : ℕ → ℕ → List (ℕ × ℕ) → Type 0
Among n p [] = ⊥
Among n p ((m, q) ∷ rest) = ((n ≡ m) × (p ≡ q)) ⊎ Among n p rest

-- An answer's number and place are, and nothing is refused by number 0.
abbrev pub OneOf : List (ℕ × ℕ) → Answer → Type 0
OneOf places Accepted = Among 0 0 places
OneOf places (Err f) = (1 ≤ f.number) × Among f.number f.place places

-- The test that a number with its place is in a list, and that those of each rule of a table are.
abbrev pub among : ℕ → ℕ → List (ℕ × ℕ) → Bool
among n p [] = false
among n p ((m, q) ∷ rest) = (eqb n m && eqb p q) || among n p rest

abbrev pub all_among : List (ℕ × ℕ) → List Rule → Bool
all_among places [] = true
all_among places (r ∷ rs) = (leb 1 r.number && among r.number r.place places) && all_among places rs
