-- What is said of a table of rules.
-- Proved: against `judged`, by `in_order`, `all_hold`, `none_broken`, `judged_by` and `judged_within` (proofs/Judging.antt).
use Rattle.std.specs.Prelude.{◌≡◌, Bool, true, cond, not, ◌&&◌, List, [], ◌∷◌, ℕ, leb}
use Rattle.answers.specs.Answers.{Rule, before, Accepted, refused, Answer}

-- The refusal by the first rule that does not hold.
abbrev pub first_broken : List Rule → Answer
first_broken [] = Accepted
first_broken (r ∷ rs) = cond r.holds (first_broken rs) (refused r.number r.place)

-- No rule of a table comes before number n at place p; and a table in order: no rule comes before one that it lists earlier.
abbrev pub none_before : ℕ → ℕ → List Rule → Bool
none_before n p [] = true
none_before n p (r ∷ rs) = not (before r.number r.place n p) && none_before n p rs

abbrev pub ascending : List Rule → Bool
ascending [] = true
ascending (r ∷ rs) = none_before r.number r.place rs && ascending rs

-- Every rule of a table holds.
abbrev pub Hold : List Rule → Type 0
Hold [] = Unit {0}
Hold (r ∷ rs) = (r.holds ≡ true) × Hold rs

-- Something holds of the refusal by each rule of a table.
abbrev pub Each : (Answer → Type 0) → List Rule → Type 0
Each P [] = Unit {0}
Each P (r ∷ rs) = P (refused r.number r.place) × Each P rs

-- Every rule of a table has a number from 2 to m and a place up to n. 1 is no rule's number: it is given where words run out.
abbrev pub within : ℕ → ℕ → List Rule → Bool
within m n [] = true
within m n (r ∷ rs) = (leb 2 r.number && leb r.number m) && (leb r.place n && within m n rs)
