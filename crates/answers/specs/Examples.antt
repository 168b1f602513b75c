-- Worked examples of a table of rules: what is judged, and which rules of the table the papers say that it breaks.
-- To be believed: the statements over such lists say no more than these definitions.
use Rattle.std.specs.Prelude.{ℕ, Bool, true, false, cond, ◌&&◌, ◌||◌, List, [], ◌∷◌, map, eqb, set}
use Rattle.answers.specs.Answers.{Rule}

-- What is judged, and the number and the place of each rule that it breaks.
pub record Example (A : Type 0) : Type 0 where
  pub given : A
  pub breaks : List (ℕ × ℕ)

-- One that keeps every rule, and one that breaks one rule and no other.
abbrev pub keeping : {A : Type 0} → A → Example A
keeping a = record { given = a; breaks = [] }

abbrev pub breaking : {A : Type 0} → ℕ → ℕ → A → Example A
breaking n p a = record { given = a; breaks = (n, p) ∷ [] }

-- Words or bytes of which the i-th is each of these, one at a time: all keep every rule, or all break one and no other.
abbrev pub keeping_each : List ℕ → ℕ → List ℕ → List (Example (List ℕ))
keeping_each ws i others = map (λ w. keeping (set ws i w)) others

abbrev pub breaking_each : ℕ → ℕ → List ℕ → ℕ → List ℕ → List (Example (List ℕ))
breaking_each n p ws i others = map (λ w. breaking n p (set ws i w)) others

-- The number and the place of each rule of a table that does not hold.
abbrev pub broken_in : List Rule → List (ℕ × ℕ)
broken_in [] = []
broken_in (r ∷ rs) = cond r.holds (broken_in rs) ((r.number, r.place) ∷ broken_in rs)

-- What a table finds of examples, and what is due.
abbrev pub found : {A : Type 0} → (A → List Rule) → List (Example A) → List (List (ℕ × ℕ))
found table examples = map (λ x. broken_in (table x.given)) examples

abbrev pub due : {A : Type 0} → List (Example A) → List (List (ℕ × ℕ))
due examples = map (λ x. x.breaks) examples

-- Whether a rule, by its number and place, is among those that are broken, in one list or in one of several.
abbrev pub named : Rule → List (ℕ × ℕ) → Bool
named r [] = false
named r ((n, p) ∷ rest) = (eqb r.number n && eqb r.place p) || named r rest

abbrev pub named_in : Rule → List (List (ℕ × ℕ)) → Bool
named_in r [] = false
named_in r (broken ∷ others) = named r broken || named_in r others

-- Every rule of a table is broken somewhere.
abbrev pub all_broken : List (List (ℕ × ℕ)) → List Rule → Bool
all_broken lists [] = true
all_broken lists (r ∷ rs) = named_in r lists && all_broken lists rs

-- Every rule of a table is shown by an example that breaks it.
abbrev pub all_shown : {A : Type 0} → List (Example A) → List Rule → Bool
all_shown examples rules = all_broken (due examples) rules
