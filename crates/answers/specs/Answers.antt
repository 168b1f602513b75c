-- Answers in document 01's numbers and places, and rules that are judged together.
-- To be believed: number and place of an answer, and document 01's order of rules. Of a table in order `in_order` (proofs/Judging.antt) gives its
-- first broken rule.
use Rattle.std.specs.Prelude.{ℕ, Bool, true, cond, ◌&&◌, ◌||◌, List, [], ◌∷◌, eqb, ltb, Err, Result, Ok, ⊤}
use Rattle.answers.specs.declared.Fault.{Fault}
use Rattle.std.specs.Result.{result_and}

-- Accepted, or refused by a rule: its number, and the place.
abbrev pub Answer : Type 0
Answer = Result ⊤ Fault

pattern abbrev pub Accepted : Answer
Accepted = Ok tt

abbrev pub fault_at : ℕ → ℕ → Fault
fault_at n p = record { number = n; place = p }

abbrev pub refused : ℕ → ℕ → Answer
refused n p = Err (fault_at n p)

-- Each case's number and place. Document 01: 0 is "accepted", with place 0.
abbrev pub number_of : Answer → ℕ
number_of Accepted = 0
number_of (Err f) = f.number

abbrev pub place_of : Answer → ℕ
place_of Accepted = 0
place_of (Err f) = f.place

-- Number m at place q comes before n at p. Document 01: "words upwards, and in a word the smaller number first."
abbrev pub before : ℕ → ℕ → ℕ → ℕ → Bool
before m q n p = ltb q p || (eqb q p && ltb m n)

-- Of two answers the one that is given.
abbrev pub earlier : Answer → Answer → Answer
earlier Accepted b = b
earlier (Err f) Accepted = Err f
earlier (Err f) (Err g) = cond (before g.number g.place f.number f.place) (Err g) (Err f)

-- A rule: the number and the place (a word of the command, a byte of the record) with which it refuses, and whether it holds.
pub record Rule : Type 0 where
  pub number : ℕ
  pub place : ℕ
  pub holds : Bool

abbrev pub rule : ℕ → ℕ → Bool → Rule
rule n p h = record { number = n; place = p; holds = h }

abbrev pub answer_by : Rule → Answer
answer_by r = cond r.holds Accepted (refused r.number r.place)

-- What a table of rules answers, in whichever order it lists them.
abbrev pub judged : List Rule → Answer
judged [] = Accepted
judged (r ∷ rs) = earlier (answer_by r) (judged rs)

-- A rule of a table by its number and place: whether it holds; true where there is none.
abbrev pub holds_at : ℕ → ℕ → List Rule → Bool
holds_at n p [] = true
holds_at n p (r ∷ rs) = cond (eqb r.number n && eqb r.place p) r.holds (holds_at n p rs)

-- The next answer where nothing was refused before it; and an answer that goes on unless a rule is broken.
abbrev pub next : Answer → Answer → Answer
next a b = result_and a b

abbrev pub unless : Answer → Rule → Answer
unless a r = next a (answer_by r)
