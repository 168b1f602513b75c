-- What a table answers to a worked example.
use mathlib.Core.Path.{◌≡◌, refl, ap, ap₂, sym, ◌∙◌}
use mathlib.Core.Bool.{Bool, true, false, cond}
use mathlib.Core.List.{List, [], ◌∷◌}
use Prim.Native.Nat.{ℕ}
use native.Mathlib.Omega.{arith}
use lib.ListN.{length}
use Rattle.answers.specs.Answers.{Rule, earlier, judged, Accepted, refused}
use Rattle.answers.specs.Examples.{broken_in}

-- some rules are none
some_none : {A : Type 0} (x : A) (xs : List A) → x ∷ xs ≡ [] → ⊥
some_none x xs e = let z = ap length e in absurd (omega (arith, z))

-- the first of them, and those behind it
abbrev first_number : List (ℕ × ℕ) → ℕ
first_number [] = 0
first_number ((n, p) ∷ rest) = n

abbrev first_place : List (ℕ × ℕ) → ℕ
first_place [] = 0
first_place ((n, p) ∷ rest) = p

abbrev behind : List (ℕ × ℕ) → List (ℕ × ℕ)
behind [] = []
behind (x ∷ rest) = rest

-- One that breaks no rule is accepted.
pub none_answered : (rs : List Rule) → broken_in rs ≡ [] → judged rs ≡ Accepted
none_answered [] e = refl
none_answered (r ∷ rs) e = by r.holds e (none_answered rs)
  where
    by : (h : Bool) → cond h (broken_in rs) ((r.number, r.place) ∷ broken_in rs) ≡ [] → (broken_in rs ≡ [] → judged rs ≡ Accepted)
        → earlier (cond h Accepted (refused r.number r.place)) (judged rs) ≡ Accepted
    by true e rest = rest e
    by false e rest = absurd (some_none (r.number, r.place) (broken_in rs) e)

-- One that breaks one rule and no other is refused with its number and place, wherever it stands in the table.
pub one_answered : (rs : List Rule) (n p : ℕ) → broken_in rs ≡ (n, p) ∷ [] → judged rs ≡ refused n p
one_answered [] n p e = absurd (some_none (n, p) [] (sym e))
one_answered (r ∷ rs) n p e = by r.holds e (one_answered rs n p)
  where
    by : (h : Bool) → cond h (broken_in rs) ((r.number, r.place) ∷ broken_in rs) ≡ (n, p) ∷ [] → (broken_in rs ≡ (n, p) ∷ [] → judged rs ≡ refused n p)
        → earlier (cond h Accepted (refused r.number r.place)) (judged rs) ≡ refused n p
    by true e rest = rest e
    by false e rest =
        let heads : r.number ≡ n = ap first_number e in
        let places : r.place ≡ p = ap first_place e in
        let others : broken_in rs ≡ [] = ap behind e in
        ap (earlier (refused r.number r.place)) (none_answered rs others)
        ∙ ap₂ refused heads places
