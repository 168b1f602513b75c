-- The numbers and places that a table of rules, and room behind it, can be answered with.
use mathlib.Core.Bool.{Bool, true, false, ◌&&◌, ◌||◌}
use mathlib.Core.List.{List, [], ◌∷◌}
use mathlib.Core.Logic.{inl, inr}
use mathlib.Core.Path.{◌≡◌, refl}
use Prim.Native.Nat.{ℕ}
use native.Mathlib.Omega.{arith}
use lib.Dec.{T, eqb, leb, ltb, eqb→eq, leb→le}
use lib.ListN.{length}
use Rattle.lists.proofs.Booleans.{both, either}
use Rattle.answers.specs.Answers.{Rule, number_of, place_of, judged, Accepted, refused, Answer}
use Rattle.answers.specs.Lending.{then_room}
use Rattle.answers.specs.Numbers.{Among, OneOf, among, all_among}
use Rattle.answers.specs.Tables.{Each}
use Rattle.std.specs.Prelude.{Err}
use Rattle.answers.proofs.Judging.{judged_by}

pub is_listed : (n p : ℕ) (places : List (ℕ × ℕ)) → T (among n p places) → Among n p places
is_listed n p [] t = absurd t
is_listed n p ((m, q) ∷ rest) t = by (eqb n m && eqb p q) (both (eqb n m) (eqb p q)) t (is_listed n p rest)
  where
    by : (b : Bool) → (T b → T (eqb n m) × T (eqb p q)) → T (b || among n p rest) → (T (among n p rest) → Among n p rest) → Among n p ((m, q) ∷ rest)
    by true same t further = let e = same tt in inl (eqb→eq n m e.0, eqb→eq p q e.1)
    by false same t further = inr (further t)

each_listed : (places : List (ℕ × ℕ)) (rs : List Rule) → T (all_among places rs) → Each (OneOf places) rs
each_listed places [] t = tt
each_listed places (r ∷ rs) t =
    let h = both (leb 1 r.number && among r.number r.place places) (all_among places rs) t in
    let k = both (leb 1 r.number) (among r.number r.place places) h.0 in
    ((leb→le 1 r.number k.0, is_listed r.number r.place places k.1), each_listed places rs h.1)

-- A table whose numbers and places are all in a list that has 0 at 0 is answered with one of the list.
pub table_listed : (places : List (ℕ × ℕ)) (rs : List Rule) → T (among 0 0 places) → T (all_among places rs) → OneOf places (judged rs)
table_listed places rs zero t = judged_by (OneOf places) (is_listed 0 0 places zero) rs (each_listed places rs t)

-- So is a fault of the list with room behind it, where the list has 14 at what is needed too.
pub room_listed : (places : List (ℕ × ℕ)) (fault : Answer) (needed : ℕ) (room : List ℕ)
    → T (among 0 0 places) → T (among 14 needed places) → OneOf places fault → OneOf places (then_room fault needed room)
room_listed places Accepted needed room zero short f =
    either (OneOf places) (ltb (length room) needed) (refused 14 needed) Accepted (omega arith, is_listed 14 needed places short) (is_listed 0 0 places zero)
room_listed places (Err g) needed room zero short f = f

-- Such an answer's number and place are in the list, and it is accepted by number 0 alone.
pub in_places : (places : List (ℕ × ℕ)) (a : Answer) → OneOf places a → Among (number_of a) (place_of a) places
in_places places Accepted h = h
in_places places (Err f) h = h.1

pub by_0 : (places : List (ℕ × ℕ)) (a : Answer) → OneOf places a → number_of a ≡ 0 → a ≡ Accepted
by_0 places Accepted h e = refl
by_0 places (Err f) h e = absurd (let k = h.0 in omega arith)
